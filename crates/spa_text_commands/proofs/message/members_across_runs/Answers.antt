use Rattle.std.proofs.Common.{◌≡◌, ◌∙◌, ap, is_some, rules, true}
use Rattle.spa_value.specs.Views.{views}
use Rattle.spa_text_commands.specs.Messages.{message_in}
use Rattle.spa_text_commands.proofs.Heads.{five_members, without_both}
use Rattle.spa_text_commands.proofs.message.members_across_runs.Goals as goal

pub index_mut-requires : goal.index_mut-requires
index_mut-requires c =
    let is : is_some c.head_of_members.result ≡ true = search rules in
    let many = five_members _ c.args.members.items is (c.head_of_members.ensures ∙ ap (λ l. message_in (views l)) c.as_slice.ensures.value) in
    search rules

pub index_mut-requires-then-is_some : goal.index_mut-requires-then-is_some
index_mut-requires-then-is_some c =
    let is : is_some c.head_of_members.result ≡ true = search rules in
    let many = five_members _ c.args.members.items is (c.head_of_members.ensures ∙ ap (λ l. message_in (views l)) c.as_slice.ensures.value) in
    search rules

pub returns-then-is_some : goal.returns-then-is_some
returns-then-is_some c =
    without_both c.head_of_members.result c.args.members.items (search rules)
    (c.head_of_members.ensures ∙ ap (λ l. message_in (views l)) c.as_slice.ensures.value)
