use Rattle.std.proofs.Common.{ap, ◌++◌, ◌∙◌}
use Rattle.spa_text_commands.proofs.Values.{string_added}
use Rattle.spa_text_commands.proofs.listing.add_string.Goals as goal

pub returns : goal.returns
returns c =
    string_added _ _ _ _ _ _ _ _ _ _ c.in_ok-ending.ensures c.in_ok-push.ensures.items c.in_ok-add_hex.ensures c.in_ok-push-2.ensures.items
    (c.in_ok-extend_from_slice.ensures.items ∙ ap (λ m. c.push-2.new.self.items ++ m) c.as_bytes.ensures.value) c.in_ok-push-3.ensures.items
