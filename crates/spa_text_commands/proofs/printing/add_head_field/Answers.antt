use Rattle.std.proofs.Common.{◌≡◌, ◌++◌, ◌∙◌, ap, string_bytes, subst}
use Rattle.spa_format.specs.Tree.{string}
use Rattle.spa_text_read.specs.Grammar.{IsTextOf}
use Rattle.spa_value.specs.View.{view}
use Rattle.spa_text_commands.specs.Messages.{head_text}
use Rattle.spa_text_commands.specs.Texts.{IsTextIn}
use Rattle.spa_text_commands.specs.Unread.{message_of}
use Rattle.spa_text_commands.specs.declared.printing.Layout.TheVariants.{OneLine}
use Rattle.spa_text_commands.proofs.PrintedPods.{head_added}
use Rattle.spa_text_commands.proofs.printing.add_head_field.Goals as goal

pub returns : goal.returns
returns c =
    let printed = c.in_ok-print.ensures.printed in
    let text = subst (λ value. IsTextOf (view value) printed.0) (c.deref.ensures ∙ c.from-value.ensures) printed.3 in
    let head = head_text (message_of c.args.head) in
    let words : string_bytes c.put_head.new.text ≡ head = c.in_ok-put_head.ensures ∙ ap (λ old. old ++ head) c.new-words.ensures.bytes in (
      printed.0,
      subst (λ s. IsTextIn OneLine (string s) printed.0) words (text, printed.4),
      head_added printed.0 _ _ _ _ c.in_ok-extend_from_slice.ensures.items printed.1 c.in_ok-push.ensures.items,
    )
