use Rattle.std.proofs.Common.{◌≡◌, ◌++◌, ap, subst, sym, ◌∙◌}
use Rattle.spa_value.specs.View.{view}
use Rattle.spa_text_read.specs.Grammar.{IsTextOf}
use Rattle.spa_text.specs.Printed.{HasNoFloat, line_of}
use Rattle.spa_text.proofs.laws.print_again.Goals as goal

pub returns : goal.returns
returns c = λ h.
    let v = view c.args.value.now in
    let again = view c.in_ok-again.again in
    let printed = c.in_ok-print.ensures.printed in
    let text : c.as_slice.result.now ≡ printed.0 = c.as_slice.ensures.value ∙ printed.1 ∙ ap (λ l. l ++ printed.0) c.new-first.ensures.items in
    let same : again ≡ v = c.in_ok-again.ensures v (subst (IsTextOf v) (sym text) printed.3) in
    let first : c.print.new.out.items ≡ line_of v = c.in_ok-print.ensures.exact h ∙ ap (λ l. l ++ line_of v) c.new-first.ensures.items in
    let second : c.print-printed.new.out.items ≡ line_of again =
    c.in_ok-printed.ensures.exact (subst HasNoFloat (sym same) h) ∙ ap (λ l. l ++ line_of again) c.new-second.ensures.items in
    second ∙ ap line_of same ∙ sym first
