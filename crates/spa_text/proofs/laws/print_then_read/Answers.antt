use Rattle.std.proofs.Common.{◌≡◌, ◌++◌, ap, subst, sym, ◌∙◌}
use Rattle.std.specs.Str.{IsUtf8}
use Rattle.spa_value.specs.View.{view}
use Rattle.spa_text_read.specs.Grammar.{IsTextOf}
use Rattle.spa_text.proofs.laws.print_then_read.Goals as goal

pub read_again-requires : goal.read_again-requires
read_again-requires c =
    let v = view c.args.value.now in
    let printed = c.in_ok-print.ensures.printed in
    let text : printed.0 ≡ c.as_slice.result.now =
    sym (c.as_slice.ensures.value ∙ printed.1 ∙ ap (λ l. l ++ printed.0) c.new-bytes.ensures.items) in
    (subst IsUtf8 text printed.2, (v, subst (IsTextOf v) text printed.3))

pub returns : goal.returns
returns c =
    let v = view c.args.value.now in
    let printed = c.in_ok-print.ensures.printed in
    let text : printed.0 ≡ c.as_slice.result.now =
    sym (c.as_slice.ensures.value ∙ printed.1 ∙ ap (λ l. l ++ printed.0) c.new-bytes.ensures.items) in
    c.read_again.ensures v (subst (IsTextOf v) text printed.3)
