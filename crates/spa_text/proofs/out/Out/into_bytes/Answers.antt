use Rattle.std.proofs.Common.{ap, subst, sym, ◌++◌, ◌∙◌}
use Rattle.json.specs.Print.{ArePrintableOrBad, print}
use Rattle.json.proofs.Numbered.{ArePrintableOrBad-tokens}
use Rattle.spa_text.specs.Line.{HasNoEnd}
use Rattle.spa_text.proofs.Lines.{no_end-print}
use Rattle.spa_text.proofs.out.Out.into_bytes.Goals as goal

pub returns-clause-line : goal.returns-clause-line
returns-clause-line c =
    let inside = c.self.inside.writer in
    let own = subst ArePrintableOrBad c.into_inner.ensures.reads_back (ArePrintableOrBad-tokens (print inside.tokens)) in
    let text = c.into_inner.ensures.items ∙ ap (λ l. l ++ print inside.tokens) c.self.invariant.0 in
    subst HasNoEnd (sym text) (no_end-print inside.tokens own)
