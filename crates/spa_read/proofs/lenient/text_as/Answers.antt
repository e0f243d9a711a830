use Rattle.std.proofs.Common.{[], ◌∷◌, ◌++◌, ◌∙◌, ap, sym}
use Rattle.spa_read.proofs.Texts.{nul_found, nul_there}
use Rattle.spa_read.proofs.lenient.text_as.Goals as goal

pub unreachable-requires : goal.unreachable-requires
unreachable-requires c =
    let text = c.in-Some.field-0-1.now in
    nul_there _ text (c.in-Some.ensures.cases.0 ∙ ap (λ x. text ++ x ∷ []) c.if-last-ne-NUL.false) (sym c.in-None.ensures)

pub returns : goal.returns
returns c =
    let text = c.in-Some.field-0-1.now in
    nul_found _ text _ (c.in-Some.ensures.cases.0 ∙ ap (λ x. text ++ x ∷ []) c.if-last-ne-NUL.false) (sym c.in-Some-first_nul.ensures)
