use Rattle.std.proofs.Common.{sym, ◌∙◌, refl}
use Rattle.std.proofs.lemmas.Bool.{eqb-true}
use Rattle.spa_canonical.proofs.Looks.{list_ends}
use Rattle.spa_canonical.proofs.inside.are_flat_properties.Goals as goal

pub returns : goal.returns
returns c = λ e.
    (list_ends _ _ _ _ _ _ _ _ _ c.behind_each.ensures.passed (eqb-true _ _ (sym c.is_empty.ensures ∙ e))).own refl
