use Rattle.std.proofs.Common.{sym, ◌∙◌}
use Rattle.std.proofs.lemmas.Bool.{eqb-true}
use Rattle.spa_canonical.proofs.Looks.{list_ends}
use Rattle.spa_canonical.proofs.inside.look_into.Goals as goal

pub returns-then-is_empty : goal.returns-then-is_empty
returns-then-is_empty c = list_ends _ _ _ _ _ _ _ _ _ c.behind_leaves-surplus.ensures.passed (eqb-true _ _ (sym c.is_empty.ensures ∙ c.if-is_empty.true))
