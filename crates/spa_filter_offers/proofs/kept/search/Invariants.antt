use Rattle.std.specs.Prelude.{⊤}
use Rattle.spa_filter_offers.proofs.kept.search.Given as goal

abbrev pub invariant-loop-place : goal.invariant-loop-place
invariant-loop-place g l = ⊤
