use Rattle.std.proofs.Common.{drop}
use Rattle.spa_refusals.proofs.Listing.{SaidSoFar}
use Rattle.spa_refusals.proofs.several.add_refusals.Given as goal

abbrev pub invariant-loop-pod : goal.invariant-loop-pod
invariant-loop-pod l = SaidSoFar l.reading l.before l.input l.pods (drop l.pod-index l.pods) l.fn.out.items l.out.items
