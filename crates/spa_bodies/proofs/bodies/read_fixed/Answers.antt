use Rattle.std.proofs.Common.{refl, rules}
use Rattle.spa_format.specs.Faults.{of_fixed}
use Rattle.spa_bodies.proofs.bodies.read_fixed.Goals as goal

pub returns-then-body-SIZE-clause-refused : goal.returns-then-body-SIZE-clause-refused
returns-then-body-SIZE-clause-refused g c = of_fixed g.T.CanonicalFixedSizedPod.kind refl (search rules)
