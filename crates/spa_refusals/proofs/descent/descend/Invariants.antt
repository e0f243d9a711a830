use Rattle.std.specs.Prelude.{string_bytes}
use Rattle.spa_canonical.specs.Look.{from_pod}
use Rattle.spa_refusals.specs.Paths.{IsFaultIn, LeadsTo}
use Rattle.spa_refusals.proofs.descent.descend.Given as goal

abbrev pub invariant-loop-path : goal.invariant-loop-path
invariant-loop-path l = LeadsTo l.pod (string_bytes l.path) l.inner × IsFaultIn from_pod l.inner l.fault.place.now l.left l.fault.why

abbrev pub decreases-loop-path : goal.decreases-loop-path
decreases-loop-path l = l.left
