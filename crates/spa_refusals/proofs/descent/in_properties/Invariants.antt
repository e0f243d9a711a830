use Rattle.std.proofs.Common.{◌≡◌, ◌≤◌, length}
use Rattle.std.specs.Prelude.{string_bytes}
use Rattle.spa_canonical.specs.Look.{from_properties}
use Rattle.spa_refusals.specs.Paths.{IsFaultIn}
use Rattle.spa_refusals.proofs.Passing.{Passed}
use Rattle.spa_refusals.proofs.descent.in_properties.Given as goal

abbrev pub invariant-loop-left : goal.invariant-loop-left
invariant-loop-left l =
    Passed l.properties l.left × (string_bytes l.path ≡ string_bytes l.fn.path)
    × IsFaultIn from_properties l.left l.fault.place.now l.offset l.fault.why × (l.offset ≤ l.at)

abbrev pub decreases-loop-left : goal.decreases-loop-left
decreases-loop-left l = length l.left
