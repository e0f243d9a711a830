use Rattle.std.proofs.Common.{◌-◌, length}
use Rattle.spa_format.specs.Typed.{IsBytes}
use Rattle.spa_canonical.specs.Emit.{EncodesFirst}
use Rattle.spa_canonical.proofs.emitting.encode_leaves.Given as goal

abbrev pub invariant-loop-pods : goal.invariant-loop-pods
invariant-loop-pods l = EncodesFirst l.keyed l.initial.pods l.pods l.at l.at × IsBytes l.pods

abbrev pub decreases-loop-pods : goal.decreases-loop-pods
decreases-loop-pods l = length l.pods - l.at
