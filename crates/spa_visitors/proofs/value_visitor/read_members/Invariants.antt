use Rattle.std.proofs.Common.{◌≡◌, false, length}
use Rattle.spa_value.specs.Views.{views}
use Rattle.spa_typed_read.proofs.Stepping.{Took}
use Rattle.spa_visitors.proofs.value_visitor.read_members.Given as goal

abbrev pub invariant-loop-member : goal.invariant-loop-member
invariant-loop-member l = record {
  took : Took l.fn.reader l.reader (views l.members.items);
  good : l.fn.reader.failed ≡ false → l.reader.failed ≡ false;
}

abbrev pub decreases-loop-member : goal.decreases-loop-member
decreases-loop-member l = length l.reader.left
