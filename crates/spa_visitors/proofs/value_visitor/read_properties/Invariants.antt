use Rattle.std.proofs.Common.{◌≡◌, false, length}
use Rattle.spa_value.specs.Views.{property_views}
use Rattle.spa_typed_read.proofs.Stepping.{TookIn}
use Rattle.spa_visitors.proofs.value_visitor.read_properties.Given as goal

abbrev pub invariant-loop-value : goal.invariant-loop-value
invariant-loop-value l = record {
  took : TookIn l.fn.reader l.reader (property_views l.properties.items);
  good : l.fn.reader.reader.failed ≡ false → l.reader.reader.failed ≡ false;
}

abbrev pub decreases-loop-value : goal.decreases-loop-value
decreases-loop-value l = length l.reader.reader.left
