use Rattle.std.proofs.Common.{◌≡◌, false, length}
use Rattle.spa_typed_read.specs.Members.{FurtherIn}
use Rattle.spa_typed_read.proofs.properties.ObjectPodDeserializer.skip_properties.Given as goal

abbrev pub invariant-loop-value : goal.invariant-loop-value
invariant-loop-value l = record {
  further : FurtherIn l.fn.self l.self;
  good : l.fn.self.reader.failed ≡ false → l.self.reader.failed ≡ false;
}

abbrev pub decreases-loop-value : goal.decreases-loop-value
decreases-loop-value l = length l.self.reader.left
