use Rattle.spa_builder.specs.State.{start}
use Rattle.spa_builder.proofs.Steps.{at_start}
use Rattle.spa_builder.proofs.builder.Builder.new.Goals as goal

pub invariant_of-result : goal.invariant_of-result
invariant_of-result c = (start, at_start _ _ c.new-bytes.ensures c.new-frames.ensures)
