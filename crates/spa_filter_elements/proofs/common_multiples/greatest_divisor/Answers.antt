use Rattle.std.proofs.Common.{arith}
use Rattle.spa_filter_elements.proofs.Ratios.{HasRatio-step, HasRatio-end}
use Rattle.spa_filter_elements.proofs.common_multiples.greatest_divisor.Goals as goal

pub loop-second-preserved : goal.loop-second-preserved
loop-second-preserved c =
    let l = c.loop-second in
    (omega arith, λ g h. l.invariant.1 g (HasRatio-step l.first l.second g (omega arith) h))

pub returns : goal.returns
returns c =
    let l = c.loop-second in
    record {
      positive = l.invariant.0;
      ratio = l.invariant.1 l.first (HasRatio-end l.first l.second (omega arith));
    }
