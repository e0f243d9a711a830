use Rattle.std.proofs.Common.{◌∙◌, arith}
use Rattle.spa_recordings.proofs.Ended.{begins_at}
use Rattle.spa_recordings.proofs.cut.cut_at.Goals as goal

pub overflow_sub-result : goal.overflow_sub-result
overflow_sub-result c =
    let long = c.if-inner-lt-HEADER_LEN.false in
    let i = (begins_at c.args.pod.now c.cut_inside-inner.result.now c.cut_inside-inner.ensures (omega (arith, long))).its in omega (arith, i)

pub returns-clause-there : goal.returns-clause-there
returns-clause-there c =
    let long = c.if-inner-lt-HEADER_LEN.false in
    (begins_at c.args.pod.now c.cut_inside-inner.result.now c.cut_inside-inner.ensures (omega (arith, long))).same ∙ c.cut_inside-inner.ensures

pub returns-clause-behind : goal.returns-clause-behind
returns-clause-behind c =
    let long = c.if-inner-lt-HEADER_LEN.false in
    (begins_at c.args.pod.now c.cut_inside-inner.result.now c.cut_inside-inner.ensures (omega (arith, long))).behind

pub returns-clause-aligned : goal.returns-clause-aligned
returns-clause-aligned c =
    let long = c.if-inner-lt-HEADER_LEN.false in
    (begins_at c.args.pod.now c.cut_inside-inner.result.now c.cut_inside-inner.ensures (omega (arith, long))).aligned
