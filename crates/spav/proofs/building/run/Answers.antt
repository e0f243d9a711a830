use Rattle.std.proofs.Common.{◌<◌, length, arith}
use Rattle.spav.proofs.Runs.{goes_further, stops_here}
use Rattle.spav.proofs.building.run.Goals as goal

pub returns-in-Err-clause-stops : goal.returns-in-Err-clause-stops
returns-in-Err-clause-stops c = stops_here _ _ _ _ _ _ _ _ c.loop-at-test.true c.loop-at.invariant.1 c.in-Err.ensures

pub loop-at-preserved : goal.loop-at-preserved
loop-at-preserved c =
    let l : c.loop-at.at < length c.args.calls.now = c.loop-at-test.true in
    (omega arith, goes_further _ _ _ _ _ _ _ l c.loop-at.invariant.1 c.in_default.ensures)
