use Rattle.std.proofs.Common.{arith}
use Rattle.spa_rewrite.proofs.deep.accept_deep.Goals as goal

pub loop-frames-smaller : goal.loop-frames-smaller
loop-frames-smaller c =
    let frames = c.resize.new.self in
    let room = c.in-Ok.ensures.len in
    let more = c.in-Err-TooDeep.ensures.full c.in-Err-TooDeep.field-0-is in
    omega arith
