use Rattle.std.proofs.Common.{subst}
use Rattle.spa_recordings.specs.Plausible.{IsParameter}
use Rattle.spa_recordings.proofs.Likely.{object_by, struct_by}
use Rattle.spa_recordings.proofs.plausible.is_plausible.Goals as goal

pub returns-then-front : goal.returns-then-front
returns-then-front c = struct_by c.args.bytes.now _ _ _ _ c.in-Some.ensures.there c.if-front.true c.are_whole_first.ensures

pub returns-then-is_parameter : goal.returns-then-is_parameter
returns-then-is_parameter c =
    object_by c.args.bytes.now _ _ _ _ _ c.in-Some.ensures.there c.if-front-2.false c.if-front-lt-HEADER_LEN.false c.split_at.ensures.back
    (subst IsParameter c.u32_at.ensures (c.is_parameter.ensures.0 c.if-is_parameter.true)) c.are_whole_first-then-is_parameter.ensures
