use Rattle.std.proofs.Common.{sym}
use Rattle.spa_filter.proofs.Plain.{IsPlainTree-view}
use Rattle.spa_filter.proofs.settling.into_settled.Goals as goal

pub returns-in_default : goal.returns-in_default
returns-in_default c =
    let plain = IsPlainTree-view c.args.value c.in_default.not-Choice in
    sym plain.own
