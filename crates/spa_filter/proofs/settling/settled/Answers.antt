use Rattle.std.proofs.Common.{sym, ◌∙◌}
use Rattle.spa_filter.proofs.Plain.{IsPlainTree-view}
use Rattle.spa_filter.proofs.settling.settled.Goals as goal

pub returns-in_ok-clone-in_default : goal.returns-in_ok-clone-in_default
returns-in_ok-clone-in_default c =
    let plain = IsPlainTree-view c.args.value.now c.in_default.not-Choice in
    c.in_ok-clone-in_default.ensures.cases ∙ sym plain.own
