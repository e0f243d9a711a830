use Rattle.std.proofs.Common.{subst}
use Rattle.spa_canonical.specs.Look.{IsRejected}
use Rattle.spa_canonical.proofs.Accepted.{behind_left, left_behind, missed_behind, shorter_left}
use Rattle.spa_canonical.proofs.Changed.{changed_behind}
use Rattle.spa_canonical.proofs.Stretches.{no_first_member}
use Rattle.spa_rewrite.proofs.deep.changed_pods.Goals as goal

pub loop-all-init : goal.loop-all-init
loop-all-init c = no_first_member c.args.input.now

pub returns-in-Ok-clause-accepted : goal.returns-in-Ok-clause-accepted
returns-in-Ok-clause-accepted c =
    let h = c.loop-all.invariant in
    changed_behind _ h.first _ h.values _ h.parts h.members c.in-Ok.ensures.accepted

pub returns-in-Err-clause-left : goal.returns-in-Err-clause-left
returns-in-Err-clause-left c = left_behind _ _ _ c.loop-all.invariant c.in-Err.ensures.left

pub returns-in-Err-clause-missed : goal.returns-in-Err-clause-missed
returns-in-Err-clause-missed c = missed_behind _ _ c.loop-all.invariant c.in-Err.ensures.missed

pub accept_deep-requires : goal.accept_deep-requires
accept_deep-requires c =
    let refused = c.in-Err-default-TooDeep in
    subst (IsRejected refused.pod.now) refused.field-0-1-is refused.ensures.rejected

pub loop-all-preserved : goal.loop-all-preserved
loop-all-preserved c =
    let a = c.in-Ok-accept_deep.ensures.accepted in
    behind_left _ _ _ _ a.value c.loop-all.invariant c.in-Err-default-TooDeep.ensures.left a.begins

pub loop-all-smaller : goal.loop-all-smaller
loop-all-smaller c =
    let a = c.in-Ok-accept_deep.ensures.accepted in
    shorter_left _ _ _ a.value c.in-Err-default-TooDeep.ensures.left a.begins

pub returns-in-Err-accept_deep-clause-left : goal.returns-in-Err-accept_deep-clause-left
returns-in-Err-accept_deep-clause-left c = left_behind _ _ _ c.loop-all.invariant c.in-Err-default-TooDeep.ensures.left

pub returns-in-Err-accept_deep-clause-missed : goal.returns-in-Err-accept_deep-clause-missed
returns-in-Err-accept_deep-clause-missed c = missed_behind _ _ c.loop-all.invariant c.in-Err-default-TooDeep.ensures.missed
