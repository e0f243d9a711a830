use Rattle.std.proofs.Common.{◌∙◌, refl, subst, sym, true≢false}
use Rattle.spa_recordings.specs.GoingOn.{at_end, at_plausible, behind_pod}
use Rattle.spa_recordings.specs.Plausible.{IsNextPlausible, IsNoneBehind}
use Rattle.spa_recordings.proofs.going_on.resync.Goals as goal

pub returns-then-is_well_followed-clause-behind : goal.returns-then-is_well_followed-clause-behind
returns-then-is_well_followed-clause-behind c =
    behind_pod c.front_len-len.result (c.is_well_followed.ensures.0 c.if-is_well_followed.true) c.front_len-len.ensures

pub returns-in-Some-clause-behind : goal.returns-in-Some-clause-behind
returns-in-Some-clause-behind c =
    at_plausible c.in-Some.at c.in_ok-read.read c.with_one-overlap.result
    (λ w. true≢false (sym (c.is_well_followed.ensures.1 w) ∙ c.if-is_well_followed.false)) c.in_ok-read.ensures.to c.with_one-overlap.ensures
    (subst (λ z. IsNextPlausible c.args.pod.left.now z c.in-Some.at) c.sought_from.ensures c.in-Some.ensures.next)

pub returns-in-None-clause-behind : goal.returns-in-None-clause-behind
returns-in-None-clause-behind c =
    at_end _ c.in_ok-read.read c.with_one-overlap.result
    (λ w. true≢false (sym (c.is_well_followed.ensures.1 w) ∙ c.if-is_well_followed.false)) c.in_ok-read.ensures.to c.with_one-overlap.ensures
    (subst (λ z. IsNoneBehind c.args.pod.left.now z) c.sought_from.ensures c.in-None.ensures.none) refl
