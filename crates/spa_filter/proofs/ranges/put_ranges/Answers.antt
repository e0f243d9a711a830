use Rattle.std.proofs.Common.{sym, subst, ◌∙◌, true≢false}
use Rattle.spa_filter_elements.specs.Order.{IsOrderedKind}
use Rattle.spa_filter_elements.proofs.Order.{IsOrderedKind-ordered}
use Rattle.std.proofs.lemmas.Result.{on_ok_weaker, IfErr-weaker}
use Rattle.spa_filter.proofs.RangeValues.{appended_range, no_range, refused_range}
use Rattle.spa_filter.proofs.ranges.put_ranges.Goals as goal

pub returns-then-not-is_at_most-clause-cause : goal.returns-then-not-is_at_most-clause-cause
returns-then-not-is_at_most-clause-cause g c = λ v w i j s.
    let pod = g.T.CanonicalFixedSizedPod in
    let f = pod.fixed in
    let ours = c.in-Some.ours in
    let theirs = c.in-Some-range_of.theirs in
    no_range pod.kind v w (f ours.default) (f ours.min) (f ours.max) (f theirs.default) (f theirs.min) (f theirs.max) c.args.a.now c.args.b.now
    c.in-Some.ensures c.in-Some-range_of.ensures i j (f c.greater-low.result) (f c.lesser-high.result) c.greater-low.ensures c.lesser-high.ensures
    (λ h. true≢false (sym (c.is_at_most.ensures.1 h) ∙ c.if-not-is_at_most.true))

pub returns-clause-appended : goal.returns-clause-appended
returns-clause-appended g c =
    on_ok_weaker c.put_choice_of.result
    (λ put v w i j.
    let pod = g.T.CanonicalFixedSizedPod in
    let f = pod.fixed in
    let ours = c.in-Some.ours in
    let theirs = c.in-Some-range_of.theirs in
    let none = c.empty.ensures tt in
    let ordered =
    subst IsOrderedKind (g.met.T.CanonicalFixedSizedPod.its_kind c.greater-low.result)
    (IsOrderedKind-ordered (f c.greater-low.result) (f c.lesser-high.result) (c.is_at_most.ensures.0 c.if-not-is_at_most.false)) in
    appended_range pod.kind v w (f ours.default) (f ours.min) (f ours.max) (f theirs.default) (f theirs.min) (f theirs.max) c.args.a.now c.args.b.now
    c.in-Some.ensures c.in-Some-range_of.ensures i j (f c.greater-low.result) (f c.lesser-high.result) c.greater-low.ensures c.lesser-high.ensures
    (f c.default_within.result) c.default_within.ensures ordered c.empty.result.0 _ _ none (put none))
    c.put_choice_of.ensures.appended

pub returns-clause-cause : goal.returns-clause-cause
returns-clause-cause g c =
    IfErr-weaker c.put_choice_of.result _ _
    (λ why r v w i j.
    let pod = g.T.CanonicalFixedSizedPod in
    let f = pod.fixed in
    let ours = c.in-Some.ours in
    let theirs = c.in-Some-range_of.theirs in
    let none = c.empty.ensures tt in
    let ordered =
    subst IsOrderedKind (g.met.T.CanonicalFixedSizedPod.its_kind c.greater-low.result)
    (IsOrderedKind-ordered (f c.greater-low.result) (f c.lesser-high.result) (c.is_at_most.ensures.0 c.if-not-is_at_most.false)) in
    refused_range pod.kind v w (f ours.default) (f ours.min) (f ours.max) (f theirs.default) (f theirs.min) (f theirs.max) c.args.a.now c.args.b.now
    c.in-Some.ensures c.in-Some-range_of.ensures i j (f c.greater-low.result) (f c.lesser-high.result) c.greater-low.ensures c.lesser-high.ensures
    (f c.default_within.result) c.default_within.ensures ordered c.empty.result.0 why none r)
    c.put_choice_of.ensures.cause
