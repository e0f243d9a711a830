use Rattle.std.proofs.Common.{subst}
use Rattle.std.proofs.lemmas.Result.{on_ok_weaker, IfErr-weaker}
use Rattle.spa_fixed_sized.specs.Choices.{choice_tree}
use Rattle.spa_value.specs.View.{view}
use Rattle.spa_value.proofs.TypeLaws.{type_of-choice_enum_tree}
use Rattle.spa_filter.specs.Values.{AreApart, ValuesMeet}
use Rattle.spa_filter.proofs.Apart.{refused_choices}
use Rattle.spa_filter.proofs.CommonPods.{appended_over, same_choice, unwritten_over}
use Rattle.spa_bytes.proofs.Passing.{passed_on}
use Rattle.spa_filter.proofs.choices.put_read.Goals as goal

pub returns-in_err-theirs-clause-cause : goal.returns-in_err-theirs-clause-cause
returns-in_err-theirs-clause-cause g c =
    passed_on _ _ _ c.from_residual-in_err-theirs.ensures.1
    (λ v w h i. refused_choices _ c.args.a.now c.args.b.now _ c.requires c.in_err-theirs.ensures.cause v w h i)

pub returns-in-Some-clause-appended : goal.returns-in-Some-clause-appended
returns-in-Some-clause-appended g c =
    let k = g.T.CanonicalFixedSizedPod.kind in
    let f = g.T.CanonicalFixedSizedPod.fixed in
    let ours = c.in_ok-ours.ours in
    let theirs = c.in_ok-theirs.theirs in
    let met = subst (ValuesMeet (choice_tree k f ours) (choice_tree k f theirs)) c.in-Some.is c.in-Ok.ensures in
    on_ok_weaker c.put_value.result
    (λ p v w h i.
    appended_over v w (choice_tree k f ours) (choice_tree k f theirs) (view c.in-Some.value) _ _ _ _ h i (type_of-choice_enum_tree k f ours.0.0 ours.1)
    (type_of-choice_enum_tree k f theirs.0.0 theirs.1) c.in_ok-ours.ensures.choice c.in_ok-theirs.ensures.choice met.0 met.1 (p met.1.no_flags))
    c.put_value.ensures.appended

pub returns-in-Some-clause-cause : goal.returns-in-Some-clause-cause
returns-in-Some-clause-cause g c =
    let k = g.T.CanonicalFixedSizedPod.kind in
    let f = g.T.CanonicalFixedSizedPod.fixed in
    let ours = c.in_ok-ours.ours in
    let theirs = c.in_ok-theirs.theirs in
    let met = subst (ValuesMeet (choice_tree k f ours) (choice_tree k f theirs)) c.in-Some.is c.in-Ok.ensures in
    IfErr-weaker c.put_value.result _ _
    (λ e p v w h i.
    unwritten_over k f g.met.T.CanonicalFixedSizedPod.its_kind ours.0.0 ours.1 v w (choice_tree k f theirs) (view c.in-Some.value) e
    (same_choice k f ours.0.0 ours.1 v _ h c.in_ok-ours.ensures.choice) (same_choice k f theirs.0.0 theirs.1 w _ i c.in_ok-theirs.ensures.choice)
    met.0 met.1 p)
    c.put_value.ensures.cause

pub returns-clause-cause : goal.returns-clause-cause
returns-clause-cause g c = λ v w h i.
    let k = g.T.CanonicalFixedSizedPod.kind in
    let f = g.T.CanonicalFixedSizedPod.fixed in
    let ours = c.in_ok-ours.ours in
    let theirs = c.in_ok-theirs.theirs in
    let apart = subst (ValuesMeet (choice_tree k f ours) (choice_tree k f theirs)) c.in-None.is c.in-Ok.ensures in
    subst (AreApart v) (same_choice k f theirs.0.0 theirs.1 w _ i c.in_ok-theirs.ensures.choice)
    (subst (λ t. AreApart t (choice_tree k f theirs)) (same_choice k f ours.0.0 ours.1 v _ h c.in_ok-ours.ensures.choice) apart)
