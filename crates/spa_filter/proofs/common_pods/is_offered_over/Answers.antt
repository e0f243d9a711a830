use Rattle.std.proofs.Common.{◌∙◌, true≢false, refl, sym, subst, arith}
use Rattle.std.specs.List.{Contains}
use Rattle.std.specs.Prelude.{◌∷◌}
use Rattle.spa_format.specs.Tree.{choice, enum_choice, fixed}
use Rattle.spa_fixed_sized.specs.Choices.{choice_tree}
use Rattle.spa_format.proofs.Unique.{same_body}
use Rattle.spa_filter_offers.specs.Admits.{Admits}
use Rattle.spa_filter_offers.proofs.Offering.{IsSupported-admits}
use Rattle.spa_filter.proofs.Apart.{element_type, refused_plain}
use Rattle.spa_filter.proofs.CommonPods.{offered, plain_is, same_choice}
use Rattle.spa_value.proofs.TypeLaws.{type_of-choice_enum_tree}
use Rattle.spa_bytes.proofs.Passing.{passed_on}
use Rattle.spa_filter.proofs.common_pods.is_offered_over.Goals as goal

pub returns-in_err-choice-clause-cause : goal.returns-in_err-choice-clause-cause
returns-in_err-choice-clause-cause g c =
    let type = c.requires.0 ∙ g.met.T.CanonicalFixedSizedPod.its_type in
    passed_on _ _ _ c.from_residual.ensures.1
    (refused_plain _ _ c.args.body.now c.args.choice.now _ c.requires.0 (element_type _ g.T.CanonicalFixedSizedPod.kind type) c.in_err-choice.ensures.cause)

pub returns-then-not-admits-clause-cause : goal.returns-then-not-admits-clause-cause
returns-then-not-admits-clause-cause g c = λ v w h i s k.
    let pod = g.T.CanonicalFixedSizedPod in
    let type = c.requires.0 ∙ g.met.T.CanonicalFixedSizedPod.its_type in
    let choice = c.in_ok-choice.choice in
    let whole = same_choice pod.kind pod.fixed choice.0.0 choice.1 w _ i c.in_ok-choice.ensures.choice in
    let plain = plain_is pod.kind v c.args.body.now (pod.fixed c.of_body-x.result) (h.its_type ∙ type) h.content c.of_body-x.ensures in
    let there : Admits (choice_tree pod.kind pod.fixed choice) (fixed (pod.fixed c.of_body-x.result)) =
    subst (λ t. Admits t (fixed (pod.fixed c.of_body-x.result))) (sym whole)
    (subst (Admits w) plain.same (subst (Admits w) (plain.alone k.0 k.1.0) k.1.1)) in
    let f = c.if-not-admits.true in
    let t = c.admits.ensures.1 (((c.offer_of.ensures.offer choice.0.0).each (pod.fixed c.of_body-x.result)).0 there) in
    absurd (grind arith)

pub returns-clause-offered : goal.returns-clause-offered
returns-clause-offered g c = λ v w h i.
    let pod = g.T.CanonicalFixedSizedPod in
    let type = c.requires.0 ∙ g.met.T.CanonicalFixedSizedPod.its_type in
    let choice = c.in_ok-choice.choice in
    let t = choice_tree pod.kind pod.fixed choice in
    let typed = type_of-choice_enum_tree pod.kind pod.fixed choice.0.0 choice.1 in
    let admitted = ((c.offer_of.ensures.offer choice.0.0).each (pod.fixed c.of_body-x.result)).1 (c.admits.ensures.0 c.if-not-admits.false) in
    offered pod.kind v w t c.args.body.now c.args.choice.now (pod.fixed c.of_body-x.result) (h.its_type ∙ type) h.content
    c.of_body-x.ensures i typed c.in_ok-choice.ensures.choice
    (IsSupported-admits pod.kind pod.fixed g.met.T.CanonicalFixedSizedPod.its_kind choice.0.0 choice.1 (pod.fixed c.of_body-x.result) admitted) admitted

pub returns-then-is_value-clause-offered : goal.returns-then-is_value-clause-offered
returns-then-is_value-clause-offered g c = λ v w h i.
    let pod = g.T.CanonicalFixedSizedPod in
    let type = c.requires.0 ∙ g.met.T.CanonicalFixedSizedPod.its_type in
    let x = pod.fixed c.of_body-x.result in
    let e = c.in-Some.ensures in
    let p = e.are_values in
    let admitted : Contains (e.default ∷ p.others) x = subst (λ ys. Contains ys x) p.contents (e.is_one.0 c.if-is_value.true) in
    offered pod.kind v w (choice enum_choice p.flags pod.kind e.default p.others) c.args.body.now c.args.choice.now x
    (h.its_type ∙ type) h.content c.of_body-x.ensures i refl p.its_body tt admitted

pub returns-in-Some-clause-cause : goal.returns-in-Some-clause-cause
returns-in-Some-clause-cause g c = λ v w h i s k.
    let pod = g.T.CanonicalFixedSizedPod in
    let type = c.requires.0 ∙ g.met.T.CanonicalFixedSizedPod.its_type in
    let x = pod.fixed c.of_body-x.result in
    let e = c.in-Some.ensures in
    let p = e.are_values in
    let t = choice enum_choice p.flags pod.kind e.default p.others in
    let whole = same_body t w c.args.choice.now (sym i.its_type) p.its_body i.content in
    let plain = plain_is pod.kind v c.args.body.now x (h.its_type ∙ type) h.content c.of_body-x.ensures in
    let there : Admits t (fixed x) =
    subst (λ u. Admits u (fixed x)) (sym whole) (subst (Admits w) plain.same (subst (Admits w) (plain.alone k.0 k.1.0) k.1.1)) in
    absurd (true≢false (sym (e.is_one.1 (subst (λ ys. Contains ys x) (sym p.contents) there)) ∙ c.if-is_value.false))
