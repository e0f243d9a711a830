use Rattle.std.proofs.Common.{ap, ◌∙◌, sym, refl, subst}
use Rattle.spa_format.specs.Tree.{object}
use Rattle.spa_format.specs.Front.{Begins, rest_of}
use Rattle.spa_format.specs.Fixation.{default_properties}
use Rattle.spa_format.proofs.FixatedObjects.{rest_of-fixated_bytes, object_fixated}
use Rattle.spa_view.proofs.FixationSteps.{put_fixated, object_there, object_at_front}
use Rattle.spa_view.proofs.props.PodObject.fixate.Goals as goal

pub returns-then-not-is_object-clause-refused : goal.returns-then-not-is_object-clause-refused
returns-then-not-is_object-clause-refused c =
    let no = c.if-not-is_object.true in
    (λ h. let yes = c.is_object.ensures.1 (object_at_front c.args.bytes.now c.in-Some.pod.bytes.now c.in-Some.ensures.front h) in absurd (cc), refl)

pub returns-clause-ok : goal.returns-clause-ok
returns-clause-ok c =
    object_there c.args.bytes.now c.in-Some.pod.bytes.now c.in-Some.ensures.there c.in-Some.ensures.front (c.is_object.ensures.0 c.if-not-is_object.false)

pub returns-clause-fixated : goal.returns-clause-fixated
returns-clause-fixated c =
    put_fixated c.args.bytes.now c.in-Some.pod.bytes.now c.fixate_props.new.props c.size.result
    c.in-Some.ensures.there c.in-Some.ensures.front c.size.ensures (c.is_object.ensures.0 c.if-not-is_object.false).1 c.fixate_props.ensures

pub returns-clause-accepted : goal.returns-clause-accepted
returns-clause-accepted c t i ps h =
    subst (λ z. Begins z (object t i (default_properties ps))) (sym (returns-clause-fixated c)) (object_fixated t i ps c.args.bytes.now h)

pub returns-clause-rest : goal.returns-clause-rest
returns-clause-rest c =
    ap rest_of (returns-clause-fixated c) ∙ rest_of-fixated_bytes c.args.bytes.now (returns-clause-ok c)
