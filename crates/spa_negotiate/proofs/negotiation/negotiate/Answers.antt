use Rattle.std.proofs.Common.{◌∙◌, subst}
use Rattle.spa_value.specs.Views.{property_views}
use Rattle.spa_negotiate.specs.declared.error.NegotiateError.TheVariants.{TypeMismatch, OutOfMemory}
use Rattle.spa_negotiate.specs.PropertyLists.{IsSettled}
use Rattle.spa_negotiate.proofs.Refusing.{cannot_meet}
use Rattle.spa_negotiate.proofs.Objects.{mismatch, objects_refused, objects_meet}
use Rattle.spa_negotiate.proofs.Settlements.{can_meet}
use Rattle.spa_bytes.proofs.Passing.{passed_on}
use Rattle.spa_negotiate.proofs.negotiation.negotiate.Goals as goal

pub returns-then-a-b-clause-refused : goal.returns-then-a-b-clause-refused
returns-then-a-b-clause-refused c =
    let law = c.objects_are_their_fields.ensures in
    cannot_meet _ _ TypeMismatch (mismatch law.fields law.made c.args.a.now c.args.b.now c.if-a-b.true)

pub returns-then-a-b-clause-cause : goal.returns-then-a-b-clause-cause
returns-then-a-b-clause-cause c =
    let law = c.objects_are_their_fields.ensures in
    mismatch law.fields law.made c.args.a.now c.args.b.now c.if-a-b.true

pub returns-in_err-others-clause-cause : goal.returns-in_err-others-clause-cause
returns-in_err-others-clause-cause c =
    let law = c.objects_are_their_fields.ensures in
    passed_on _ OutOfMemory _ c.from_residual.ensures.1
    (objects_refused law.fields law.made c.args.a.now c.args.b.now _ _
    c.as_slice-ours.ensures.value c.as_slice-theirs.ensures.value c.if-a-b.false OutOfMemory tt)

pub returns-in_err-first-clause-refused : goal.returns-in_err-first-clause-refused
returns-in_err-first-clause-refused c =
    let law = c.objects_are_their_fields.ensures in
    passed_on _ _ _ c.from_residual-in_err-first.ensures.1
    (cannot_meet _ _ _
    (objects_refused law.fields law.made c.args.a.now c.args.b.now _ _ c.as_slice-ours.ensures.value
    (c.in_ok-others.ensures.properties ∙ c.as_slice-theirs.ensures.value) c.if-a-b.false
    _ c.in_err-first.ensures.cause))

pub returns-in_err-first-clause-cause : goal.returns-in_err-first-clause-cause
returns-in_err-first-clause-cause c =
    let law = c.objects_are_their_fields.ensures in
    passed_on _ _ _ c.from_residual-in_err-first.ensures.1
    (objects_refused law.fields law.made c.args.a.now c.args.b.now _ _ c.as_slice-ours.ensures.value
    (c.in_ok-others.ensures.properties ∙ c.as_slice-theirs.ensures.value) c.if-a-b.false
    _ c.in_err-first.ensures.cause)

pub returns-in_err-properties-clause-cause : goal.returns-in_err-properties-clause-cause
returns-in_err-properties-clause-cause c =
    let law = c.objects_are_their_fields.ensures in
    passed_on _ OutOfMemory _ c.from_residual-in_err-properties.ensures.1
    (objects_refused law.fields law.made c.args.a.now c.args.b.now _ _
    c.as_slice-ours.ensures.value c.as_slice-theirs.ensures.value c.if-a-b.false OutOfMemory tt)

pub returns-clause-value : goal.returns-clause-value
returns-clause-value c =
    let law = c.objects_are_their_fields.ensures in
    objects_meet law.fields law.made c.args.a.now c.args.b.now _ _
    c.as_slice-ours.ensures.value c.as_slice-theirs.ensures.value c.if-a-b.false
    c.in_ok-properties.properties
    (c.in_ok-properties.ensures c.as_slice-ours.result.now
    (subst (λ ys. IsSettled c.as_slice-ours.result.now ys (property_views c.as_slice-ours.result.now) c.in_ok-first.first)
    c.in_ok-others.ensures.properties c.in_ok-first.ensures.settled))

pub returns-clause-accepted : goal.returns-clause-accepted
returns-clause-accepted c = can_meet _ _ _ (returns-clause-value c)
