use Rattle.std.proofs.Common.{inl, inr, refl, sym, ◌∙◌}
use Rattle.std.proofs.lemmas.Result.{err_from_is_err_and}
use Rattle.example_types.proofs.Gains.{gain_declined, gain_left, gain_taken}
use Rattle.example_types.proofs.gain.GainVisitorVisitor.visit_object.Goals as goal

pub returns-then-type_-ne-OBJECT_PROPS-clause-declined : goal.returns-then-type_-ne-OBJECT_PROPS-clause-declined
returns-then-type_-ne-OBJECT_PROPS-clause-declined c =
    gain_declined c.members_are_fronts.ensures.property_parts _ _ _
    (λ good. inl (λ props. c.if-type_-ne-OBJECT_PROPS.true (c.type_.ensures ∙ props), refl))

pub returns-in_err-volume-clause-declined : goal.returns-in_err-volume-clause-declined
returns-in_err-volume-clause-declined c =
    let p = err_from_is_err_and c.from_residual.result c.from_residual.ensures.1 in
    rw (p.1, p.2)
    (gain_declined c.members_are_fronts.ensures.property_parts _ _ _ (λ good. inr (c.in_err-volume.ensures.cause good)))

pub returns-clause-left : goal.returns-clause-left
returns-clause-left c = gain_left c.members_are_fronts.ensures.property_parts _ _ _ _ c.in_ok-volume.ensures.property

pub returns-clause-made : goal.returns-clause-made
returns-clause-made c =
    gain_taken c.members_are_fronts.ensures.property_whole _ _ _ (sym c.type_.ensures ∙ c.if-type_-ne-OBJECT_PROPS.false) (sym c.id-id.ensures)
    c.in_ok-volume.ensures.property
