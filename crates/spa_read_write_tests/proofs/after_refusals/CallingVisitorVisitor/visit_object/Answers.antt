use Rattle.spa_typed_read.proofs.Stepping.{all_left_in, further_in_trans}
use Rattle.spa_read_write_tests.proofs.after_refusals.CallingVisitorVisitor.visit_object.Goals as goal

pub returns-then-call-eq0-clause-same : goal.returns-then-call-eq0-clause-same
returns-then-call-eq0-clause-same c =
    further_in_trans _ _ _ c.property-call.ensures
    (further_in_trans _ _ _ c.property-how.ensures c.refused_property-refused.ensures)

pub returns-in-Some-clause-same : goal.returns-in-Some-clause-same
returns-in-Some-clause-same c =
    further_in_trans _ _ _ c.property-call.ensures
    (further_in_trans _ _ _ c.property-how.ensures
    (further_in_trans _ _ _ c.refused_property-refused.ensures c.next_property.ensures))

pub returns-in-None-clause-same : goal.returns-in-None-clause-same
returns-in-None-clause-same c =
    further_in_trans _ _ _ c.property-call.ensures
    (further_in_trans _ _ _ c.property-how.ensures
    (further_in_trans _ _ _ c.refused_property-refused.ensures c.next_property.ensures))

pub returns-in-None-clause-made : goal.returns-in-None-clause-made
returns-in-None-clause-made c =
    λ end. all_left_in _ _
    (further_in_trans _ _ _ c.property-call.ensures
    (further_in_trans _ _ _ c.property-how.ensures
    (further_in_trans _ _ _ c.refused_property-refused.ensures c.next_property.ensures))) end
