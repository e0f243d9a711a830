use Rattle.spa_typed_read.proofs.Stepping.{all_left_in, further_in_trans}
use Rattle.spa_typed_tests.proofs.reading.answering.AnsweringVisitorVisitor.visit_object.Goals as goal

pub returns-clause-made : goal.returns-clause-made
returns-clause-made c =
    λ end. all_left_in _ _ (further_in_trans _ _ _ c.in_ok-first.ensures.same c.in_ok-second.ensures.same) end

pub returns-in_err-second-clause-same : goal.returns-in_err-second-clause-same
returns-in_err-second-clause-same c = further_in_trans _ _ _ c.deserialize_property.ensures.same c.deserialize_property-2.ensures.same

pub returns-clause-same : goal.returns-clause-same
returns-clause-same c = further_in_trans _ _ _ c.deserialize_property.ensures.same c.deserialize_property-2.ensures.same
