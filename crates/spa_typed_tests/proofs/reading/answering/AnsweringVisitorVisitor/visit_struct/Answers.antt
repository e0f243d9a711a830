use Rattle.spa_typed_read.proofs.Stepping.{all_left, further_trans}
use Rattle.spa_typed_tests.proofs.reading.answering.AnsweringVisitorVisitor.visit_struct.Goals as goal

pub returns-clause-made : goal.returns-clause-made
returns-clause-made c =
    λ end. all_left _ _ (further_trans _ _ _ c.in_ok-first.ensures.same c.in_ok-second.ensures.same) end

pub returns-in_err-second-clause-same : goal.returns-in_err-second-clause-same
returns-in_err-second-clause-same c = further_trans _ _ _ c.deserialize_field.ensures.same c.deserialize_field-2.ensures.same

pub returns-clause-same : goal.returns-clause-same
returns-clause-same c = further_trans _ _ _ c.deserialize_field.ensures.same c.deserialize_field-2.ensures.same
