use Rattle.spa_typed_read.proofs.Stepping.{all_left, further_trans}
use Rattle.spa_typed_tests.proofs.reading.structs.StubbornVisitorVisitor.visit_struct.Goals as goal

pub returns-then-refused_as-2-clause-made : goal.returns-then-refused_as-2-clause-made
returns-then-refused_as-2-clause-made c =
    λ end. all_left _ _
    (further_trans _ _ _ c.deserialize_field-first.ensures.same c.deserialize_field-second.ensures.same) end
