use Rattle.spa_typed_read.proofs.Stepping.{all_left_in, further_in_trans}
use Rattle.spa_typed_tests.proofs.reading.objects.AskingVisitorVisitor.visit_object.Goals as goal

pub returns-then-is_missing-clause-made : goal.returns-then-is_missing-clause-made
returns-then-is_missing-clause-made c =
    λ end. all_left_in _ _
    (further_in_trans _ _ _ c.deserialize_property_key-first.ensures.same c.deserialize_property_key-second.ensures.same) end
