use Rattle.spa_typed_read.proofs.Stepping.{all_as_in, all_none_in, all_under, further_in_trans}
use Rattle.spa_typed_tests.proofs.reading.objects.DeviceVisitorVisitor.visit_object.Goals as goal

pub returns-clause-made : goal.returns-clause-made
returns-clause-made c =
    λ end. all_as_in _ _ _ (λ ps e. (_, _, e))
    (all_under _ _ _ _ _ _ c.in_ok-name.ensures.property (all_under _ _ _ _ _ _ c.in_ok-volume.ensures.property (all_none_in _ end)))

pub returns-in_err-volume-clause-same : goal.returns-in_err-volume-clause-same
returns-in_err-volume-clause-same c =
    further_in_trans _ _ _ c.deserialize_property_key.ensures.same c.deserialize_property_key-2.ensures.same

pub returns-clause-same : goal.returns-clause-same
returns-clause-same c =
    further_in_trans _ _ _ c.deserialize_property_key.ensures.same c.deserialize_property_key-2.ensures.same
