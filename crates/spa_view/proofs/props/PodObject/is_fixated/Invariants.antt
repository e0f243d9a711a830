use Rattle.std.proofs.Common.{◌≡◌}
use Rattle.spa_format.specs.Walk.{property_walk, properties_of}
use Rattle.spa_format.specs.Fixation.{all_settled}
use Rattle.spa_view.specs.View.{object_bytes, props_left}
use Rattle.spa_view.proofs.props.PodObject.is_fixated.Given as goal

abbrev pub invariant-loop-prop : goal.invariant-loop-prop
invariant-loop-prop l =
    (goal.iterator-loop-prop).can_next l.prop-iterator ×
    (goal.iterator-loop-prop).is_finite l.prop-iterator ×
    (all_settled (property_walk (properties_of (object_bytes l.self))) ≡ all_settled (props_left l.prop-iterator))
