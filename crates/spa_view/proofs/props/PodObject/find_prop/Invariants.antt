use Rattle.std.proofs.Common.{◌≡◌}
use Rattle.spa_format.specs.Walk.{property_walk, properties_of, first_with_key}
use Rattle.spa_view.specs.View.{object_bytes, props_left}
use Rattle.spa_view.proofs.props.PodObject.find_prop.Given as goal

abbrev pub invariant-loop-prop : goal.invariant-loop-prop
invariant-loop-prop l =
    (goal.iterator-loop-prop).can_next l.prop-iterator ×
    (goal.iterator-loop-prop).is_finite l.prop-iterator ×
    (first_with_key l.key.0 (property_walk (properties_of (object_bytes l.self))) ≡ first_with_key l.key.0 (props_left l.prop-iterator))
