use Rattle.std.proofs.Common.{◌≡◌, ◌≤◌, ◌-◌, ◌++◌, length, take, drop}
use Rattle.spa_format.specs.Fixation.{fixated_properties}
use Rattle.spa_view.proofs.fixation.fixate_props.Given as goal

abbrev pub invariant-loop-extent : goal.invariant-loop-extent
invariant-loop-extent l =
    (l.at ≤ length l.props) ×
    (length l.props ≡ length l.initial.props) ×
    (take l.at l.props ++ fixated_properties (drop l.at l.props) ≡ fixated_properties l.initial.props)

abbrev pub decreases-loop-extent : goal.decreases-loop-extent
decreases-loop-extent l = length l.props - l.at
