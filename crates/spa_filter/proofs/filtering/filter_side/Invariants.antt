use Rattle.spa_filter.specs.PropertyLists.{IsFiltered}
use Rattle.spa_filter.proofs.Steps.{these}
use Rattle.spa_filter.proofs.filtering.filter_side.Given as goal

abbrev pub invariant-loop-property : goal.invariant-loop-property
invariant-loop-property l =
    IsFiltered l.ours.properties.now l.theirs.properties.now (these l.before l.side l.property-index)
    (record { met = l.met; keys = l.keys })
