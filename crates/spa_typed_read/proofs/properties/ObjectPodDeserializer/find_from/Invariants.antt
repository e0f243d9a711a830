use Rattle.std.proofs.Common.{length}
use Rattle.spa_typed_read.specs.Lookup.{LeadsTo, LeadsToAll, place_or}
use Rattle.spa_typed_read.proofs.properties.ObjectPodDeserializer.find_from.Given as goal

abbrev pub invariant-loop-self : goal.invariant-loop-self
invariant-loop-self g l = record {
  leads : LeadsTo l.key l.left l.fn.from;
  next : LeadsToAll g.R.DeserializeProperties.asks (place_or l.next l.left) l.fn.from;
}

abbrev pub decreases-loop-self : goal.decreases-loop-self
decreases-loop-self g l = length l.left
