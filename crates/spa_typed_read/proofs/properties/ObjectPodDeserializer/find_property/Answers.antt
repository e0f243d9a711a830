use Rattle.spa_typed_read.proofs.Lookups.{finds_first}
use Rattle.spa_typed_read.proofs.properties.ObjectPodDeserializer.find_property.Goals as goal

pub returns-in-Ok-clause-first : goal.returns-in-Ok-clause-first
returns-in-Ok-clause-first g c = λ good. finds_first g.P.PodDeserialize.reads c.args.key _ _ (rw (← c.self.view_is) (c.in-Ok.ensures.found good))

pub returns-in-Err-clause-refused : goal.returns-in-Err-clause-refused
returns-in-Err-clause-refused g c = λ good. rw (← c.self.view_is) (c.in-Err.ensures.refused good)
