use Rattle.std.proofs.Common.{refl}
use Rattle.spa_typed_read.specs.Lookup.{arrived}
use Rattle.spa_typed_read.proofs.properties.ObjectPodDeserializer.find_properties.Goals as goal

pub returns-clause-found : goal.returns-clause-found
returns-clause-found g c = λ good. rw (← c.self.view_is) (c.find_from.ensures.found good _ (record { each = λ key a. arrived _ refl }))

pub returns-clause-named : goal.returns-clause-named
returns-clause-named g c = λ good. rw (← c.self.view_is) (c.find_from.ensures.named good _ (record { each = λ key a. arrived _ refl }))

pub returns-clause-refused : goal.returns-clause-refused
returns-clause-refused g c = λ good. rw (← c.self.view_is) (c.find_from.ensures.refused good _ (record { each = λ key a. arrived _ refl }))

pub returns-clause-memory : goal.returns-clause-memory
returns-clause-memory g c = λ good. rw (← c.self.view_is) (c.find_from.ensures.memory good _ (record { each = λ key a. arrived _ refl }))
