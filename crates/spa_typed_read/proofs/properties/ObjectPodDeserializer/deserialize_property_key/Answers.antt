use Rattle.spa_fixed_sized.specs.declared.fault.DeserializeError.TheVariants as error
use Rattle.spa_format.specs.Words.{header_size}
use Rattle.spa_typed_read.specs.Members.{key_missing, key_other, key_short, value_refused, wrong_key}
use Rattle.std.proofs.Common.{[], ◌≢◌, length, refl, ap, ◌∙◌, ⊎_elim}
use Rattle.std.proofs.lemmas.Bool.{cases_lt}
use Rattle.spa_typed_read.proofs.properties.ObjectPodDeserializer.deserialize_property_key.Goals as goal

pub returns-then-found-key-clause-refused : goal.returns-then-found-key-clause-refused
returns-then-found-key-clause-refused g c =
    wrong_key c.in-Ok-Some.found c.in-Ok-Some.flags.0 refl c.if-found-key.true
    (c.in-Ok-Some.value, rw c.in-Ok-Some.field-0-is at c.in-Ok-Some.ensures.property)

pub returns-then-found-key-clause-cause : goal.returns-then-found-key-clause-cause
returns-then-found-key-clause-cause g c =
    let taken = rw c.in-Ok-Some.field-0-is at c.in-Ok-Some.ensures.property in
    λ good. key_other taken.header (λ k. c.if-found-key.true (taken.its_key ∙ k)) (ap error.PropertyWrongKey taken.its_key)

pub returns-in-Ok-None-clause-cause : goal.returns-in-Ok-None-clause-cause
returns-in-Ok-None-clause-cause g c =
    let end = rw c.in-Ok-None.field-0-is at c.in-Ok-None.ensures.property in
    λ good. key_missing end.1.none_left refl

pub returns-in-Err-clause-cause : goal.returns-in-Err-clause-cause
returns-in-Err-clause-cause g c =
    let left = c.args.self.now.reader.left in
    λ good.
    let some : left ≢ [] = λ none. cc (c.in-Err.ensures.ends (record { good = good; none_left = none })) in
    ⊎_elim (λ cut. key_short some cut (c.in-Err.ensures.short good some cut))
    (λ long. value_refused long (c.in-Err.ensures.refused good long)) (cases_lt (length left) header_size)
