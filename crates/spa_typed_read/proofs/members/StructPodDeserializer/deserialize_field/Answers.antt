use Rattle.std.proofs.Common.{refl}
use Rattle.spa_typed_read.proofs.Stepping.{further_field, further_same}
use Rattle.spa_typed_read.proofs.members.StructPodDeserializer.deserialize_field.Goals as goal

pub returns-then-is_empty-clause-same : goal.returns-then-is_empty-clause-same
returns-then-is_empty-clause-same g c = further_same _

pub returns-clause-same : goal.returns-clause-same
returns-clause-same g c =
    rw (← c.self.view_is)
    (further_field _ _ (λ v. g.P.PodDeserialize.reads v c.in_ok-value.value)
    (record {
      was_good = c.if-self.false;
      good = refl;
      field = rw (← c.rest-self-inside.ensures) at c.in_ok-value.ensures.read;
      after = refl;
    }))
