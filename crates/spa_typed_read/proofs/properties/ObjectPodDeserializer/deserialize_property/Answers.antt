use Rattle.std.proofs.Common.{refl}
use Rattle.spa_typed_read.proofs.Stepping.{further_property, further_in_same}
use Rattle.spa_typed_read.proofs.properties.ObjectPodDeserializer.deserialize_property.Goals as goal

pub returns-then-is_empty-clause-same : goal.returns-then-is_empty-clause-same
returns-then-is_empty-clause-same g c = further_in_same _

pub returns-clause-same : goal.returns-clause-same
returns-clause-same g c =
    rw (← c.self.view_is)
    (further_property _ _ _ _ (λ v. g.P.PodDeserialize.reads v c.in_ok-value.value)
    (record {
      was_good = c.if-self.false;
      good = refl;
      header = c.if-self-lt-HEADER_LEN.false;
      its_key = refl;
      its_flags = refl;
      value = rw (← c.rest-self-inside.ensures, c.split_at.ensures.back) at c.in_ok-value.ensures.read;
      after = refl;
      object = record { type = refl; id = refl };
    }))
