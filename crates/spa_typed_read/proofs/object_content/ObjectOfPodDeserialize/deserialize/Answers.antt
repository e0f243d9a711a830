use Rattle.std.proofs.Common.{◌≡◌, ◌∙◌, ap, inl, inr, refl, sym}
use Rattle.spa_format.specs.Tree.{object}
use Rattle.spa_fixed_sized.specs.declared.fault.DeserializeError.TheVariants as error
use Rattle.spa_typed_read.specs.Lookup.{AreNoProperties, NoneRead, asked_for, not_object, other_object, passed}
use Rattle.spa_typed_read.specs.ExactlyLaws.{fault_to}
use Rattle.spa_typed_read.proofs.Exactly.{asked_takes, object_unopened, object_unread, passed_takes}
use Rattle.spa_typed_read.proofs.Fronts.{object_read}
use Rattle.spa_typed_read.proofs.Stepping.{all_left_in}
use Rattle.spa_typed_read.proofs.object_content.ObjectOfPodDeserialize.deserialize.Goals as goal
use Rattle.spa_typed_read.proofs.object_content.ObjectOfPodDeserialize.deserialize.Goals.{then-type_-via-then-type_, then-type_-via-else-type_+then-id}

pub returns-in-Err-clause-refused : goal.returns-in-Err-clause-refused
returns-in-Err-clause-refused g c = (
  not_object c.in-Err.ensures.refused,
  object_unopened _ _ g.P.DeserializeProperties.reads_properties _ _ _ c.in-Err.ensures.refused,
)

pub returns-then-type_-clause-refused : goal.returns-then-type_-clause-refused
returns-then-type_-clause-refused g c =
    let o = c.in-Ok.ensures.opens in
    elim c.then-type_.branch [
      | then-type_-via-then-type_ w ↦ (
        other_object _ o (inl (λ t. w.if-type_.true (c.type_.ensures ∙ t))) refl,
        object_unread _ _ g.P.DeserializeProperties.reads_properties _ error.UnsupportedType _ _ o
            (λ ps x t i m r. w.if-type_.true (c.type_.ensures ∙ sym t)) tt,
      )
      | then-type_-via-else-type_+then-id w ↦ (
        other_object _ o (inr (λ i. w.if-id.true (w.id.ensures ∙ i))) refl,
        object_unread _ _ g.P.DeserializeProperties.reads_properties _ error.UnsupportedType _ _ o
            (λ ps x t i m r. w.if-id.true (w.id.ensures ∙ sym i)) tt,
      )
    ]

pub returns-in-Err-find_properties-clause-refused : goal.returns-in-Err-find_properties-clause-refused
returns-in-Err-find_properties-clause-refused g c =
    let o = c.in-Ok.ensures.opens in
    let takes = g.P.DeserializeProperties.takes_memory in (
      asked_for _ o (c.in-Err-find_properties.ensures.named o.good),
      object_unread _ _ g.P.DeserializeProperties.reads_properties _ c.in-Err-find_properties.e _ _ o
          (fault_to (NoneRead g.P.DeserializeProperties.reads_properties _) _ c.in-Err-find_properties.e (λ n ps x t i m. n ps x m)
          (c.in-Err-find_properties.ensures.refused o.good))
          (asked_takes takes _ _ c.in-Err-find_properties.e o (c.in-Err-find_properties.ensures.memory o.good)),
    )

pub returns-in-Err-skip_properties-clause-refused : goal.returns-in-Err-skip_properties-clause-refused
returns-in-Err-skip_properties-clause-refused g c =
    let o = c.in-Ok.ensures.opens in
    let takes = g.P.DeserializeProperties.takes_memory in
    let refused = c.in-Err-skip_properties.ensures.refused o.good in (
      passed _ o refused,
      object_unread _ _ g.P.DeserializeProperties.reads_properties _ c.in-Err-skip_properties.e _ _ o
          (fault_to (AreNoProperties _) _ c.in-Err-skip_properties.e (λ n ps x t i m r. n ps m) refused.unread)
          (passed_takes takes _ _ c.in-Err-skip_properties.e o (c.in-Err-skip_properties.ensures.memory o.good)),
    )

pub returns-in-Ok-end-clause-read : goal.returns-in-Ok-end-clause-read
returns-in-Ok-end-clause-read g c =
    let o = c.in-Ok.ensures.opens in
    let ended = c.in-Ok-end.ensures.ok in
    let same = c.skip_properties.ensures.same in
    let all = all_left_in _ _ same ended.1 in
    let its_type = sym c.type_.ensures ∙ c.if-type_.false in
    let its_id = sym c.id.ensures ∙ c.if-id.false in
    let read = object_read _ _ _ _
    (λ t i ps. (t ≡ g.row.TYPE) × (i ≡ g.row.ID)
    × g.P.DeserializeProperties.reads_properties ps c.in-Ok-find_properties.properties) o
    same ended.1 ended.0
    (record {
      properties = all.properties;
      are = all.are;
      holds = (its_type, its_id, c.in-Ok-find_properties.ensures.found o.good all.properties all.are);
    }) in
    let holds = read.holds.4 in
    record {
      value = read.value;
      begins = read.begins;
      follows = read.follows;
      holds = record {
        properties = read.holds.2;
        is = read.holds.3 ∙ ap (λ t. object t read.holds.1 read.holds.2) holds.0 ∙ ap (λ i. object g.row.TYPE i read.holds.2) holds.1;
        are = holds.2;
      };
    }
