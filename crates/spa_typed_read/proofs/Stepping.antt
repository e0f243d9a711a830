-- How the calls of a reader of members or properties add up: what the author of a visitor cites.
use Rattle.std.proofs.Common.{◌≡◌, ◌≢◌, ℕ, ◌<◌, ◌≤◌, Bool, true, false, List, [], ◌∷◌, ◌++◌, length, drop, refl, sym, subst, ◌∙◌, ap, arith, append_assoc, inl, inr, ⊎_elim}
use Rattle.std.proofs.lemmas.Bool.{cases_lt}
use Rattle.std.specs.Prelude.{⊤}
use Rattle.std.specs.Borrow.{Bor}
use Rattle.std.proofs.lemmas.List.{append-nil}
use Rattle.spa_format.specs.Words.{header_size}
use Rattle.spa_format.specs.Tree.{Tree, Trees, no_trees, member, join_members, Properties, no_properties, property, join_properties}
use Rattle.spa_format.specs.Pod.{AreMembers, AreProperties, IsPod}
use Rattle.spa_format.specs.Front.{IsRefused, front_of}
use Rattle.spa_format.proofs.Refused.{refused_behind_members}
use Rattle.spa_format.proofs.Sequences.{members_joined, members_push, props_joined}
use Rattle.spa_fixed_sized.specs.declared.fault.DeserializeError.{DeserializeError}
use Rattle.spa_bodies.specs.Reading.{BeginsWith, IsRead, IsShortAt, OnMemory, RefusesInput}
use Rattle.spa_format.specs.Faults.{Stands}
use Rattle.spa_fixed_sized.specs.declared.fault.DeserializeError.TheVariants as error
use Rattle.spa_bodies.specs.Refusing.{StandsInMembers, StandsInProperties}
use Rattle.spa_typed_read.specs.Exactly.{AreNoMembers, RefusesMembers}
use Rattle.spa_canonical.specs.Depth.{NestsDeeper, levels_looked_into}
use Rattle.spa_typed_read.specs.Lookup.{HoldsDeep, RefusesProperties}
use Rattle.spa_typed_read.specs.ExactlyLaws.{fault_to, memory_there, memory_to}
use Rattle.spa_typed_read.proofs.Causes.{names_to, short_named, short_no_memory}
use Rattle.spa_typed_read.proofs.Lookups.{none_behind}
use Rattle.spa_typed_read.specs.Members.{AllMembers, AllProperties, AtEnd, Further, FurtherIn, IsOfObject, ObjectReader, Reader, TakesField, TakesProperty}
use Rattle.spa_typed_read.specs.declared.visitor.Visit.{Visit}
use Rattle.spa_typed_read.specs.Visiting.{IsVisited}
use Rattle.spa_read.proofs.Remainders.{HasKey, first_property}
use Rattle.spa_bodies.proofs.Steps.{parted}

-- what was read begins the input, and the rest follows
begun_with : (input rest : List ℕ) (P : Tree → Type 0) → (r : IsRead input rest P) → BeginsWith input r.value rest
begun_with input rest P r = record { begins = r.begins; follows = r.follows }

-- Members of a struct.

pub further_same : (r : Reader) → Further r r
further_same r = record {
  ahead = λ good. record { members = no_trees; seen = []; good = good; left = refl; are = refl; after = refl };
}

pub further_trans : (a b c : Reader) → Further a b → Further b c → Further a c
further_trans a b c f g = record {
  ahead = λ good.
      let h = g.ahead good in
      let k = f.ahead h.good in
      record {
        members = join_members k.members h.members;
        seen = k.seen ++ h.seen;
        good = k.good;
        left = rw (k.left, h.left) (simp append_assoc);
        are = members_joined k.members h.members k.seen h.seen k.are h.are;
        after = h.after ∙ k.after;
      };
}

-- a member and the members behind it, for which these facts hold
pub record Behind (P : Tree → Type 0) (Q : Trees → Type 0) (vs : Trees) : Type 0 where
  pub first : Tree
  pub others : Trees
  pub is : vs ≡ member first others
  pub first_is : P first
  pub others_are : Q others

pub all_field : (a b : Reader) (P : Tree → Type 0) (Q : Trees → Type 0) → TakesField a b P → AllMembers b Q →
    AllMembers a (Behind P Q)
all_field a b P Q f more =
    let whole = parted a.left f.field.value b.left (begun_with a.left b.left P f.field) in
    record {
      members = member f.field.value more.members;
      are = (front_of a.left, b.left, whole, f.field.begins.pod, more.are);
      holds = record { first = f.field.value; others = more.members; is = refl; first_is = f.field.holds; others_are = more.holds };
    }

pub all_as : (a : Reader) (P Q : Trees → Type 0) → ((vs : Trees) → P vs → Q vs) → AllMembers a P → AllMembers a Q
all_as a P Q to m = record { members = m.members; are = m.are; holds = to m.members m.holds }

-- all that was left, where the reader has come to its end
pub all_left : (a b : Reader) → Further a b → AtEnd b → AllMembers a (λ _. ⊤)
all_left a b f e =
    let h = f.ahead e.good in
    let whole : a.left ≡ h.seen = h.left ∙ ap (λ l. h.seen ++ l) e.none_left ∙ append-nil h.seen in
    record { members = h.members; are = subst (AreMembers h.members) (sym whole) h.are; holds = tt }

-- What is refused further on.

-- what is left further on, and so something was left before
some_left : (seen left : List ℕ) (b : List ℕ) → b ≡ seen ++ left → left ≢ [] → b ≢ []
some_left [] left b e n = λ none. n (sym e ∙ none)
some_left (x ∷ seen) left b e n = λ none. cc (e, none)

-- where what is left of them is refused as any value, what was left before is refused as members
pub members_refused : (a b : Reader) (e : DeserializeError (Bor (List ℕ))) → Further a b → b.failed ≡ false → b.left ≢ [] →
    RefusesInput b.left e → RefusesMembers a.left e
members_refused a b e f good some refuses =
    let h = f.ahead good in
    record {
      unread =
          fault_to (IsRefused b.left) (AreNoMembers a.left) e
          (λ n vs m. refused_behind_members h.members vs h.seen b.left h.are some n (subst (AreMembers vs) h.left m)) refuses.refused;
      named =
          names_to (λ k place. Stands k place b.left) (λ k place. StandsInMembers a.left place k) e
          (λ k place s. (h.members, h.seen, b.left, h.left, h.are, some, s)) refuses.named;
      memory = memory_there (a.left ≢ []) e (some_left h.seen b.left a.left h.left some);
    }

-- where memory runs out for a member that is read
pub no_room_for_member : (a b c : Reader) (P : Tree → Type 0) → Further a b → TakesField b c P → RefusesMembers a.left error.OutOfMemory
no_room_for_member a b c P f t =
    let h = f.ahead t.was_good in
    let long = t.field.begins.there.header in
    record {
      unread = tt;
      named = tt;
      memory = some_left h.seen b.left a.left h.left (λ none. let e = ap length none in absurd (omega (arith, long, e)));
    }

-- a reader that has failed stays so
pub failed_further : (a b : Reader) → Further a b → a.failed ≡ true → b.failed ≡ true
failed_further a b f failed = by b.failed refl
  where
    by : (x : Bool) → b.failed ≡ x → b.failed ≡ true
    by true e = e
    by false e = absurd (cc ((f.ahead e).good, failed))

-- a reader's calls took these members, and it hasn't failed
pub record AheadBy (lent now : Reader) (vs : Trees) : Type 0 where
  pub seen : List ℕ
  pub good : lent.failed ≡ false
  pub left : lent.left ≡ seen ++ now.left
  pub are : AreMembers vs seen
  pub after : now.after ≡ lent.after

-- or it has
pub record Took (lent now : Reader) (vs : Trees) : Type 0 where
  pub ahead : now.failed ≡ false → AheadBy lent now vs

pub took_none : (r : Reader) → Took r r no_trees
took_none r = record {
  ahead = λ good. record { seen = []; good = good; left = refl; are = refl; after = refl };
}

pub took_further : (a b : Reader) (vs : Trees) → Took a b vs → Further a b
took_further a b vs t = record {
  ahead = λ good.
      let h = t.ahead good in
      record { members = vs; seen = h.seen; good = h.good; left = h.left; are = h.are; after = h.after };
}

pub took_field : (a b c : Reader) (vs : Trees) (v : Tree) → Took a b vs → TakesField b c (λ w. v ≡ w) →
    Took a c (join_members vs (member v no_trees))
took_field a b c vs v t f = record {
  ahead = λ good.
      let h = t.ahead f.was_good in
      let front = front_of b.left in
      let whole = parted b.left f.field.value c.left (begun_with b.left c.left (λ w. v ≡ w) f.field) in
      record {
        seen = h.seen ++ front;
        good = h.good;
        left = h.left ∙ ap (λ l. h.seen ++ l) whole ∙ sym (append_assoc h.seen front c.left);
        are = members_push vs v h.seen front h.are (subst (IsPod front) (sym f.field.holds) f.field.begins.pod);
        after = f.after ∙ h.after;
      };
}

pub further_field : (a b : Reader) (P : Tree → Type 0) → TakesField a b P → Further a b
further_field a b P f =
    let v = f.field in
    took_further a b _
    (took_field a a b no_trees v.value (took_none a)
    (record {
      was_good = f.was_good;
      good = f.good;
      field = record { value = v.value; begins = v.begins; follows = v.follows; holds = refl };
      after = f.after;
    }))

-- Properties of an object.

pub same_object : (r : ObjectReader) → IsOfObject r r
same_object r = record { type = refl; id = refl }

pub object_trans : (a b c : ObjectReader) → IsOfObject a b → IsOfObject b c → IsOfObject a c
object_trans a b c o p = record { type = p.type ∙ o.type; id = p.id ∙ o.id }

pub further_in_same : (r : ObjectReader) → FurtherIn r r
further_in_same r = record {
  ahead = λ good. record { properties = no_properties; seen = []; good = good; left = refl; are = refl; after = refl; object = same_object r };
  object = same_object r;
}

pub further_in_trans : (a b c : ObjectReader) → FurtherIn a b → FurtherIn b c → FurtherIn a c
further_in_trans a b c f g = record {
  ahead = λ good.
      let h = g.ahead good in
      let k = f.ahead h.good in
      record {
        properties = join_properties k.properties h.properties;
        seen = k.seen ++ h.seen;
        good = k.good;
        left = rw (k.left, h.left) (simp append_assoc);
        are = props_joined k.properties h.properties k.seen h.seen k.are h.are;
        after = h.after ∙ k.after;
        object = object_trans a b c f.object g.object;
      };
  object = object_trans a b c f.object g.object;
}

-- no property is left
pub all_none_in : (r : ObjectReader) → AtEnd r.reader → AllProperties r (λ ps. ps ≡ no_properties)
all_none_in r e = record { properties = no_properties; are = e.none_left; holds = refl }

-- a property under this key, with these flags, and the properties behind it, for which these facts hold
pub record BehindIn (key flags : ℕ) (P : Tree → Type 0) (Q : Properties → Type 0) (ps : Properties) : Type 0 where
  pub first : Tree
  pub others : Properties
  pub is : ps ≡ property key flags first others
  pub first_is : P first
  pub others_are : Q others

pub all_property : (a b : ObjectReader) (key flags : ℕ) (P : Tree → Type 0) (Q : Properties → Type 0) →
    TakesProperty a b key flags P → AllProperties b Q → AllProperties a (BehindIn key flags P Q)
all_property a b key flags P Q t more =
    let behind = drop header_size a.reader.left in
    let whole = parted behind t.value.value b.reader.left (begun_with behind b.reader.left P t.value) in
    record {
      properties = property key flags t.value.value more.properties;
      are = (t.header, t.its_key, t.its_flags, front_of behind, b.reader.left, whole, t.value.begins.pod, more.are);
      holds = record { first = t.value.value; others = more.properties; is = refl; first_is = t.value.holds; others_are = more.holds };
    }

pub all_as_in : (a : ObjectReader) (P Q : Properties → Type 0) → ((ps : Properties) → P ps → Q ps) → AllProperties a P → AllProperties a Q
all_as_in a P Q to m = record { properties = m.properties; are = m.are; holds = to m.properties m.holds }

-- a property of this value, and these properties behind it
pub all_under : (a b : ObjectReader) (key flags : ℕ) (v : Tree) (qs : Properties) → TakesProperty a b key flags (λ w. w ≡ v) →
    AllProperties b (λ ps. ps ≡ qs) → AllProperties a (λ ps. ps ≡ property key flags v qs)
all_under a b key flags v qs t more =
    let all = all_property a b key flags (λ w. w ≡ v) (λ ps. ps ≡ qs) t more in
    record {
      properties = all.properties;
      are = all.are;
      holds = all.holds.is ∙ ap (λ w. property key flags w all.holds.others) all.holds.first_is
          ∙ ap (property key flags v) all.holds.others_are;
    }

-- all that was left, where the reader has come to its end
pub all_left_in : (a b : ObjectReader) → FurtherIn a b → AtEnd b.reader → AllProperties a (λ _. ⊤)
all_left_in a b f e =
    let h = f.ahead e.good in
    let whole : a.reader.left ≡ h.seen = h.left ∙ ap (λ l. h.seen ++ l) e.none_left ∙ append-nil h.seen in
    record { properties = h.properties; are = subst (AreProperties h.properties) (sym whole) h.are; holds = tt }

-- an object's reader's calls took these properties, and it hasn't failed
pub record AheadInBy (lent now : ObjectReader) (ps : Properties) : Type 0 where
  pub seen : List ℕ
  pub good : lent.reader.failed ≡ false
  pub left : lent.reader.left ≡ seen ++ now.reader.left
  pub are : AreProperties ps seen
  pub after : now.reader.after ≡ lent.reader.after

-- or it has
pub record TookIn (lent now : ObjectReader) (ps : Properties) : Type 0 where
  pub ahead : now.reader.failed ≡ false → AheadInBy lent now ps
  pub object : IsOfObject lent now

pub took_none_in : (r : ObjectReader) → TookIn r r no_properties
took_none_in r = record {
  ahead = λ good. record { seen = []; good = good; left = refl; are = refl; after = refl };
  object = same_object r;
}

pub took_further_in : (a b : ObjectReader) (ps : Properties) → TookIn a b ps → FurtherIn a b
took_further_in a b ps t = record {
  ahead = λ good.
      let h = t.ahead good in
      record { properties = ps; seen = h.seen; good = h.good; left = h.left; are = h.are; after = h.after; object = t.object };
  object = t.object;
}

pub took_property : (a b c : ObjectReader) (ps : Properties) (key flags : ℕ) (v : Tree) → TookIn a b ps →
    TakesProperty b c key flags (λ w. v ≡ w) → TookIn a c (join_properties ps (property key flags v no_properties))
took_property a b c ps key flags v t f = record {
  ahead = λ good.
      let h = t.ahead f.was_good in
      let behind = drop header_size b.reader.left in
      let k : HasKey b.reader.left behind key flags = record { long = f.header; is_behind = refl; key = f.its_key; flags = f.its_flags } in
      let one = first_property b.reader.left behind c.reader.left key flags f.value.value k (begun_with behind c.reader.left (λ w. v ≡ w) f.value) in
      let its_bytes = subst (λ w. AreProperties (property key flags w no_properties) one.here) (sym f.value.holds) one.its_bytes in
      record {
        seen = h.seen ++ one.here;
        good = h.good;
        left = h.left ∙ ap (λ l. h.seen ++ l) one.parts ∙ sym (append_assoc h.seen one.here c.reader.left);
        are = props_joined ps (property key flags v no_properties) h.seen one.here h.are its_bytes;
        after = f.after ∙ h.after;
      };
  object = object_trans a b c t.object f.object;
}

pub further_property : (a b : ObjectReader) (key flags : ℕ) (P : Tree → Type 0) → TakesProperty a b key flags P → FurtherIn a b
further_property a b key flags P t =
    let v = t.value in
    took_further_in a b _
    (took_property a a b no_properties key flags v.value (took_none_in a)
    (record {
      was_good = t.was_good;
      good = t.good;
      header = t.header;
      its_key = t.its_key;
      its_flags = t.its_flags;
      value = record { value = v.value; begins = v.begins; follows = v.follows; holds = refl };
      after = t.after;
      object = t.object;
    }))

-- where what is left of them is refused, what was left before is refused as properties
pub properties_refused : (a b : ObjectReader) (e : DeserializeError (Bor (List ℕ))) → FurtherIn a b → b.reader.failed ≡ false →
    b.reader.left ≢ [] → (length b.reader.left < header_size → IsShortAt b.reader.left e) →
    (header_size ≤ length b.reader.left → RefusesInput (drop header_size b.reader.left) e) → RefusesProperties a.reader.left e
properties_refused a b e f good some short refuses =
    let h = f.ahead good in
    record {
      unread = none_behind a b e f good some refuses;
      named =
          ⊎_elim
          (λ cut.
          short_named (λ k place. StandsInProperties a.reader.left place k) b.reader.left e (short cut)
          (h.properties, h.seen, b.reader.left, h.left, h.are, inl (refl, refl, some, cut)))
          (λ long.
          names_to (λ k place. Stands k place (drop header_size b.reader.left)) (λ k place. StandsInProperties a.reader.left place k) e
          (λ k place s. (h.properties, h.seen, b.reader.left, h.left, h.are, inr (long, s))) (refuses long).named)
          (cases_lt (length b.reader.left) header_size);
      memory = memory_there (a.reader.left ≢ []) e (some_left h.seen b.reader.left a.reader.left h.left some);
    }

-- where memory runs out for one that is passed
pub deep_further : (a b : ObjectReader) (e : DeserializeError (Bor (List ℕ))) → FurtherIn a b → b.reader.failed ≡ false →
    (length b.reader.left < header_size → IsShortAt b.reader.left e) →
    (header_size ≤ length b.reader.left → OnMemory (NestsDeeper levels_looked_into (drop header_size b.reader.left)) e) →
    OnMemory (HoldsDeep a.reader.left) e
deep_further a b e f good short deep =
    let h = f.ahead good in
    ⊎_elim (λ cut. short_no_memory (HoldsDeep a.reader.left) b.reader.left e (short cut))
    (λ long.
    memory_to (NestsDeeper levels_looked_into (drop header_size b.reader.left)) (HoldsDeep a.reader.left) e
    (λ d. record { properties = h.properties; first = h.seen; left = b.reader.left; parts = h.left; are = h.are; header = long; deep = d })
    (deep long)) (cases_lt (length b.reader.left) header_size)

-- where memory runs out for a property that is read
pub no_room_for_property : (a b c : ObjectReader) (key flags : ℕ) (P : Tree → Type 0) → FurtherIn a b → TakesProperty b c key flags P →
    RefusesProperties a.reader.left error.OutOfMemory
no_room_for_property a b c key flags P f t =
    let h = f.ahead t.was_good in
    let long = t.header in
    record {
      unread = tt;
      named = tt;
      memory = some_left h.seen b.reader.left a.reader.left h.left (λ none. let e = ap length none in absurd (omega (arith, long, e)));
    }

-- an object's reader that has failed stays so
pub failed_further_in : (a b : ObjectReader) → FurtherIn a b → a.reader.failed ≡ true → b.reader.failed ≡ true
failed_further_in a b f failed = by b.reader.failed refl
  where
    by : (x : Bool) → b.reader.failed ≡ x → b.reader.failed ≡ true
    by true e = e
    by false e = absurd (cc ((f.ahead e).good, failed))

-- Whatever is read.

-- some value is read
pub read_any : (input rest : List ℕ) (P : Tree → Type 0) → IsRead input rest P → IsRead input rest (λ _. ⊤)
read_any input rest P r = record { value = r.value; begins = r.begins; follows = r.follows; holds = tt }

-- some value was visited
pub visited_any : {E X : Type 0} (t : ℕ) (visits : Visit E → X → Type 0) (input rest : List ℕ) (x : X) →
    IsVisited t visits input rest x → IsRead input rest (λ _. ⊤)
visited_any t visits input rest x r =
    record { value = r.handed.value; begins = r.handed.begins; follows = r.follows; holds = tt }
