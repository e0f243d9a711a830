-- From a pod to the member or the property's value that a fault is in, by the fault's offset.
use Rattle.std.proofs.Common.{◌≡◌, ◌≢◌, ◌-◌, ◌≤◌, ◌<◌, ◌⊎◌, ◌∙◌, Bool, true, false, ℕ, List, [], ◌++◌, ap, append-nil, append_assoc, arith, drop, inl, inr, length, length-append, length-drop, refl, subst, sym}
use Rattle.std.proofs.lemmas.List.{drop-append-le, nil_from_length}
use Rattle.spa_fixed_sized.specs.declared.fault.Refusal.{Refusal}
use Rattle.spa_fixed_sized.specs.declared.fault.Refusal.TheVariants as refusal
use Rattle.std.specs.Borrow.{Bor}
use Rattle.spa_bodies.specs.Reading.{MayLackMemory}
use Rattle.spa_bodies.specs.Refusing.{Says, StandsInMembers, StandsInProperties, error_of}
use Rattle.spa_bodies.proofs.Refusals.{refused_as, says_through, said}
use Rattle.spa_bytes.specs.Opening.{Opens}
use Rattle.spa_events.specs.Inside.{IsInside}
use Rattle.spa_canonical.specs.Look.{IsFaultAt, Scope, StandsAt, at_key, at_pod, first_member, first_value, from_members, from_pod, from_properties, in_object, in_struct, next_member, next_property}
use Rattle.spa_canonical.specs.Rewriting.{IsLeft}
use Rattle.spa_format.specs.Faults.{Fault, Short, Text, InvalidType, InvalidChoiceType, MissingChoiceValues, WrongSize, IsInvalidType, IsWrongSize, Stands, StandsAtFront, at_front, in_key, in_member, in_property, no_type, of_elements, of_values, of_fixed, of_array, of_choice, of_pointer, short_array, short_choice, short_object}
use Rattle.spa_format.specs.Front.{Begins, HasFront, IsRefused, front_of, rest_of}
use Rattle.spa_format.specs.Kind.{Kind, type_number}
use Rattle.spa_format.specs.Pod.{AreMembers, AreProperties, IsBody, IsPod}
use Rattle.spa_format.specs.Tree.{Tree, Trees, Properties, join_properties, member, no_properties, no_trees, object_type, property, struct_type, type_of}
use Rattle.spa_format.specs.Words.{body_of, extent, header_size, word_at}
use Rattle.spa_format.proofs.FixedKinds.{number_is}
use Rattle.spa_format.proofs.Fronts.{front_and_rest, front_of_whole, length-body_of}
use Rattle.spa_format.proofs.Refused as format
use Rattle.spa_format.proofs.Sequences.{props_joined}
use Rattle.spa_refusals.proofs.Passing.{begins, goes_on}
use Rattle.spa_recordings.specs.declared.reading.Reading.TheVariants.{Exact}
use Rattle.spa_recordings.proofs.Going.{none_before}
use Rattle.spa_refusals.specs.Refusals.{IsUnreadFor}
use Rattle.spa_refusals.specs.Paths.{IsBehind, IsFaultIn, IsWithin, StandsIn}

-- ---- A fault at the front

no_kind : (k : Kind) (n : ℕ) → 14 ≤ n → n ≤ 15 → type_number k ≢ n
no_kind k n l h e = elim (number_is k) [
  | inl a ↦ let b = a.1 in omega (arith, b, e, l)
  | inr r ↦ elim r [
    | inl a ↦ let b = a.1 in omega (arith, b, e, l)
    | inr a ↦ omega (arith, a, e, h)
  ]
]

-- a struct has none, and an object only where its type and id aren't there
abbrev NoContainer : (type : ℕ) → (body : List ℕ) → Type 0
NoContainer type body = (type ≢ struct_type) × (type ≡ object_type → length body < header_size)

other_type : (t n : ℕ) (b : List ℕ) → t ≡ n → n ≢ 14 → n ≢ 15 → NoContainer t b
other_type t n b e s o = (λ i. s (sym e ∙ i), λ i. absurd (o (sym e ∙ i)))

no_container_type : (t : ℕ) (b : List ℕ) → IsInvalidType t b → NoContainer t b
no_container_type t b (no_type u) = elim u [
  | inl e ↦ other_type t 0 b e (λ z. omega (arith, z)) (λ z. omega (arith, z))
  | inr v ↦ elim v [
    | inl e ↦ other_type t 16 b e (λ z. omega (arith, z)) (λ z. omega (arith, z))
    | inr l ↦ (λ z. omega (arith, z, l), λ z. absurd (omega (arith, z, l)))
  ]
]
no_container_type t b (of_elements e l n) = other_type t 13 b e (λ z. omega (arith, z)) (λ z. omega (arith, z))
no_container_type t b (of_values e l n) = other_type t 19 b e (λ z. omega (arith, z)) (λ z. omega (arith, z))

no_container_size : (t : ℕ) (b : List ℕ) → IsWrongSize t b → NoContainer t b
no_container_size t b (of_fixed k e n) = other_type t (type_number k) b e (no_kind k 14 (omega arith) (omega arith)) (no_kind k 15 (omega arith) (omega arith))
no_container_size t b (of_array k e w) = other_type t 13 b e (λ z. omega (arith, z)) (λ z. omega (arith, z))
no_container_size t b (of_choice k e p w) = other_type t 19 b e (λ z. omega (arith, z)) (λ z. omega (arith, z))
no_container_size t b (of_pointer e m n) = other_type t 17 b e (λ z. omega (arith, z)) (λ z. omega (arith, z))
no_container_size t b (short_array e l) = other_type t 13 b e (λ z. omega (arith, z)) (λ z. omega (arith, z))
no_container_size t b (short_choice e l) = other_type t 19 b e (λ z. omega (arith, z)) (λ z. omega (arith, z))
no_container_size t b (short_object e l) = (λ z. omega (arith, z, e), λ z. l)

no_container : (k : Fault) (b : List ℕ) → HasFront b → StandsAtFront k b → NoContainer (word_at b 4) (body_of b)
no_container Short b f s = absurd (s f)
no_container Text b f s = other_type (word_at b 4) 8 (body_of b) s.1 (λ z. omega (arith, z)) (λ z. omega (arith, z))
no_container InvalidType b f s = no_container_type (word_at b 4) (body_of b) s.1
no_container InvalidChoiceType b f s = other_type (word_at b 4) 19 (body_of b) s.1 (λ z. omega (arith, z)) (λ z. omega (arith, z))
no_container MissingChoiceValues b f s = other_type (word_at b 4) 19 (body_of b) s.1 (λ z. omega (arith, z)) (λ z. omega (arith, z))
no_container WrongSize b f s = no_container_size (word_at b 4) (body_of b) s.1

-- where one is, that is the place of any other
front_place : (j k : Fault) (place b : List ℕ) → StandsAtFront j b → Stands k place b → place ≡ b
front_place j k place _ a (at_front b e s) = e
front_place j k place _ a (in_member b vs first left f t e m n s) = absurd ((no_container j b f a).0 t)
front_place j k place _ a (in_key b ps first f t l e m n short is) = absurd (let c = (no_container j b f a).1 t in omega (arith, c, l))
front_place j k place _ a (in_property b ps first left f t l e m n s) = absurd (let c = (no_container j b f a).1 t in omega (arith, c, l))

-- ---- A fault inside

property_front : (v : Tree) (b c d first left : List ℕ) → b ≡ first ++ left → 8 ≤ length first → drop 8 first ≡ c ++ d → IsPod c v →
    Begins (drop 8 b) v × (d ++ left ≡ rest_of (drop 8 b))
property_front v b c d first left e l p w =
    let whole : drop 8 b ≡ c ++ (d ++ left) =
    ap (drop 8) e ∙ drop-append-le 8 first left l ∙ ap (λ z. z ++ left) p ∙ append_assoc c d left in
    let f = front_of_whole (drop 8 b) c (d ++ left) (type_of v) (IsBody v) whole w in
    (record { there = f.0; pod = subst (λ z. IsPod z v) f.1 w }, f.2)

no_property_before : (ps : Properties) (b first left : List ℕ) → b ≡ first ++ left → AreProperties ps first → IsRefused (drop 8 b) → left ≡ b
no_property_before no_properties b first left e m r = sym (e ∙ ap (λ z. z ++ left) m)
no_property_before (property key flags v ps) b first left e m r =
    absurd (r v (property_front v b m.3 m.4 first left e m.0 m.5 m.6).0)

-- it is in the first one, or behind it
first_member_stands : (k : Fault) (place b : List ℕ) → IsRefused b → StandsInMembers b place k → Stands k place b
first_member_stands k place b r s = subst (Stands k place) (none_before s.0 b s.1 s.2 s.3 s.4 r) s.6

member_behind_stands : (k : Fault) (place b : List ℕ) (v : Tree) → Begins b v → StandsInMembers b place k → StandsInMembers (rest_of b) place k
member_behind_stands k place b v begun s = behind s.0 s.1 s.2 s.3 s.4 s.5 s.6
  where
    behind : (vs : Trees) (first left : List ℕ) → b ≡ first ++ left → AreMembers vs first → left ≢ [] → Stands k place left →
        StandsInMembers (rest_of b) place k
    behind no_trees first left e m n t =
        absurd (format.refused k place b (subst (Stands k place) (sym (e ∙ ap (λ z. z ++ left) m)) t) v begun)
    behind (member u us) first left e m n t =
        let f = front_of_whole b m.0 (m.1 ++ left) (type_of u) (IsBody u) (e ∙ ap (λ z. z ++ left) m.2 ∙ append_assoc m.0 m.1 left) m.3 in
        (us, m.1, left, sym f.2, m.4, n, t)

first_value_stands : (k : Fault) (place b : List ℕ) → 8 ≤ length b → IsRefused (drop 8 b) → StandsInProperties b place k → Stands k place (drop 8 b)
first_value_stands k place b long r s =
    let same = no_property_before s.0 b s.1 s.2 s.3 s.4 r in
    elim s.5 [
      | inl x ↦ absurd (let l = x.3 in let e = ap length same in omega (arith, l, e, long))
      | inr x ↦ subst (λ z. Stands k place (drop 8 z)) same x.1
    ]

property_behind_stands : (k : Fault) (place b : List ℕ) (v : Tree) → 8 ≤ length b → Begins (drop 8 b) v → StandsInProperties b place k →
    StandsInProperties (rest_of (drop 8 b)) place k
property_behind_stands k place b v long begun s = behind s.0 s.1 s.2 s.3 s.4 s.5
  where
    behind : (ps : Properties) (first left : List ℕ) → b ≡ first ++ left → AreProperties ps first →
        ((k ≡ Short) × (place ≡ left) × (left ≢ []) × (length left < header_size)) ⊎ ((header_size ≤ length left) × Stands k place (drop header_size left)) →
        StandsInProperties (rest_of (drop 8 b)) place k
    behind no_properties first left e m t =
        let same : left ≡ b = sym (e ∙ ap (λ z. z ++ left) m) in
        elim t [
          | inl x ↦ absurd (let l = x.3 in let n = ap length same in omega (arith, l, n, long))
          | inr x ↦ absurd (format.refused k place (drop 8 b) (subst (λ z. Stands k place (drop 8 z)) same x.1) v begun)
        ]
    behind (property key flags u us) first left e m t =
        (us, m.4, left, sym (property_front u b m.3 m.4 first left e m.0 m.5 m.6).1, m.7, t)

-- it is in what the struct, or the object, at the front holds
struct_stands : (k : Fault) (place b : List ℕ) → HasFront b → word_at b 4 ≡ struct_type → Stands k place b → StandsInMembers (body_of b) place k
struct_stands k place _ g u (at_front b e s) = absurd ((no_container k b g s).0 u)
struct_stands k place _ g u (in_member b vs first left f t e m n s) = (vs, first, left, e, m, n, s)
struct_stands k place _ g u (in_key b ps first f t l e m n short is) = absurd (omega (arith, t, u))
struct_stands k place _ g u (in_property b ps first left f t l e m n s) = absurd (omega (arith, t, u))

object_stands : (k : Fault) (place b : List ℕ) → HasFront b → word_at b 4 ≡ object_type → header_size ≤ length (body_of b) → Stands k place b →
    StandsInProperties (drop header_size (body_of b)) place k
object_stands k place _ g u h (at_front b e s) = absurd (let c = (no_container k b g s).1 u in omega (arith, c, h))
object_stands k place _ g u h (in_member b vs first left f t e m n s) = absurd (omega (arith, t, u))
object_stands k place _ g u h (in_key b ps first f t l e m n short is) = (ps, first, place, e, m, inl (is, refl, n, short))
object_stands k place _ g u h (in_property b ps first left f t l e m n s) = (ps, first, left, e, m, inr (n, s))

nowhere_else : (k : Fault) (place b : List ℕ) → ¬ (HasFront b) → Stands k place b → place ≡ b
nowhere_else k place _ g (at_front b e s) = e
nowhere_else k place _ g (in_member b vs first left f t e m n s) = absurd (g f)
nowhere_else k place _ g (in_key b ps first f t l e m n short is) = absurd (g f)
nowhere_else k place _ g (in_property b ps first left f t l e m n s) = absurd (g f)

-- ---- A fault at an offset

-- it stands at some place
mutual
  pod_stands : (k : Fault) (n : ℕ) (b : List ℕ) → StandsAt k from_pod n b → (place : List ℕ) × Stands k place b
  pod_stands k _ _ (at_pod b s) = (b, at_front b refl s)
  pod_stands k _ _ (in_struct m b f t s) =
      let r = members_stand k m (body_of b) s in
      let i = r.1 in
      (r.0, in_member b i.0 i.1 i.2 f t i.3 i.4 i.5 i.6)
  pod_stands k _ _ (in_object m b f t l s) =
      let r = properties_stand k m (drop header_size (body_of b)) s in
      let i = r.1 in
      elim i.5 [
        | inl x ↦ (r.0, in_key b i.0 i.1 f t l (i.3 ∙ ap (λ z. i.1 ++ z) (sym x.1)) i.4 (subst (λ z. z ≢ []) (sym x.1) x.2) (subst (λ z. length z < header_size) (sym x.1) x.3) x.0)
        | inr x ↦ (r.0, in_property b i.0 i.1 i.2 f t l i.3 i.4 x.0 x.1)
      ]

  members_stand : (k : Fault) (n : ℕ) (b : List ℕ) → StandsAt k from_members n b → (place : List ℕ) × StandsInMembers b place k
  members_stand k _ _ (first_member m b some s) = let r = pod_stands k m b s in (r.0, (no_trees, [], b, refl, refl, some, r.1))
  members_stand k _ _ (next_member m b v begun s) =
      let r = members_stand k m (rest_of b) s in
      let i = r.1 in
      let e : b ≡ (front_of b ++ i.1) ++ i.2 =
      front_and_rest b ∙ ap (λ z. front_of b ++ z) i.3 ∙ sym (append_assoc (front_of b) i.1 i.2) in
      (r.0, (member v i.0, front_of b ++ i.1, i.2, e, (front_of b, i.1, refl, begun.pod, i.4), i.5, i.6))

  properties_stand : (k : Fault) (n : ℕ) (b : List ℕ) → StandsAt k from_properties n b → (place : List ℕ) × StandsInProperties b place k
  properties_stand k _ _ (at_key b some short is) = (b, (no_properties, [], b, refl, refl, inl (is, refl, some, short)))
  properties_stand k _ _ (first_value m b long s) =
      let r = pod_stands k m (drop header_size b) s in (r.0, (no_properties, [], b, refl, refl, inr (long, r.1)))
  properties_stand k _ _ (next_property m b v long begun s) =
      let rest = rest_of (drop header_size b) in
      let r = properties_stand k m rest s in
      let i = r.1 in
      let p = goes_on b b (drop header_size b) rest v (begins b) long refl begun refl in
      let e : b ≡ (p.first ++ i.1) ++ i.2 = p.whole ∙ ap (λ z. p.first ++ z) i.3 ∙ sym (append_assoc p.first i.1 i.2) in
      (r.0, (join_properties p.values i.0, p.first ++ i.1, i.2, e, props_joined p.values i.0 p.first i.1 p.read i.4, i.5))

refused_at : (k : Fault) (n : ℕ) (b : List ℕ) → StandsAt k from_pod n b → IsRefused b
refused_at k n b s = let r = pod_stands k n b s in format.refused k r.0 b r.1

-- it isn't behind the end
mutual
  pod_ends : (k : Fault) (n : ℕ) (b : List ℕ) → StandsAt k from_pod n b → (n ≡ 0) ⊎ (HasFront b × (n ≤ extent (word_at b 0)))
  pod_ends k _ _ (at_pod b s) = inl refl
  pod_ends k _ _ (in_struct m b f t s) =
      let l = members_end k m (body_of b) s in
      let w = length-body_of b f in
      inr (f, omega (arith, l, w))
  pod_ends k _ _ (in_object m b f t l s) =
      let e = properties_end k m (drop header_size (body_of b)) s in
      let d = length-drop 8 (body_of b) in
      let w = length-body_of b f in
      inr (f, omega (arith, e, d, w, l))

  members_end : (k : Fault) (n : ℕ) (b : List ℕ) → StandsAt k from_members n b → n ≤ length b
  members_end k _ _ (first_member m b some s) = elim (pod_ends k m b s) [
    | inl z ↦ omega (arith, z)
    | inr w ↦ let l = w.1 in let h = w.0.whole in omega (arith, l, h)
  ]
  members_end k _ _ (next_member m b v begun s) =
      let l = members_end k m (rest_of b) s in
      let h = begun.there.whole in
      let d = length-drop (extent (word_at b 0)) b in
      omega (arith, l, h, d)

  properties_end : (k : Fault) (n : ℕ) (b : List ℕ) → StandsAt k from_properties n b → n ≤ length b
  properties_end k _ _ (at_key b some short is) = omega arith
  properties_end k _ _ (first_value m b long s) =
      let d = length-drop 8 b in
      elim (pod_ends k m (drop header_size b) s) [
        | inl z ↦ omega (arith, z, long)
        | inr w ↦ let l = w.1 in let h = w.0.whole in omega (arith, l, h, d, long)
      ]
  properties_end k _ _ (next_property m b v long begun s) =
      let c = drop header_size b in
      let l = properties_end k m (rest_of c) s in
      let h = begun.there.whole in
      let d = length-drop 8 b in
      let e = length-drop (extent (word_at c 0)) c in
      omega (arith, l, h, d, e, long)

-- at the end nothing is left at its place
mutual
  pod_end_empty : (k : Fault) (n : ℕ) (place b : List ℕ) → HasFront b → n ≡ extent (word_at b 0) → StandsAt k from_pod n b → Stands k place b →
      place ≡ []
  pod_end_empty k _ place _ g e (at_pod b a) s = absurd (omega (arith, e))
  pod_end_empty k _ place _ g e (in_struct m b f t a) s =
      let l = members_end k m (body_of b) a in
      let w = length-body_of b f in
      members_end_empty k m place (body_of b) (omega (arith, e, l, w)) a (struct_stands k place b f t s)
  pod_end_empty k _ place _ g e (in_object m b f t h a) s =
      let l = properties_end k m (drop header_size (body_of b)) a in
      let d = length-drop 8 (body_of b) in
      let w = length-body_of b f in
      properties_end_empty k m place (drop header_size (body_of b)) (omega (arith, e, l, d, w, h)) a (object_stands k place b f t h s)

  members_end_empty : (k : Fault) (n : ℕ) (place b : List ℕ) → n ≡ length b → StandsAt k from_members n b → StandsInMembers b place k → place ≡ []
  members_end_empty k _ place _ e (first_member m b some a) s = elim (pod_ends k m b a) [
    | inl z ↦ absurd (some (nil_from_length b (omega (arith, z, e))))
    | inr w ↦
        let l = w.1 in
        let h = w.0.whole in
        pod_end_empty k m place b w.0 (omega (arith, l, h, e)) a (first_member_stands k place b (refused_at k m b a) s)
  ]
  members_end_empty k _ place _ e (next_member m b v begun a) s =
      let h = begun.there.whole in
      let d = length-drop (extent (word_at b 0)) b in
      members_end_empty k m place (rest_of b) (omega (arith, e, h, d)) a (member_behind_stands k place b v begun s)

  properties_end_empty : (k : Fault) (n : ℕ) (place b : List ℕ) → n ≡ length b → StandsAt k from_properties n b → StandsInProperties b place k →
      place ≡ []
  properties_end_empty k _ place _ e (at_key b some short is) s = absurd (some (nil_from_length b (omega (arith, e))))
  properties_end_empty k _ place _ e (first_value m b long a) s =
      let c = drop header_size b in
      let d = length-drop 8 b in
      let stands = first_value_stands k place b long (refused_at k m c a) s in
      elim (pod_ends k m c a) [
        | inl z ↦
            let none : c ≡ [] = nil_from_length c (omega (arith, z, e, d, long)) in
            nowhere_else k place c (λ f. (let h = f.header in let n = ap length none in omega (arith, h, n))) stands ∙ none
        | inr w ↦ let l = w.1 in let h = w.0.whole in pod_end_empty k m place c w.0 (omega (arith, l, h, e, d, long)) a stands
      ]
  properties_end_empty k _ place _ e (next_property m b v long begun a) s =
      let c = drop header_size b in
      let h = begun.there.whole in
      let d = length-drop 8 b in
      let f = length-drop (extent (word_at c 0)) c in
      properties_end_empty k m place (rest_of c) (omega (arith, e, h, d, f, long)) a (property_behind_stands k place b v long begun s)

-- at the offset 0 it is at the front
pod_begins : (k : Fault) (n : ℕ) (b : List ℕ) → n ≡ 0 → StandsAt k from_pod n b → StandsAtFront k b
pod_begins k _ _ e (at_pod b s) = s
pod_begins k _ _ e (in_struct m b f t s) = absurd (omega (arith, e))
pod_begins k _ _ e (in_object m b f t l s) = absurd (omega (arith, e))

members_begin : (k : Fault) (n : ℕ) (b : List ℕ) → n ≡ 0 → StandsAt k from_members n b → (b ≢ []) × StandsAtFront k b
members_begin k _ _ e (first_member m b some s) = (some, pod_begins k m b e s)
members_begin k _ _ e (next_member m b v begun s) = absurd (omega (arith, e))

properties_begin : (k : Fault) (n : ℕ) (b : List ℕ) → n ≡ 0 → StandsAt k from_properties n b → (b ≢ []) × (length b < header_size)
properties_begin k _ _ e (at_key b some short is) = (some, short)
properties_begin k _ _ e (first_value m b long s) = absurd (omega (arith, e))
properties_begin k _ _ e (next_property m b v long begun s) = absurd (omega (arith, e))

-- of less than a property only the key is left
key_place : (k : Fault) (place b : List ℕ) → length b < header_size → StandsInProperties b place k → place ≡ b
key_place k place b short s = at_once s.0 s.1 s.2 s.3 s.4 s.5
  where
    at_once : (ps : Properties) (first left : List ℕ) → b ≡ first ++ left → AreProperties ps first →
        ((k ≡ Short) × (place ≡ left) × (left ≢ []) × (length left < header_size)) ⊎ ((header_size ≤ length left) × Stands k place (drop header_size left)) →
        place ≡ b
    at_once no_properties first left e m t =
        let same : left ≡ b = sym (e ∙ ap (λ z. z ++ left) m) in
        elim t [
          | inl x ↦ x.1 ∙ same
          | inr x ↦ absurd (let l = x.0 in let n = ap length same in omega (arith, l, n, short))
        ]
    at_once (property key flags u us) first left e m t =
        absurd (let l = m.0 in let n = ap length e ∙ length-append first left in omega (arith, l, n, short))

-- ---- The way there

abbrev Both : Scope → (bytes place : List ℕ) → (at : ℕ) → Fault → Type 0
Both scope bytes place at k = StandsIn scope bytes place k × StandsAt k scope at bytes

into_struct : (k : Fault) (n : ℕ) (place b : List ℕ) → HasFront b → word_at b 4 ≡ struct_type → Stands k place b → StandsAt k from_pod n b →
    (8 ≤ n) × Both from_members (body_of b) place (n - 8) k
into_struct k _ place _ f t s (at_pod b a) = absurd ((no_container k b f a).0 t)
into_struct k _ place _ f t s (in_struct m b g u a) =
    (omega arith, (struct_stands k place b f t s, subst (λ z. StandsAt k from_members z (body_of b)) (omega arith) a))
into_struct k _ place _ f t s (in_object m b g u l a) = absurd (omega (arith, t, u))

into_object : (k : Fault) (n : ℕ) (place b : List ℕ) → HasFront b → word_at b 4 ≡ object_type → header_size ≤ length (body_of b) → Stands k place b →
    StandsAt k from_pod n b → (16 ≤ n) × Both from_properties (drop header_size (body_of b)) place (n - 16) k
into_object k _ place _ f t h s (at_pod b a) = absurd (let c = (no_container k b f a).1 t in omega (arith, c, h))
into_object k _ place _ f t h s (in_struct m b g u a) = absurd (omega (arith, t, u))
into_object k _ place _ f t h s (in_object m b g u l a) = (
  omega arith,
  (object_stands k place b f t h s, subst (λ z. StandsAt k from_properties z (drop header_size (body_of b))) (omega arith) a),
)

to_member : (k : Fault) (n : ℕ) (place b : List ℕ) → IsWithin b place n → StandsInMembers b place k → StandsAt k from_members n b →
    Both from_pod b place n k
to_member k _ place _ i s (first_member m b some a) = (first_member_stands k place b (refused_at k m b a) s, a)
to_member k _ place _ i s (next_member m b v begun a) =
    let rest = rest_of b in
    let w = i begun.there in
    let l = w.0 in
    let zero : m ≡ 0 = omega (arith, l) in
    let z = members_begin k m rest zero a in
    let refused = format.refused k rest rest (at_front rest refl z.1) in
    let e = front_place k k place rest z.1 (first_member_stands k place rest refused (member_behind_stands k place b v begun s)) in
    absurd (z.0 (sym e ∙ w.1 (omega (arith, zero))))

past_member : (k : Fault) (n m : ℕ) (place b rest : List ℕ) → IsBehind b place n rest m → StandsInMembers b place k → StandsAt k from_members n b →
    ((v : Tree) × Begins b v) × Both from_members rest place m k
past_member k _ m place _ rest i s (first_member n b some a) =
    let o = i.offset in
    let last : n ≤ extent (word_at b 0) = elim (pod_ends k n b a) [
      | inl z ↦ omega (arith, z)
      | inr w ↦ w.1
    ] in
    let stands = first_member_stands k place b (refused_at k n b a) s in
    absurd (i.past (omega (arith, o, last)) (pod_end_empty k n place b i.there (omega (arith, o, last)) a stands))
past_member k _ m place _ rest i s (next_member n b v begun a) =
    let o = i.offset in (
      (v, begun),
      (
        subst (λ z. StandsInMembers z place k) (sym i.follows) (member_behind_stands k place b v begun s),
        subst (λ z. StandsAt k from_members m z) (sym i.follows) (subst (λ z. StandsAt k from_members z (rest_of b)) (omega (arith, o)) a),
      ),
    )

-- a property's key and flags stand before the offset
behind_key : (k : Fault) (n : ℕ) (b : List ℕ) → header_size ≤ length b → StandsAt k from_properties n b → 8 ≤ n
behind_key k _ _ long (at_key b some short is) = absurd (omega (arith, long, short))
behind_key k _ _ long (first_value m b l a) = omega arith
behind_key k _ _ long (next_property m b v l begun a) = omega arith

to_value : (k : Fault) (n : ℕ) (place b : List ℕ) → header_size ≤ length b → IsWithin (drop header_size b) place (n - 8) → StandsInProperties b place k →
    StandsAt k from_properties n b → Both from_pod (drop header_size b) place (n - 8) k
to_value k _ place _ long i s (at_key b some short is) = absurd (omega (arith, long, short))
to_value k _ place _ long i s (first_value m b l a) = (
  first_value_stands k place b long (refused_at k m (drop header_size b) a) s,
  subst (λ z. StandsAt k from_pod z (drop header_size b)) (omega arith) a,
)
to_value k _ place _ long i s (next_property m b v l begun a) =
    let w = i begun.there in
    let c = w.0 in
    let rest = rest_of (drop header_size b) in
    let zero : m ≡ 0 = omega (arith, c) in
    let z = properties_begin k m rest zero a in
    let e = key_place k place rest z.1 (property_behind_stands k place b v long begun s) in
    absurd (z.0 (sym e ∙ w.1 (omega (arith, zero))))

past_property : (k : Fault) (n m : ℕ) (place b rest : List ℕ) → header_size ≤ length b → IsBehind (drop header_size b) place (n - 8) rest m → 8 ≤ n →
    StandsInProperties b place k → StandsAt k from_properties n b →
    ((v : Tree) × Begins (drop header_size b) v) × Both from_properties rest place m k
past_property k _ m place _ rest long i far s (at_key b some short is) = absurd (omega (arith, long, short))
past_property k _ m place _ rest long i far s (first_value n b l a) =
    let c = drop header_size b in
    let o = i.offset in
    let last : n ≤ extent (word_at c 0) = elim (pod_ends k n c a) [
      | inl z ↦ omega (arith, z)
      | inr w ↦ w.1
    ] in
    let stands = first_value_stands k place b long (refused_at k n c a) s in
    absurd (i.past (omega (arith, o, last)) (pod_end_empty k n place c i.there (omega (arith, o, last)) a stands))
past_property k _ m place _ rest long i far s (next_property n b v l begun a) =
    let o = i.offset in
    let behind = rest_of (drop header_size b) in (
      (v, begun),
      (
        subst (λ z. StandsInProperties z place k) (sym i.follows) (property_behind_stands k place b v long begun s),
        subst (λ z. StandsAt k from_properties m z) (sym i.follows) (subst (λ z. StandsAt k from_properties z behind) (omega (arith, o)) a),
      ),
    )

names : (A B : Fault → Type 0) → ((k : Fault) → A k → B k) → (why : Refusal) → Says A ⊥ why → Says B ⊥ why
names A B f why s = says_through A B ⊥ ⊥ f (λ x. x) why s

module _ (place : List ℕ) (why : Refusal) where
  -- into the struct or the object at the front
  pub in_struct_body : (n : ℕ) (pod body rest inside : List ℕ) (type : ℕ) (keyed : Bool) → Opens pod type body rest → IsInside type body keyed inside →
      keyed ≡ false → IsFaultIn from_pod pod place n why → (8 ≤ n) × IsFaultIn from_members inside place (n - 8) why
  in_struct_body n pod body rest inside type true o i is s = absurd (let z : true ≡ false = is in cc)
  in_struct_body n pod body rest inside type false o i is s =
      let t : word_at pod 4 ≡ struct_type = sym o.its_type ∙ i.0 in (
        said (Both from_pod pod place n) ⊥ (8 ≤ n) (λ k x. (into_struct k n place pod o.there t x.0 x.1).0) (λ x. absurd x) why s,
        subst (λ z. IsFaultIn from_members z place (n - 8) why) (sym (i.1 ∙ o.its_body))
            (names (Both from_pod pod place n) (Both from_members (body_of pod) place (n - 8)) (λ k x. (into_struct k n place pod o.there t x.0 x.1).1) why s),
      )

  pub in_object_body : (n : ℕ) (pod body rest inside : List ℕ) (type : ℕ) (keyed : Bool) → Opens pod type body rest → IsInside type body keyed inside →
      keyed ≡ true → IsFaultIn from_pod pod place n why → (16 ≤ n) × IsFaultIn from_properties inside place (n - 16) why
  in_object_body n pod body rest inside type false o i is s = absurd (let z : false ≡ true = is in cc)
  in_object_body n pod body rest inside type true o i is s =
      let t : word_at pod 4 ≡ object_type = sym o.its_type ∙ i.0 in
      let long : header_size ≤ length (body_of pod) = subst (λ z. header_size ≤ length z) o.its_body i.1 in
      let same : inside ≡ drop header_size (body_of pod) = i.2 ∙ ap (drop header_size) o.its_body in (
        said (Both from_pod pod place n) ⊥ (16 ≤ n) (λ k x. (into_object k n place pod o.there t long x.0 x.1).0) (λ x. absurd x) why s,
        subst (λ z. IsFaultIn from_properties z place (n - 16) why) (sym same)
            (names (Both from_pod pod place n) (Both from_properties (drop header_size (body_of pod)) place (n - 16))
            (λ k x. (into_object k n place pod o.there t long x.0 x.1).1) why s),
      )

  -- into the first member, or past it
  pub in_first_member : (n : ℕ) (members : List ℕ) → IsWithin members place n → IsFaultIn from_members members place n why →
      IsFaultIn from_pod members place n why
  in_first_member n members i s =
      names (Both from_members members place n) (Both from_pod members place n) (λ k x. to_member k n place members i x.0 x.1) why s

  pub behind_member : (n m : ℕ) (members rest : List ℕ) → IsBehind members place n rest m → IsFaultIn from_members members place n why →
      ((v : Tree) × Begins members v) × IsFaultIn from_members rest place m why
  behind_member n m members rest i s = (
    said (Both from_members members place n) ⊥ ((v : Tree) × Begins members v) (λ k x. (past_member k n m place members rest i x.0 x.1).0) (λ x. absurd x) why s,
    names (Both from_members members place n) (Both from_members rest place m) (λ k x. (past_member k n m place members rest i x.0 x.1).1) why s,
  )

  pub some_members : (n : ℕ) (members : List ℕ) → IsFaultIn from_members members place n why → members ≢ []
  some_members n members s = said (Both from_members members place n) ⊥ (members ≢ []) (λ k x. some k n members x.1) (λ x. absurd x) why s
    where
      some : (k : Fault) (n : ℕ) (b : List ℕ) → StandsAt k from_members n b → b ≢ []
      some k _ _ (first_member m b n s) = n
      some k _ _ (next_member m b v begun s) = λ e. (let h = begun.there.header in let l = ap length e in omega (arith, h, l))

  -- into the value of the first property, or past it
  pub behind_words : (n : ℕ) (properties : List ℕ) → header_size ≤ length properties → IsFaultIn from_properties properties place n why → 8 ≤ n
  behind_words n properties long s = said (Both from_properties properties place n) ⊥ (8 ≤ n) (λ k x. behind_key k n properties long x.1) (λ x. absurd x) why s

  pub in_first_value : (n : ℕ) (properties value : List ℕ) → header_size ≤ length properties → value ≡ drop 8 properties → IsWithin value place (n - 8) →
      IsFaultIn from_properties properties place n why → IsFaultIn from_pod value place (n - 8) why
  in_first_value n properties value long is i s =
      let c = drop header_size properties in
      subst (λ z. IsFaultIn from_pod z place (n - 8) why) (sym is)
      (names (Both from_properties properties place n) (Both from_pod c place (n - 8))
      (λ k x. to_value k n place properties long (subst (λ z. IsWithin z place (n - 8)) is i) x.0 x.1) why s)

  pub behind_first_property : (n m : ℕ) (properties value rest : List ℕ) → header_size ≤ length properties → value ≡ drop 8 properties →
      IsBehind value place (n - 8) rest m → IsFaultIn from_properties properties place n why →
      ((v : Tree) × Begins value v) × IsFaultIn from_properties rest place m why
  behind_first_property n m properties value rest long is i s =
      let far = behind_words n properties long s in
      let b = subst (λ z. IsBehind z place (n - 8) rest m) is i in
      let P = Both from_properties properties place n in (
        subst (λ z. (v : Tree) × Begins z v) (sym is)
            (said P ⊥ ((v : Tree) × Begins (drop header_size properties) v) (λ k x. (past_property k n m place properties rest long b far x.0 x.1).0) (λ x. absurd x) why s),
        names P (Both from_properties rest place m) (λ k x. (past_property k n m place properties rest long b far x.0 x.1).1) why s,
      )

-- ---- The fault of a refused pod

-- the fault of the first of some pods is that of this one
pub fault_of_first : (pod left place : List ℕ) (n : ℕ) (why : Refusal) → IsRefused pod → IsLeft pod left → IsFaultAt left place n why →
    IsFaultIn from_pod pod place n why
fault_of_first pod left place n why r l f =
    subst (λ z. IsFaultIn from_pod z place n why) (none_before l.0 pod l.1 left l.2 l.3 r) (both why f.stands f.offset)
  where
    both : (why : Refusal) → Says (λ k. Stands k place left) ⊥ why → Says (λ k. StandsAt k from_pod n left) ⊥ why → IsFaultIn from_pod left place n why
    both refusal.Short s o = (s, o)
    both refusal.Text s o = (s, o)
    both refusal.InvalidType s o = (s, o)
    both refusal.InvalidChoiceType s o = (s, o)
    both refusal.MissingChoiceValues s o = (s, o)
    both refusal.WrongSize s o = (s, o)
    both refusal.OutOfMemory s o = absurd s

-- where there are none, it is short
pub fault_of_none : (pod : List ℕ) → ((vs : Trees) × AreMembers vs pod) → IsRefused pod → IsFaultIn from_pod pod pod 0 refusal.Short
fault_of_none pod m r =
    let none = ap length (none_before m.0 pod pod [] (sym (append-nil pod)) m.1 r) in
    let short : ¬ (HasFront pod) = λ f. (let h = f.header in omega (arith, h, none)) in
    (at_front pod refl short, at_pod pod short)

-- the pod isn't read for it
pub unread_for : (pod : List ℕ) (place : Bor (List ℕ)) (why : Refusal) → Says (λ k. Stands k place.now pod) ⊥ why → IsUnreadFor Exact pod (error_of place why)
unread_for pod place refusal.OutOfMemory s = absurd s
unread_for pod place why s =
    let r = refused_as pod place why (says_through (λ k. Stands k place.now pod) (λ k. Stands k place.now pod) ⊥ (MayLackMemory pod) (λ k x. x) (λ x. absurd x) why s) in
    record { nothing = r.refused; fault = tt; named = r.named; short_first = r.short_first }
