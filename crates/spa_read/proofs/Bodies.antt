-- Pods of a struct's or of an object's body, read one after another.
use Rattle.std.proofs.Common.{◌≡◌, ◌≢◌, ℕ, ◌+◌, ◌<◌, ◌≤◌, inl, inr, List, [], ◌∷◌, ◌++◌, length, drop, refl, sym, ap, ◌∙◌, subst, arith, append_assoc, length-drop, Vec, Global, Bool, true, false}
use Rattle.spa_format.specs.Words.{header_size, word_at, body_of}
use Rattle.spa_format.specs.Tree.{Tree, struct, object, Trees, Properties, no_properties, property, join_properties, node_count, type_of, struct_type, object_type}
use Rattle.spa_format.specs.Pod.{IsBody}
use Rattle.spa_format.specs.Faults.{Fault, Short, Stands}
use Rattle.spa_format.specs.Faults as fault
use Rattle.spa_format.specs.Front.{IsRefused, front_of}
use Rattle.spa_format.specs.Opened as headers
use Rattle.spa_format.proofs.Refused as format
use Rattle.spa_fixed_sized.specs.declared.fault.Refusal.{Refusal}
use Rattle.spa_fixed_sized.specs.declared.fault.Refusal.TheVariants as refusal
use Rattle.spa_value.specs.View.{view}
use Rattle.spa_value.proofs.ViewLaws.{property_views-push}
use Rattle.spa_value.specs.Views.{property_views, views}
use Rattle.spa_value.specs.declared.object.Property.{Property}
use Rattle.spa_value.specs.declared.value.Value.{Value}
use Rattle.spa_read.specs.Opening.{CountsShort}
use Rattle.spa_bodies.specs.Reading.{MayLackMemory, TakesMemory}
use Rattle.spa_bodies.specs.Refusing.{RefusesBody}
use Rattle.spa_read.specs.Nesting.{IsAlike, IsReadUpTo, LacksKey, Reaches, ReadsPods, RefusesBehind, RefusesIn, so_far, with_child}
use Rattle.spa_read.specs.Reading.{OpensIn, StandsLeniently}
use Rattle.spa_read.specs.Reading as lenient
use Rattle.spa_read.specs.declared.inside.Inside.{Inside}
use Rattle.spa_read.specs.declared.inside.Inside.TheVariants as inside
use Rattle.spa_read.specs.declared.inside.OpenObject.{OpenObject}
use Rattle.spa_read.proofs.Counting.{count_with, is_one, leaf_at, short_at}
use Rattle.spa_read.proofs.Replaced.{takes_as}
use Rattle.spa_read.proofs.Readings.{leaf_in, members_grown, opened_shorter, parted, pod_read, properties_joined}
use Rattle.spa_read.proofs.Remainders.{HasKey, first_in}
use Rattle.spa_bodies.proofs.Refusals.{says_through}

pub type_with : (i : Inside) (v : Tree) → type_of (with_child i v) ≡ type_of (so_far i)
type_with (inside.Struct vs) v = refl
type_with (inside.Object o) v = refl

-- an object with one more property
abbrev with_property : OpenObject → ℕ → ℕ → Tree → Tree
with_property o key flags v =
    object o.type_ o.id (join_properties (property_views o.properties.items) (property key flags v no_properties))

-- a property is put behind the others
pub properties_grown : (o : OpenObject) (qs : List Property) (p : Property) → p.key ≡ o.key → p.flags ≡ o.flags →
    qs ≡ o.properties.items ++ p ∷ [] →
    object o.type_ o.id (property_views qs) ≡ with_child (inside.Object o) (view p.value)
properties_grown o qs p k f g =
    ap (λ l. object o.type_ o.id (property_views l)) g
    ∙ ap (object o.type_ o.id) (property_views-push o.properties.items p)
    ∙ ap (λ x. with_property o x p.flags.0 (view p.value)) k
    ∙ ap (λ x. with_property o o.key x.0 (view p.value)) f

-- Where the next pod stands.

-- a member of a struct begins where what is left does
reaches_struct : (m : Bool) (vs : Trees) (left here body rest at : List ℕ) (n all : ℕ) (why : Refusal) → left ≢ [] →
    OpensIn m here struct_type body rest → IsReadUpTo m (struct vs) body left → all ≡ node_count (struct vs) + n →
    RefusesIn m left at n why → RefusesIn m here at all why
reaches_struct false vs left here body rest at n all why some o r e q =
    let its_type : word_at here 4 ≡ struct_type = sym o.its_type in
    let parts : body_of here ≡ r.0 ++ left = sym o.its_body ∙ r.1 in
    let stands : (k : Fault) → Stands k at left × headers.OpensHeaders left n → Stands k at here × headers.OpensHeaders here all = λ k s. (
      fault.in_member here vs r.0 left o.there its_type parts r.2 some s.0,
      subst (headers.OpensHeaders here) (sym e)
          (headers.in_member here vs r.0 left n o.there its_type parts r.2 some (format.refused k at left s.0) s.1),
    ) in
    says_through (λ k. Stands k at left × headers.OpensHeaders left n) (λ k. Stands k at here × headers.OpensHeaders here all)
    (MayLackMemory left) (MayLackMemory here) stands (λ _. (o.there, inr (inr (inr (inr (inl its_type)))))) why q
reaches_struct true vs left here body rest at n all why some o r e q =
    says_through (λ k. StandsLeniently k at left) (λ k. StandsLeniently k at here) (MayLackMemory left) (MayLackMemory here)
    (λ k s. lenient.in_member here body vs r.0 left o.there o.reads r.1 r.2 some s)
    (λ _. (o.there, takes_as (word_at here 4) (body_of here) struct_type body o.reads (inr (inr (inr (inr (inl refl))))))) why q

pub reaches_member : (vs : Vec Value Global) (left : List ℕ) → left ≢ [] → Reaches (inside.Struct vs) left left
reaches_member vs left some = record {
  read = λ m body rest v r b. (
    r.0 ++ front_of left,
    r.1 ∙ ap (λ l. r.0 ++ l) (parted m left v rest b) ∙ sym (append_assoc r.0 (front_of left) rest),
    members_grown m (views vs.items) v r.0 left rest r.2 b,
  );
  refused = λ m here body rest at n all why o r e q.
      reaches_struct m (views vs.items) left here body rest at n all why some o r e q;
  no_longer = omega arith;
}

-- a property of an object begins there
reaches_object : (m : Bool) (t i : ℕ) (ps : Properties) (left behind here body rest at : List ℕ) (k f n all : ℕ) (why : Refusal) →
    HasKey left behind k f → OpensIn m here object_type body rest → IsReadUpTo m (object t i ps) body left →
    all ≡ node_count (object t i ps) + n → RefusesIn m behind at n why → RefusesIn m here at all why
reaches_object false t i ps left behind here body rest at k f n all why h o r e q =
    let its_type : word_at here 4 ≡ object_type = sym o.its_type in
    let l = r.0 in
    let long : header_size ≤ length (body_of here) = omega (arith, ap length o.its_body) in
    let parts : drop header_size (body_of here) ≡ r.3 ++ left = ap (drop header_size) (sym o.its_body) ∙ r.4 in
    let d = h.is_behind in
    let stands : (c : Fault) → Stands c at behind × headers.OpensHeaders behind n → Stands c at here × headers.OpensHeaders here all = λ c s. (
      fault.in_property here ps r.3 left o.there its_type long parts r.5 h.long (subst (Stands c at) d s.0),
      subst (headers.OpensHeaders here) (sym e)
          (headers.in_property here ps r.3 left n o.there its_type long parts r.5 h.long
          (subst IsRefused d (format.refused c at behind s.0)) (subst (λ b. headers.OpensHeaders b n) d s.1)),
    ) in
    says_through (λ c. Stands c at behind × headers.OpensHeaders behind n) (λ c. Stands c at here × headers.OpensHeaders here all)
    (MayLackMemory behind) (MayLackMemory here) stands (λ _. (o.there, inr (inr (inr (inr (inr (inl its_type))))))) why q
reaches_object true t i ps left behind here body rest at k f n all why h o r e q =
    says_through (λ c. StandsLeniently c at behind) (λ c. StandsLeniently c at here) (MayLackMemory behind) (MayLackMemory here)
    (λ c s. lenient.in_property here body ps r.3 left o.there o.reads r.0 r.4 r.5 h.long (subst (StandsLeniently c at) h.is_behind s))
    (λ _. (o.there, takes_as (word_at here 4) (body_of here) object_type body o.reads (inr (inr (inr (inr (inr (inl refl)))))))) why q

pub reaches_property : (p : OpenObject) (left behind : List ℕ) → header_size ≤ length left →
    behind ≡ drop header_size left → p.key ≡ word_at left 0 → p.flags.0 ≡ word_at left 4 →
    Reaches (inside.Object p) left behind
reaches_property p left behind l d k f =
    let h : HasKey left behind p.key p.flags.0 = record { long = l; is_behind = d; key = k; flags = f } in
    let ps = property_views p.properties.items in
    let next = property p.key p.flags.0 in
    let shorter = ap length d ∙ length-drop 8 left in
    record {
      read = λ m body rest v r b.
          let one = first_in m left behind rest p.key p.flags.0 v h b in (
            r.0,
            r.1,
            r.2,
            r.3 ++ one.here,
            r.4 ∙ ap (λ y. r.3 ++ y) one.parts ∙ sym (append_assoc r.3 one.here rest),
            properties_joined m ps (next v no_properties) r.3 one.here r.5 one.its_bytes,
          );
      refused = λ m here body rest at n all why x r e q.
          reaches_object m p.type_ p.id ps left behind here body rest at p.key p.flags.0 n all why h x r e q;
      no_longer = omega arith;
    }

-- what is left is too short for a key and flags
key_short_at : (m : Bool) (t i : ℕ) (ps : Properties) (left here body rest : List ℕ) → OpensIn m here object_type body rest →
    IsReadUpTo m (object t i ps) body left → left ≢ [] → length left < header_size →
    RefusesIn m here left (node_count (object t i ps)) refusal.Short
key_short_at true t i ps left here body rest o r some short =
    lenient.in_key here body ps r.3 o.there o.reads r.0 r.4 r.5 some short refl
key_short_at false t i ps left here body rest o r some short =
    let its_type : word_at here 4 ≡ object_type = sym o.its_type in
    let l = r.0 in
    let long : header_size ≤ length (body_of here) = omega (arith, ap length o.its_body) in
    let parts : drop header_size (body_of here) ≡ r.3 ++ left = ap (drop header_size) (sym o.its_body) ∙ r.4 in (
      fault.in_key here ps r.3 o.there its_type long parts r.5 some short refl,
      headers.in_key here ps r.3 left o.there its_type long parts r.5 some short,
    )

-- Some pods are read.

-- one more of them
pub one_read : (m : Bool) (from i reached roomy to : Inside) (left now place body rest : List ℕ) (type opened before all : ℕ) (v : Tree) →
    ReadsPods m from left opened i now before → so_far reached ≡ so_far i → Reaches reached now place →
    OpensIn m place type body rest → (type ≢ struct_type) × (type ≢ object_type) → type_of v ≡ type → IsBody v body →
    IsAlike reached roomy → so_far to ≡ with_child roomy v → all ≡ before + 1 → ReadsPods m from left opened to rest all
one_read m from i reached roomy to left now place body rest type opened before all v h s x o n t b a g e =
    let grown : so_far to ≡ with_child reached v = g ∙ a.next v in
    let no_struct : type_of v ≢ struct_type = λ y. n.0 (sym t ∙ y) in
    let no_object : type_of v ≢ object_type = λ y. n.1 (sym t ∙ y) in
    let one = is_one v no_struct no_object in
    let counts = ap node_count grown ∙ count_with reached v in
    let kept = ap node_count s in
    let whole = opened_shorter m place body rest type o in
    let short = x.no_longer in
    let count = h.count in
    let more = h.more in
    let few = h.few in
    record {
      same_type = ap type_of grown ∙ type_with reached v ∙ ap type_of s ∙ h.same_type;
      read = λ all r.
          subst (λ y. IsReadUpTo m y all rest) (sym grown)
          (x.read m all rest v (subst (λ y. IsReadUpTo m y all now) (sym s) (h.read all r))
          (pod_read m place body rest type v o t (leaf_in m v body no_struct no_object b)));
      count = omega arith;
      more = omega arith;
      few = omega arith;
    }

-- Refusals behind them.

pub refused_behind : (m : Bool) (from i reached : Inside) (left now place at : List ℕ) (opened before more all : ℕ) (why : Refusal) →
    ReadsPods m from left opened i now before → so_far reached ≡ so_far i → Reaches reached now place →
    all ≡ before + more → RefusesIn m place at more why → RefusesBehind m (so_far from) left opened at all why
refused_behind m from i reached left now place at opened before more all why h s x e q here body rest n o r c =
    let count = h.count in
    let kept = ap node_count s in
    x.refused m here body rest at more n why
    (subst (λ t. OpensIn m here t body rest) (sym (ap type_of s ∙ h.same_type)) o)
    (subst (λ t. IsReadUpTo m t body now) (sym s) (h.read body r)) (omega arith) q

pub short_behind : (m : Bool) (from i reached : Inside) (left now place : List ℕ) (opened before all : ℕ) →
    ReadsPods m from left opened i now before → so_far reached ≡ so_far i → Reaches reached now place →
    CountsShort place before all → RefusesBehind m (so_far from) left opened place all refusal.Short
short_behind m from i reached left now place opened before all h s x c =
    refused_behind m from i reached left now place place opened before c.opened all refusal.Short h s x c.count
    (short_at m place before all c)

pub leaf_behind : (m : Bool) (from i reached : Inside) (left now place body rest : List ℕ) (type opened before all : ℕ) (why : Refusal) →
    ReadsPods m from left opened i now before → so_far reached ≡ so_far i → Reaches reached now place →
    OpensIn m place type body rest → (type ≢ struct_type) × (type ≢ object_type) → RefusesBody type body why →
    all ≡ before + 1 → RefusesBehind m (so_far from) left opened place all why
leaf_behind m from i reached left now place body rest type opened before all why h s x o n q e =
    refused_behind m from i reached left now place place opened before 1 all why h s x e
    (leaf_at m place body rest type why o n.0 n.1 q)

pub key_short_behind : (m : Bool) (from i : Inside) (left now : List ℕ) (opened before : ℕ) → ReadsPods m from left opened i now before →
    now ≢ [] → LacksKey i now → RefusesBehind m (so_far from) left opened now before refusal.Short
key_short_behind m from (inside.Struct vs) left now opened before h some l here body rest n o r c = absurd l
key_short_behind m from (inside.Object p) left now opened before h some l here body rest n o r c =
    let count = h.count in
    let same : node_count (so_far (inside.Object p)) ≡ n = omega arith in
    subst (λ z. RefusesIn m here now z refusal.Short) same
    (key_short_at m p.type_ p.id (property_views p.properties.items) now here body rest
    (subst (λ t. OpensIn m here t body rest) (sym h.same_type) o) (h.read body r) some l)

-- structs and objects take memory
pub takes_memory : (i : Inside) → TakesMemory (type_of (so_far i))
takes_memory (inside.Struct vs) = inr (inr (inr (inr (inl refl))))
takes_memory (inside.Object o) = inr (inr (inr (inr (inr (inl refl)))))
