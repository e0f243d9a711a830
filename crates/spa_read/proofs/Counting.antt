-- Counts of pods and of the headers opened.
use Rattle.std.proofs.Common.{◌≡◌, ◌≢◌, ℕ, ◌+◌, ◌<◌, ◌≤◌, List, length, refl, sym, ap, ◌∙◌, subst, arith, Option, Some, None, Bool, true, false}
use Rattle.std.specs.Prelude.{IfNone}
use Rattle.spa_format.specs.Words.{header_size, word_at, body_of}
use Rattle.spa_format.specs.Tree.{Tree, struct, object, Trees, no_trees, member, Properties, no_properties, property, join_members, join_properties, node_count, member_node_count, property_node_count, type_of, struct_type, object_type}
use Rattle.spa_format.specs.Pod.{IsBody}
use Rattle.spa_format.specs.Faults.{Stands, at_front, short_object}
use Rattle.spa_format.specs.Front.{HasFront}
use Rattle.spa_format.specs.Opened as headers
use Rattle.spa_fixed_sized.specs.declared.fault.Refusal.{Refusal}
use Rattle.spa_fixed_sized.specs.declared.fault.Refusal.TheVariants as refusal
use Rattle.spa_value.specs.Views.{property_views, views}
use Rattle.spa_read.specs.Opening.{CountsShort}
use Rattle.spa_bodies.specs.Reading.{MayLackMemory, TakesMemory}
use Rattle.spa_bodies.specs.Refusing.{RefusesBody, RefusesPod, StandsInBody}
use Rattle.spa_read.specs.Nesting.{IsReadIn, RefusesAt, RefusesIn, so_far, with_child}
use Rattle.spa_read.specs.Reading.{OpensIn, OpensLeniently, RefusesLeniently, StandsLeniently, no_front, in_body}
use Rattle.spa_read.specs.declared.inside.Inside.{Inside}
use Rattle.spa_read.specs.declared.inside.Inside.TheVariants as inside
use Rattle.spa_bodies.proofs.Refusals.{body_refused, says_through, short_object_refused}
use Rattle.spa_read.proofs.Replaced.{takes_as}
use Rattle.spa_read.proofs.Readings.{leaf_in, pod_read}

-- Pods in a value.

members_count : (vs : Trees) (v : Tree) →
    member_node_count (join_members vs (member v no_trees)) ≡ member_node_count vs + node_count v
members_count no_trees v = omega arith
members_count (member w vs) v = let e = members_count vs v in omega arith

properties_count : (ps : Properties) (k f : ℕ) (v : Tree) →
    property_node_count (join_properties ps (property k f v no_properties)) ≡ property_node_count ps + node_count v
properties_count no_properties k f v = omega arith
properties_count (property l g w ps) k f v = let e = properties_count ps k f v in omega arith

pub count_with : (i : Inside) (v : Tree) → node_count (with_child i v) ≡ node_count (so_far i) + node_count v
count_with (inside.Struct vs) v = let e = members_count (views vs.items) v in omega arith
count_with (inside.Object o) v =
    let e = properties_count (property_views o.properties.items) o.key o.flags.0 v in omega arith

pub is_one : (v : Tree) → type_of v ≢ struct_type → type_of v ≢ object_type → node_count v ≡ 1
is_one (struct vs) n m = absurd (n refl)
is_one (object t i ps) n m = absurd (m refl)
is_one _ n m = refl

-- Refusals with the headers opened.

-- the front is refused when so many headers are opened
pub refuses_at : (input place : List ℕ) (n : ℕ) (why : Refusal) →
    RefusesPod input place why → headers.OpensHeaders input n → RefusesAt input place n why
refuses_at input place n why h o =
    says_through (λ k. Stands k place input) (λ k. Stands k place input × headers.OpensHeaders input n)
    (MayLackMemory input) (MayLackMemory input) (λ k s. (s, o)) (λ m. m) why h

pub short_at : (m : Bool) (input : List ℕ) (old new : ℕ) (c : CountsShort input old new) →
    RefusesIn m input input c.opened refusal.Short
short_at false input old new c = (at_front input refl c.short, c.opens)
short_at true input old new c = no_front input refl refl c.short

-- where memory ran out
pub memory_at : (m : Bool) (input place : List ℕ) (n : ℕ) → MayLackMemory input → RefusesIn m input place n refusal.OutOfMemory
memory_at false input place n h = h
memory_at true input place n h = h

-- which has no place, and no number
pub memory_anywhere : (m : Bool) (input place at : List ℕ) (n all : ℕ) → RefusesIn m input place n refusal.OutOfMemory →
    RefusesIn m input at all refusal.OutOfMemory
memory_anywhere false input place at n all h = h
memory_anywhere true input place at n all h = h

-- the lenient reading refuses the body that it reads
lenient_body : (input body rest : List ℕ) (type : ℕ) (why : Refusal) → OpensLeniently input type body rest →
    RefusesBody type body why → RefusesLeniently input input why
lenient_body input body rest type why o h =
    says_through (StandsInBody type body) (λ k. StandsLeniently k input input) (TakesMemory type) (MayLackMemory input)
    (λ k s. in_body input type body refl o.there o.reads s)
    (λ t. (o.there, takes_as (word_at input 4) (body_of input) type body o.reads t)) why h

pub leaf_at : (m : Bool) (input body rest : List ℕ) (type : ℕ) (why : Refusal) → OpensIn m input type body rest →
    type ≢ struct_type → type ≢ object_type → RefusesBody type body why → RefusesIn m input input 1 why
leaf_at false input body rest type why o n m h =
    refuses_at input input 1 why (body_refused input body rest type why o h)
    (headers.one_header input o.there.header
    (headers.no_parts (λ e. n (o.its_type ∙ e)) (λ e. m (o.its_type ∙ e))))
leaf_at true input body rest type why o n m h = lenient_body input body rest type why o h

pub short_object_at : (m : Bool) (input body rest : List ℕ) (type : ℕ) (why : Refusal) → OpensIn m input type body rest →
    why ≡ refusal.WrongSize → type ≡ object_type → length body < header_size → RefusesIn m input input 1 why
short_object_at true input body rest type why o e t l =
    subst (RefusesLeniently input input) (sym e) (lenient_body input body rest type refusal.WrongSize o (short_object t l))
short_object_at false input body rest type why o e t l =
    let small : length (body_of input) < header_size = omega (arith, ap length o.its_body) in
    let its_type : word_at input 4 ≡ object_type = sym o.its_type ∙ t in
    subst (RefusesAt input input 1) (sym e)
    (refuses_at input input 1 refusal.WrongSize (short_object_refused input body rest type o t l)
    (headers.one_header input o.there.header (headers.short_object its_type small)))

-- Headers opened at a front.

pub header_counted : (input : List ℕ) (old new : ℕ) → new ≡ old + 1 → header_size ≤ length input → ¬ (HasFront input) →
    CountsShort input old new
header_counted input old new e l n = record {
  short = n;
  opened = 1;
  opens = headers.one_header input l (headers.no_front n);
  count = e;
}

pub none_counted : (input : List ℕ) (old new : ℕ) → new ≡ old → length input < header_size → ¬ (HasFront input) →
    CountsShort input old new
none_counted input old new e l n = record {
  short = n;
  opened = 0;
  opens = headers.no_header input l;
  count = omega arith;
}

pub counted_or_none : {T : Type 0} (r : Option T) (input : List ℕ) (old new : ℕ) → IfNone r (¬ (HasFront input)) →
    header_size ≤ length input → new ≡ old + 1 → IfNone r (CountsShort input old new)
counted_or_none (Some x) input old new n l e = tt
counted_or_none None input old new n l e = header_counted input old new e l n

pub uncounted_or_none : {T : Type 0} (r : Option T) (input : List ℕ) (old new : ℕ) → IfNone r (¬ (HasFront input)) →
    length input < header_size → new ≡ old → IfNone r (CountsShort input old new)
uncounted_or_none (Some x) input old new n l e = tt
uncounted_or_none None input old new n l e = none_counted input old new e l n

-- At the front of the input.

pub short_front : (m : Bool) (input : List ℕ) (old new : ℕ) → old ≡ 0 → CountsShort input old new →
    RefusesIn m input input new refusal.Short
short_front false input old new z c =
    let count = c.count in
    let same : c.opened ≡ new = omega arith in
    (at_front input refl c.short, subst (headers.OpensHeaders input) same c.opens)
short_front true input old new z c = no_front input refl refl c.short

pub one_front : (m : Bool) (input place : List ℕ) (old new : ℕ) (why : Refusal) → old ≡ 0 → new ≡ old + 1 →
    RefusesIn m input place 1 why → RefusesIn m input place new why
one_front m input place old new why z e h =
    let same : 1 ≡ new = omega arith in
    subst (λ n. RefusesIn m input place n why) same h

pub leaf_read : (m : Bool) (input body rest : List ℕ) (type old new : ℕ) (v : Tree) → OpensIn m input type body rest →
    (type ≢ struct_type) × (type ≢ object_type) → type_of v ≡ type → IsBody v body → old ≡ 0 → new ≡ old + 1 →
    IsReadIn m input v rest new
leaf_read m input body rest type old new v o n t b z e =
    let no_struct : type_of v ≢ struct_type = λ x. n.0 (sym t ∙ x) in
    let no_object : type_of v ≢ object_type = λ x. n.1 (sym t ∙ x) in
    let one = is_one v no_struct no_object in
    record { begins = pod_read m input body rest type v o t (leaf_in m v body no_struct no_object b); count = omega arith }
