-- A value made call by call: each call is accepted where the whole value would be.
use Rattle.std.proofs.Common.{◌≡◌, ◌≢◌, ℕ, ◌+◌, ◌*◌, ◌-◌, ◌<◌, ◌≤◌, ◌^◌, List, [], ◌∷◌, ◌++◌, length, refl, sym, ap, ◌∙◌, subst, arith, length-append, Bool, true, false, ◌&&◌, Ok, Err, inl, inr, eq-eqb}
use Rattle.std.specs.Prelude.{cond, nat_eq, nat_lt, Option, Some, None, Result, IfErr, MatchResult, OnOk}
use Rattle.std.proofs.lemmas.Bool.{and_parts, and_from, lt-ltb, or_parts, true_from_ne_false}
use Rattle.std.proofs.lemmas.Option.{same_Some, none-some}
use borrow.Author.Tests.{ltb-true}
use Rattle.spa_format.specs.Words.{extent, size_limit}
use Rattle.spa_format.specs.Kind.{Fixed, Kind, kind_of, body_size, fixed_body}
use Rattle.spa_format.specs.Tree.{Shape, Tree, fixed, pointer, struct, object, Trees, no_trees, member, Properties, no_properties, property, join_members, join_properties, property_node_count, type_of}
use Rattle.spa_format.specs.Encoding.{encoded_body, encoding_of, member_encodings, property_encodings}
use Rattle.spa_format.proofs.FixedKinds.{size_fits, length-fixed_body}
use Rattle.spa_format.proofs.Encodings.{length-encoded_pod, member_encodings-join, property_encodings-join, length-pointer, length-object, length-property_encoding}
use Rattle.spa_format.proofs.Sequences.{join_members-none, join_properties-none}
use Rattle.spa_format.specs.Writable.{SomeValueHasNul, IsTooLarge, SomeValueTooLarge, IsWritable}
use Rattle.spa_builder.specs.State.{Partial, open_struct, open_object, open_property, open_array, open_choice, State, start, with_tree, with_property}
use Rattle.spa_builder.specs.Step.{Call, abandon, state_after_abandon, tree_with_value, closed_value, push_array, push_choice, shape_of, Outcome, Accepts, Inval, Nospc, add, add_prop, all_fit, state_with_tree, state_after_pop, has_nul, state_with_key, own_size, state_with_value, pop, push_object, push_struct, outcome_if_fits, outcome_with_tree, outcome_with_value, some_has_nul, some_value_has_nul, step, outcome_of, takes_trees}
use Rattle.spa_builder.specs.Fields.{BuilderFields, IsAt}
use Rattle.spa_builder.specs.Innermost.{trees_with_value}
use Rattle.spa_builder.specs.Answers.{Makes}
use Rattle.spa_builder.specs.Replay.{state_after_calls, state_from}
use Rattle.spa_builder.specs.Making.{AreFixed, ComesTo, state_of_value, calls_for, member_calls, open_behind, property_calls}
use Rattle.spa_utils.specs.declared.errno.Errno.{Errno}
use Rattle.spa_utils.specs.declared.errno.TheConstants.Errno.{NOMEM}
use Rattle.spa_builder.proofs.Steps.{after, begun_is, no_element, placed_is}
use Rattle.spa_builder.proofs.Valued.{clean}
use Rattle.spa_builder.proofs.Leaving.{fewer_fit}

-- ---- runs

abbrev then : List Call → Outcome → Option State
then cs o = elim o as (λ _. Option State) [ Accepts t ↦ state_from t cs | Inval ↦ None | Nospc ↦ None ]

first_accepted : (s t : State) (c : Call) (cs : List Call) → step s c ≡ Accepts t →
    state_from s (c ∷ cs) ≡ state_from t cs
first_accepted s t c cs e = ap (then cs) e

joined_by : (o : Outcome) (t : State) (cs ys : List Call) →
    ((u : State) → state_from u cs ≡ Some t → state_from u (cs ++ ys) ≡ state_from t ys) →
    then cs o ≡ Some t → then (cs ++ ys) o ≡ state_from t ys
joined_by (Accepts u) t cs ys f e = f u e
joined_by Inval t cs ys f e = absurd (cc)
joined_by Nospc t cs ys f e = absurd (cc)

joined : (s t : State) (xs ys : List Call) → state_from s xs ≡ Some t →
    state_from s (xs ++ ys) ≡ state_from t ys
joined s t [] ys e = ap (λ u. state_from u ys) (cc)
joined s t (c ∷ cs) ys e = joined_by (step s c) t cs ys (λ u h. joined u t cs ys h) e

-- ---- sizes

fits_under : (p q : Partial) (ps : List Partial) (n m : ℕ) → own_size p + n ≤ own_size q + m →
    all_fit m (q ∷ ps) ≡ true → all_fit n (p ∷ ps) ≡ true
fits_under p q ps n m l h =
    let b = and_parts (nat_lt (own_size q + m) size_limit) (all_fit (extent (own_size q + m)) ps) h in
    let k = ltb-true (own_size q + m) size_limit b.0 in
    and_from (nat_lt (own_size p + n) size_limit) (all_fit (extent (own_size p + n)) ps)
    (lt-ltb (own_size p + n) size_limit (omega arith))
    (fewer_fit ps (extent (own_size p + n)) (extent (own_size q + m)) (omega arith) b.1)

members_length : (vs ws : Trees) →
    length (member_encodings (join_members vs ws)) ≡ length (member_encodings vs) + length (member_encodings ws)
members_length vs ws = ap length (member_encodings-join vs ws) ∙ length-append (member_encodings vs) (member_encodings ws)

properties_length : (ps qs : Properties) → length (property_encodings (join_properties ps qs)) ≡
    length (property_encodings ps) + length (property_encodings qs)
properties_length ps qs = ap length (property_encodings-join ps qs) ∙ length-append (property_encodings ps) (property_encodings qs)

member_length : (v : Tree) (vs : Trees) →
    length (member_encodings (member v vs)) ≡ extent (length (encoded_body v)) + length (member_encodings vs)
member_length v vs = length-append (encoding_of v) (member_encodings vs)
    ∙ ap (λ n. n + length (member_encodings vs)) (length-encoded_pod (type_of v) (encoded_body v))

property_length : (k f : ℕ) (v : Tree) (ps : Properties) →
    length (property_encodings (property k f v ps)) ≡
    8 + (extent (length (encoded_body v)) + length (property_encodings ps))
property_length k f v ps = omega (arith, length-property_encoding k f v ps, length-encoded_pod (type_of v) (encoded_body v))

one_length : (v : Tree) → length (member_encodings (member v no_trees)) ≡ extent (length (encoded_body v))
one_length v = let e = member_length v no_trees in let z : length (member_encodings no_trees) ≡ 0 = refl in omega arith

one_property_length : (k f : ℕ) (v : Tree) →
    length (property_encodings (property k f v no_properties)) ≡ 8 + extent (length (encoded_body v))
one_property_length k f v =
    let e = property_length k f v no_properties in
    let z : length (property_encodings no_properties) ≡ 0 = refl in
    omega arith

-- what is open in the place of a value that fits, and is no larger, fits
in_its_place : (p : Partial) (ps : List Partial) (v : Tree) → own_size p ≤ length (encoded_body v) →
    length (encoded_body v) < size_limit → takes_trees ps ≡ true → all_fit 0 (trees_with_value ps v) ≡ true →
    all_fit 0 (p ∷ ps) ≡ true
in_its_place p [] v l m h f =
    and_from (nat_lt (own_size p + 0) size_limit) true (lt-ltb (own_size p + 0) size_limit (omega arith)) refl
in_its_place p (open_struct vs ∷ ps) v l m h f =
    let a = members_length vs (member v no_trees) in
    let b = one_length v in
    and_from (nat_lt (own_size p + 0) size_limit) (all_fit (extent (own_size p + 0)) (open_struct vs ∷ ps))
    (lt-ltb (own_size p + 0) size_limit (omega arith))
    (fits_under (open_struct vs) (open_struct (with_tree vs v)) ps (extent (own_size p + 0)) 0 (omega arith) f)
in_its_place p (open_property t i qs k g ∷ ps) v l m h f =
    let a = properties_length qs (property k g v no_properties) in
    let b = one_property_length k g v in
    let c = length-object t i qs in
    let d = length-object t i (with_property qs k g v) in
    and_from (nat_lt (own_size p + 0) size_limit) (all_fit (extent (own_size p + 0)) (open_property t i qs k g ∷ ps))
    (lt-ltb (own_size p + 0) size_limit (omega arith))
    (fits_under (open_property t i qs k g) (open_object t i (with_property qs k g v)) ps (extent (own_size p + 0)) 0 (omega arith) f)
in_its_place p _ v l m h f = absurd (cc)

-- ---- a call that is accepted

pub record Added (s t : State) (v : Tree) : Type 0 where
  pub nul : has_nul v ≡ false
  pub small : length (encoded_body v) < size_limit
  pub place : state_with_value s.closed s.opened v ≡ Some t
  pub fit : all_fit 0 t.opened ≡ true

fits_by : (c d : Bool) (u t : State) → cond (c && d) (Accepts u) Nospc ≡ Accepts t →
    (c ≡ true) × (d ≡ true) × (u ≡ t)
fits_by true true u t e = (refl, refl, cc)
fits_by true false u t e = absurd (cc)
fits_by false d u t e = absurd (cc)

accepted_by : (b c : Bool) (o : Option State) (t : State) → cond b Inval (outcome_if_fits c o) ≡ Accepts t →
    (b ≡ false) × (c ≡ true) × (o ≡ Some t) × (all_fit 0 t.opened ≡ true)
accepted_by true c o t e = absurd (cc)
accepted_by false c None t e = absurd (cc)
accepted_by false c (Some u) t e =
    let f = fits_by c (all_fit 0 u.opened) u t e in
    (refl, f.0, ap (λ x. Some x) f.2, ap (λ x. all_fit 0 x.opened) (sym f.2) ∙ f.1)

added_so : (s t : State) (v : Tree) → step s (add v) ≡ Accepts t → Added s t v
added_so s t v e =
    let a = accepted_by (has_nul v) (nat_lt (length (encoded_body v)) size_limit) (state_with_value s.closed s.opened v) t e in
    record { nul = a.0; small = ltb-true (length (encoded_body v)) size_limit a.1; place = a.2; fit = a.3 }

sized_by : (o : Option State) (t : State) → o ≡ Some t → all_fit 0 t.opened ≡ true → outcome_if_fits true o ≡ Accepts t
sized_by o t e f = ap (outcome_if_fits true) e ∙ ap (λ b. cond b (Accepts t) Nospc) f

adds : (s t : State) (v : Tree) → Added s t v → step s (add v) ≡ Accepts t
adds s t v a =
    ap (λ b. cond b Inval (outcome_with_value s v)) a.nul
    ∙ ap (λ b. outcome_if_fits b (state_with_value s.closed s.opened v)) (lt-ltb (length (encoded_body v)) size_limit a.small)
    ∙ sized_by (state_with_value s.closed s.opened v) t a.place a.fit

-- a value of no fixed size comes where any tree may stand
takes_it : (s t : State) (v : Tree) → ((x : Fixed) → v ≢ fixed x) → state_with_value s.closed s.opened v ≡ Some t →
    takes_trees s.opened ≡ true
takes_it s t v n e = true_from_ne_false (takes_trees s.opened) (λ h. absurd (none-some t (sym (no_element s.closed s.opened v n h) ∙ e)))

-- ---- what is begun, keyed and closed

starts : (s : State) (p : Partial) → takes_trees s.opened ≡ true → all_fit 0 (p ∷ s.opened) ≡ true →
    outcome_with_tree s p ≡ Accepts (record { closed = s.closed; opened = p ∷ s.opened })
starts s p h f = sized_by (state_with_tree p s) (record { closed = s.closed; opened = p ∷ s.opened }) (begun_is s p h) f

abbrev inside : Trees → Partial → List Partial → State
inside closed p ps = record { closed = closed; opened = p ∷ ps }

members_behind : (ws : Trees) (v : Tree) (vs : Trees) →
    join_members (with_tree ws v) vs ≡ join_members ws (member v vs)
members_behind no_trees v vs = refl
members_behind (member w ws) v vs = ap (member w) (members_behind ws v vs)

properties_behind : (qs : Properties) (k f : ℕ) (v : Tree) (ps : Properties) →
    join_properties (with_property qs k f v) ps ≡ join_properties qs (property k f v ps)
properties_behind no_properties k f v ps = refl
properties_behind (property j g w qs) k f v ps = ap (property j g w) (properties_behind qs k f v ps)

closes_so : (closed : Trees) (p : Partial) (ps : List Partial) (n : ℕ) (t : State) → n ≡ length (p ∷ ps) →
    (v : Tree) → state_after_pop closed (p ∷ ps) (length (p ∷ ps)) ≡ state_with_value closed ps v →
    state_with_value closed ps v ≡ Some t → outcome_of (state_after_pop closed (p ∷ ps) n) ≡ Accepts t
closes_so closed p ps n t l v e f =
    ap (λ m. outcome_of (state_after_pop closed (p ∷ ps) m)) l ∙ ap outcome_of (e ∙ f)

struct_closes : (closed : Trees) (vs : Trees) (ps : List Partial) →
    state_after_pop closed (open_struct vs ∷ ps) (length (open_struct vs ∷ ps)) ≡ state_with_value closed ps (struct vs)
struct_closes closed vs ps = ap (λ b. cond b (state_with_value closed ps (struct vs)) None) (eq-eqb _ _ refl)

object_closes : (closed : Trees) (t i : ℕ) (qs : Properties) (ps : List Partial) →
    state_after_pop closed (open_object t i qs ∷ ps) (length (open_object t i qs ∷ ps)) ≡ state_with_value closed ps (object t i qs)
object_closes closed t i qs ps =
    ap (λ b. cond b (state_with_value closed ps (object t i qs)) None) (eq-eqb _ _ refl)

alone : (s t : State) (v : Tree) → step s (add v) ≡ Accepts t → state_from s (add v ∷ []) ≡ Some t
alone s t v e = first_accepted s t (add v) [] e

struct_not_fixed : (vs : Trees) (x : Fixed) → struct vs ≡ fixed x → ⊥
struct_not_fixed vs x e = cc

object_not_fixed : (t i : ℕ) (ps : Properties) (x : Fixed) → object t i ps ≡ fixed x → ⊥
object_not_fixed t i ps x e = cc

-- ---- a value call by call

mutual
  pub made : (v : Tree) (s t : State) → step s (add v) ≡ Accepts t →
      state_from s (calls_for (length s.opened) v) ≡ Some t
  made (struct vs) s t e =
      let a = added_so s t (struct vs) e in
      let h = takes_it s t (struct vs) (λ x q. struct_not_fixed vs x q) a.place in
      let p = placed_is s.closed s.opened (struct vs) h in
      let is = same_Some (after s.closed s.opened (struct vs)) t (sym p ∙ a.place) in
      let fit = ap (λ u. all_fit 0 u.opened) is ∙ a.fit in
      let n = length s.opened + 1 in
      let first = in_its_place (open_struct no_trees) s.opened (struct vs) (omega arith) a.small h fit in
      let whole = in_its_place (open_struct vs) s.opened (struct vs) (omega arith) a.small h fit in
      let all = members_made vs no_trees s.closed s.opened n (omega arith) a.nul whole in
      first_accepted s (inside s.closed (open_struct no_trees) s.opened) push_struct
      (member_calls n vs ++ pop n ∷ []) (starts s (open_struct no_trees) h first)
      ∙ joined (inside s.closed (open_struct no_trees) s.opened) (inside s.closed (open_struct vs) s.opened)
      (member_calls n vs) (pop n ∷ []) all
      ∙ first_accepted (inside s.closed (open_struct vs) s.opened) t (pop n) []
      (closes_so s.closed (open_struct vs) s.opened n t (omega arith) (struct vs) (struct_closes s.closed vs s.opened) a.place)
  made (object c i ps) s t e =
      let a = added_so s t (object c i ps) e in
      let h = takes_it s t (object c i ps) (λ x q. object_not_fixed c i ps x q) a.place in
      let p = placed_is s.closed s.opened (object c i ps) h in
      let is = same_Some (after s.closed s.opened (object c i ps)) t (sym p ∙ a.place) in
      let fit = ap (λ u. all_fit 0 u.opened) is ∙ a.fit in
      let n = length s.opened + 1 in
      let none = length-object c i no_properties in
      let full = length-object c i ps in
      let zero : length (property_encodings no_properties) ≡ 0 = refl in
      let first = in_its_place (open_object c i no_properties) s.opened (object c i ps) (omega arith) a.small h fit in
      let whole = in_its_place (open_object c i ps) s.opened (object c i ps) (omega arith) a.small h fit in
      let all = properties_made ps no_properties c i s.closed s.opened n (omega arith) a.nul whole in
      first_accepted s (inside s.closed (open_object c i no_properties) s.opened) (push_object c i)
      (property_calls n ps ++ pop n ∷ []) (starts s (open_object c i no_properties) h first)
      ∙ joined (inside s.closed (open_object c i no_properties) s.opened) (inside s.closed (open_object c i ps) s.opened)
      (property_calls n ps) (pop n ∷ []) all
      ∙ first_accepted (inside s.closed (open_object c i ps) s.opened) t (pop n) []
      (closes_so s.closed (open_object c i ps) s.opened n t (omega arith) (object c i ps) (object_closes s.closed c i ps s.opened) a.place)
  made v s t e = alone s t v e

  members_made : (vs ws : Trees) (closed : Trees) (ps : List Partial) (n : ℕ) → n ≡ length ps + 1 →
      some_has_nul vs ≡ false → all_fit 0 (open_struct (join_members ws vs) ∷ ps) ≡ true →
      state_from (inside closed (open_struct ws) ps) (member_calls n vs) ≡
      Some (inside closed (open_struct (join_members ws vs)) ps)
  members_made no_trees ws closed ps n l c f = ap (λ us. Some (inside closed (open_struct us) ps)) (sym (join_members-none ws))
  members_made (member v vs) ws closed ps n l c f =
      let d = or_parts (has_nul v) (some_has_nul vs) c in
      let u = inside closed (open_struct ws) ps in
      let to = inside closed (open_struct (with_tree ws v)) ps in
      let same = members_behind ws v vs in
      let e0 = members_length ws (member v vs) in
      let e1 = member_length v vs in
      let e2 = members_length ws (member v no_trees) in
      let e3 = one_length v in
      let k = ltb-true (own_size (open_struct (join_members ws (member v vs))) + 0) size_limit (and_parts _ _ f).0 in
      let fit = fits_under (open_struct (with_tree ws v)) (open_struct (join_members ws (member v vs))) ps 0 0 (omega arith) f in
      let one = adds u to v (record { nul = d.0; small = omega arith; place = refl; fit = fit }) in
      let first = subst (λ m. state_from u (calls_for m v) ≡ Some to) (omega arith) (made v u to one) in
      joined u to (calls_for n v) (member_calls n vs) first
      ∙ members_made vs (with_tree ws v) closed ps n l d.1
      (ap (λ us. all_fit 0 (open_struct us ∷ ps)) same ∙ f)
      ∙ ap (λ us. Some (inside closed (open_struct us) ps)) same

  properties_made : (qs ws : Properties) (t i : ℕ) (closed : Trees) (ps : List Partial) (n : ℕ) → n ≡ length ps + 1 →
      some_value_has_nul qs ≡ false → all_fit 0 (open_object t i (join_properties ws qs) ∷ ps) ≡ true →
      state_from (inside closed (open_object t i ws) ps) (property_calls n qs) ≡
      Some (inside closed (open_object t i (join_properties ws qs)) ps)
  properties_made no_properties ws t i closed ps n l c f =
      ap (λ us. Some (inside closed (open_object t i us) ps)) (sym (join_properties-none ws))
  properties_made (property k g v qs) ws t i closed ps n l c f =
      let d = or_parts (has_nul v) (some_value_has_nul qs) c in
      let u = inside closed (open_object t i ws) ps in
      let waiting = inside closed (open_property t i ws k g) ps in
      let to = inside closed (open_object t i (with_property ws k g v)) ps in
      let same = properties_behind ws k g v qs in
      let e0 = properties_length ws (property k g v qs) in
      let e1 = property_length k g v qs in
      let e2 = properties_length ws (property k g v no_properties) in
      let e3 = one_property_length k g v in
      let o0 = length-object t i ws in
      let o1 = length-object t i (with_property ws k g v) in
      let o2 = length-object t i (join_properties ws (property k g v qs)) in
      let m = ltb-true (own_size (open_object t i (join_properties ws (property k g v qs))) + 0) size_limit (and_parts _ _ f).0 in
      let keyed_fit = fits_under (open_property t i ws k g) (open_object t i (join_properties ws (property k g v qs))) ps 0 0
      (omega arith) f in
      let fit = fits_under (open_object t i (with_property ws k g v))
      (open_object t i (join_properties ws (property k g v qs))) ps 0 0 (omega arith) f in
      let one = adds waiting to v (record { nul = d.0; small = omega arith; place = refl; fit = fit }) in
      let first = subst (λ m. state_from waiting (calls_for m v) ≡ Some to) (omega arith) (made v waiting to one) in
      first_accepted u waiting (add_prop k g) (calls_for n v ++ property_calls n qs)
      (sized_by (state_with_key closed (open_object t i ws ∷ ps) k g) waiting refl keyed_fit)
      ∙ joined waiting to (calls_for n v) (property_calls n qs) first
      ∙ properties_made qs (with_property ws k g v) t i closed ps n l d.1
      (ap (λ us. all_fit 0 (open_object t i us ∷ ps)) same ∙ f)
      ∙ ap (λ us. Some (inside closed (open_object t i us) ps)) same

-- ---- what can be written, from the start

small_fixed : (k : Kind) (n : ℕ) → n ≡ body_size k → n < size_limit
small_fixed k n e = let l = size_fits k in omega arith

not_least : (a b : ℕ) → ¬ (a ≤ b) → b < a
not_least a b h = omega (arith, h)

small_value : (v : Tree) → ¬ (IsTooLarge v) → length (encoded_body v) < size_limit
small_value (fixed x) h = small_fixed (kind_of x) (length (fixed_body x)) (length-fixed_body x)
small_value (pointer t a) h = let l = length-pointer t a in omega arith
small_value (struct vs) h = not_least _ _ (λ l. h (inl l))
small_value (object t i ps) h = not_least _ _ (λ l. h (inl l))
small_value _ h = not_least _ _ h

pub from_start : (v : Tree) → IsWritable v → step start (add v) ≡ Accepts (state_of_value v)
from_start v w = adds start (state_of_value v) v (record {
  nul = clean v w.no_nul;
  small = small_value v w.fits;
  place = refl;
  fit = refl;
})

pub made_from_start : (v : Tree) → IsWritable v → state_after_calls (calls_for 0 v) ≡ Some (state_of_value v)
made_from_start v w = made v start (state_of_value v) (from_start v w)

-- ---- how many trees are open behind a call

taken_some : (o : Option State) (u : State) → outcome_of o ≡ Accepts u → o ≡ Some u
taken_some None u e = absurd (cc)
taken_some (Some s) u e = cc

sized_some : (o : Option State) (u : State) → outcome_if_fits true o ≡ Accepts u → o ≡ Some u
sized_some o u e = (accepted_by false true o u e).2

open_in : (s u : State) → Some s ≡ Some u → length u.opened ≡ length s.opened
open_in s u e = ap (λ x. length x.opened) (sym (same_Some s u e))

open_added : (o : Option Partial) (closed : Trees) (p : Partial) (ps : List Partial) (u : State) →
    (elim o as (λ _. Option State) [ Some q ↦ Some (inside closed q ps) | None ↦ None ]) ≡ Some u →
    length u.opened ≡ length (p ∷ ps)
open_added (Some q) closed p ps u e = open_in (inside closed q ps) u e
open_added None closed p ps u e = absurd (cc)

open_placed : (closed : Trees) (ps : List Partial) (v : Tree) (u : State) → state_with_value closed ps v ≡ Some u →
    length u.opened ≡ length ps
open_placed closed [] v u e = open_in (record { closed = with_tree closed v; opened = [] }) u e
open_placed closed (p ∷ ps) v u e = open_added (tree_with_value p v) closed p ps u e

open_keyed : (closed : Trees) (ps : List Partial) (k f : ℕ) (u : State) → state_with_key closed ps k f ≡ Some u →
    length u.opened ≡ length ps
open_keyed closed (open_object t i qs ∷ ps) k f u e = open_in (inside closed (open_property t i qs k f) ps) u e
open_keyed closed _ k f u e = absurd (cc)

open_begun : (b : Bool) (s : State) (p : Partial) (u : State) →
    cond b (Some (inside s.closed p s.opened)) None ≡ Some u → length u.opened ≡ length s.opened + 1
open_begun true s p u e = let l = open_in (inside s.closed p s.opened) u e in omega arith
open_begun false s p u e = absurd (cc)

open_choice_begun : (o : Option Shape) (f : ℕ) (s u : State) →
    (elim o as (λ _. Outcome) [ Some h ↦ outcome_with_tree s (open_choice h f []) | None ↦ Inval ]) ≡ Accepts u →
    length u.opened ≡ length s.opened + 1
open_choice_begun (Some h) f s u e =
    open_begun (takes_trees s.opened) s (open_choice h f []) u (sized_some (state_with_tree (open_choice h f []) s) u e)
open_choice_begun None f s u e = absurd (cc)

open_finished : (o : Option Tree) (closed : Trees) (ps : List Partial) (u : State) →
    (elim o as (λ _. Option State) [ Some v ↦ state_with_value closed ps v | None ↦ None ]) ≡ Some u → length u.opened ≡ length ps
open_finished (Some v) closed ps u e = open_placed closed ps v u e
open_finished None closed ps u e = absurd (cc)

only_true : (b : Bool) (o : Option State) (u : State) → cond b o None ≡ Some u → o ≡ Some u
only_true true o u e = e
only_true false o u e = absurd (cc)

open_closed : (closed : Trees) (ps : List Partial) (frame : ℕ) (u : State) → state_after_pop closed ps frame ≡ Some u →
    length u.opened ≡ length ps - 1
open_closed closed [] frame u e = absurd (cc)
open_closed closed (p ∷ ps) frame u e =
    let l = open_finished (closed_value p) closed ps u (only_true (nat_eq frame (length (p ∷ ps))) _ u e) in
    omega arith

open_left : (closed : Trees) (ps : List Partial) (frame : ℕ) (u : State) → state_after_abandon closed ps frame ≡ Some u →
    length u.opened ≡ length ps - 1
open_left closed [] frame u e = absurd (cc)
open_left closed (p ∷ ps) frame u e =
    let l = open_in (record { closed = closed; opened = ps }) u (only_true (nat_eq frame (length (p ∷ ps))) _ u e) in
    omega arith

open_after : (c : Call) (s u : State) → step s c ≡ Accepts u → length u.opened ≡ open_behind (length s.opened) c
open_after (add v) s u e = open_placed s.closed s.opened v u (added_so s u v e).place
open_after (add_prop k f) s u e = open_keyed s.closed s.opened k f u (sized_some (state_with_key s.closed s.opened k f) u e)
open_after push_struct s u e =
    open_begun (takes_trees s.opened) s (open_struct no_trees) u (sized_some (state_with_tree (open_struct no_trees) s) u e)
open_after (push_object t i) s u e =
    open_begun (takes_trees s.opened) s (open_object t i no_properties) u
    (sized_some (state_with_tree (open_object t i no_properties) s) u e)
open_after push_array s u e =
    open_begun (takes_trees s.opened) s (open_array []) u (sized_some (state_with_tree (open_array []) s) u e)
open_after (push_choice h f) s u e = open_choice_begun (shape_of h) f s u e
open_after (pop frame) s u e = open_closed s.closed s.opened frame u (taken_some (state_after_pop s.closed s.opened frame) u e)
open_after (abandon frame) s u e =
    open_left s.closed s.opened frame u (taken_some (state_after_abandon s.closed s.opened frame) u e)

-- ---- a builder on its way

pub begins : (v : Tree) (b : BuilderFields) → IsWritable v → IsAt b start → ComesTo 0 (state_of_value v) (calls_for 0 v) b
begins v b w at = record { state = start; at = at; depth = refl; run = made v start (state_of_value v) (from_start v w) }

goes_by : {A : Type 0} (o : Outcome) (n : ℕ) (t : State) (cs : List Call) (old new : BuilderFields) (r : Result A Errno) →
    ((u : State) → o ≡ Accepts u → length u.opened ≡ n) → then cs o ≡ Some t → Makes o old new r →
    MatchResult r (λ _. ComesTo n t cs new) (λ e. (e ≡ NOMEM) × (new ≡ old))
goes_by (Accepts u) n t cs old new (Ok x) f e m = record { state = u; at = m; depth = f u refl; run = e }
goes_by (Accepts u) n t cs old new (Err x) f e m = m
goes_by Inval n t cs old new r f e m = absurd (cc)
goes_by Nospc n t cs old new r f e m = absurd (cc)

pub goes_on : {A : Type 0} (n : ℕ) (t : State) (c : Call) (cs : List Call) (old new : BuilderFields) (r : Result A Errno) →
    ComesTo n t (c ∷ cs) old → ((s : State) → IsAt old s → Makes (step s c) old new r) →
    MatchResult r (λ _. ComesTo (open_behind n c) t cs new) (λ e. (e ≡ NOMEM) × (new ≡ old))
goes_on n t c cs old new r h f =
    goes_by (step h.state c) (open_behind n c) t cs old new r
    (λ u e. open_after c h.state u e ∙ ap (λ m. open_behind m c) h.depth) h.run (f h.state h.at)

arrives : (n : ℕ) (t : State) (b : BuilderFields) → ComesTo n t [] b → IsAt b t
arrives n t b h = subst (IsAt b) (same_Some h.state t h.run) h.at

pub at_end : (n : ℕ) (t : State) (c : Call) (old new : BuilderFields) (r : Result (Unit {0}) Errno) → ComesTo n t (c ∷ []) old →
    ((s : State) → IsAt old s → Makes (step s c) old new r) → OnOk r (IsAt new t) × IfErr r (λ e. e ≡ NOMEM)
at_end n t c old new (Ok x) h f = (arrives (open_behind n c) t new (goes_on n t c [] old new (Ok x) h f), tt)
at_end n t c old new (Err e) h f = (tt, (goes_on {A = Unit {0}} n t c [] old new (Err e) h f).0)

-- the frame of what is closed is the number of open trees, as it was answered
pub closed_by : (n m frame : ℕ) (t : State) (cs : List Call) (b : BuilderFields) → frame ≡ m → ComesTo n t (pop m ∷ cs) b →
    ComesTo n t (pop frame ∷ cs) b
closed_by n m frame t cs b e h = subst (λ k. ComesTo n t (pop k ∷ cs) b) (sym e) h

-- ---- objects of numbers

fixed_length : (ps : Properties) → AreFixed ps → length (property_encodings ps) ≤ 24 * property_node_count ps
fixed_length no_properties h = omega arith
fixed_length (property k f (fixed x) ps) h =
    let e = property_length k f (fixed x) ps in
    let l = length-fixed_body x in
    let s = size_fits (kind_of x) in
    let r = fixed_length ps h in
    omega arith
fixed_length _ h = absurd h

fixed_clean : (ps : Properties) → AreFixed ps → ¬ (SomeValueHasNul ps)
fixed_clean no_properties h n = n
fixed_clean (property k f (fixed x) ps) h (inl n) = n
fixed_clean (property k f (fixed x) ps) h (inr n) = fixed_clean ps h n
fixed_clean _ h n = absurd h

fixed_fits : (ps : Properties) → AreFixed ps → ¬ (SomeValueTooLarge ps)
fixed_fits no_properties h n = n
fixed_fits (property k f (fixed x) ps) h (inl n) = n
fixed_fits (property k f (fixed x) ps) h (inr n) = fixed_fits ps h n
fixed_fits _ h n = absurd h

object_fits : (t i : ℕ) (ps : Properties) → AreFixed ps → property_node_count ps < 2 ^ 27 →
    ¬ (IsTooLarge (object t i ps))
object_fits t i ps h l (inl n) = let e = length-object t i ps in let f = fixed_length ps h in omega arith
object_fits t i ps h l (inr n) = fixed_fits ps h n

pub fixed_writable : (t i : ℕ) (ps : Properties) → AreFixed ps → property_node_count ps < 2 ^ 27 →
    IsWritable (object t i ps)
fixed_writable t i ps h l = record {
  no_nul = fixed_clean ps h;
  fits = object_fits t i ps h l;
}
