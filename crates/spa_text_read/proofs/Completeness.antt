-- What reads as a value is read: the steps come to that value.
use Rattle.std.proofs.Common.{◌≡◌, ℕ, List, [], ◌∷◌, ◌++◌, Bool, true, refl, sym, ap, ◌∙◌, subst, append_assoc}
use Rattle.std.proofs.lemmas.List.{append-nil}
use Rattle.std.specs.Prelude.{Option, Some, None, option_map, if◌then◌else◌}
use Rattle.json.specs.Token.{Token}
use Rattle.json.specs.Json.{after_end_array, read_key}
use Rattle.spa_format.specs.Kind.{Kind, Fixed, kind_of}
use Rattle.spa_format.specs.Tree.{Shape, Tree, fixed, array, choice, struct, object, bytes, bitmap, pointer, Trees, no_trees, member, Properties, no_properties, property, join_members, join_properties}
use Rattle.spa_format.proofs.Sequences.{join_members-none, join_properties-none}
use Rattle.spa_value.specs.Equality.{kind_eq}
use Rattle.spa_names.specs.declared.entry.Expected.{Expected}
use Rattle.spa_names.specs.declared.table.Table.{Table}
use Rattle.spa_text_read.specs.Names.{keys_of, expected_under}
use Rattle.spa_text_read.specs.Options.{◌>>=◌, and_then}
use Rattle.spa_text_read.specs.Tokens.{after_end_object}
use Rattle.spa_text_read.specs.Grammar.{opens, close, element, nothing, property_at, ReadsValue, ReadsAs, AreElements, AreMembers, AreProperties}
use Rattle.spa_text_read.specs.Steps.{Frame, in_struct, in_array, in_choice, in_object, Runs, stops, finishes, goes_on, Step, refused, done, goes, Follows, step, Next, ended, wants, expects, ends, value_of, next, next_item, next_property, give, give_ended, after_next, after_opening, after_put, put, started, ComesTo}

-- one list of members behind another
pub join_one : (vs : Trees) (v : Tree) (ws : Trees) → join_members (join_members vs (member v no_trees)) ws ≡ join_members vs (member v ws)
join_one no_trees v ws = refl
join_one (member u vs) v ws = ap (member u) (join_one vs v ws)

pub join_one_property : (ps : Properties) (k f : ℕ) (v : Tree) (qs : Properties) →
    join_properties (join_properties ps (property k f v no_properties)) qs ≡ join_properties ps (property k f v qs)
join_one_property no_properties k f v qs = refl
join_one_property (property l g u ps) k f v qs = ap (property l g u) (join_one_property ps k f v qs)

-- a step, and what it leads to
pub from_step : (s : Step) (f : Frame) (k : List Frame) (ts : List Token) (r : Option (Tree × List Token)) →
    step f k ts ≡ s → Follows s r → Runs f k ts r
from_step refused f k ts r e h = subst (Runs f k ts) (sym h) (stops e)
from_step (done v us) f k ts r e h = subst (Runs f k ts) (sym h) (finishes e)
from_step (goes g l us) f k ts r e h = goes_on e h

pub to_step : (f : Frame) (k : List Frame) (ts : List Token) (r : Option (Tree × List Token)) → Runs f k ts r → Follows (step f k ts) r
to_step f k ts _ (stops e) = subst (λ s. Follows s None) (sym e) refl
to_step f k ts _ (finishes {us = us} {v = v} e) = subst (λ s. Follows s (Some (v, us))) (sym e) refl
to_step f k ts r (goes_on e h) = subst (λ s. Follows s r) (sym e) h

-- the steps come to one end
pub same_end : (f : Frame) (k : List Frame) (ts : List Token) (r q : Option (Tree × List Token)) → Runs f k ts r → Runs f k ts q → r ≡ q
same_end f k ts _ q (stops e) d = sym (subst (λ s. Follows s q) e (to_step f k ts q d))
same_end f k ts _ q (finishes e) d = sym (subst (λ s. Follows s q) e (to_step f k ts q d))
same_end f k ts r q (goes_on {g = g} {l = l} {us = us} e h) d =
    same_end g l us r q h (subst (λ s. Follows s q) e (to_step f k ts q d))

pub same_follows : (s : Step) (r q : Option (Tree × List Token)) → Follows s r → Follows s q → r ≡ q
same_follows refused r q d e = d ∙ sym e
same_follows (done v ts) r q d e = d ∙ sym e
same_follows (goes f k ts) r q d e = same_end f k ts r q d e

by_next : (f : Frame) (k : List Frame) (ts : List Token) (o : Option (Next × List Token)) → next f ts ≡ o → step f k ts ≡ after_next f k o
unfolding step
by_next f k ts o e = ap (after_next f k) e

-- these frames hold elements of one kind
record HoldsElements (f : List Fixed → Frame) (t : Table) (q : Kind) : Type 0 where
  nexts : (xs : List Fixed) (ts : List Token) → next (f xs) ts ≡ next_item (f xs) ts (after_end_array ts)
  expected : (xs : List Fixed) → expects (f xs) ≡ element t q
  at_their_end : (xs : List Fixed) (ts : List Token) → ends (f xs) ts ≡ after_end_object ts
  puts : (xs : List Fixed) (x : Fixed) (ts : List Token) → kind_eq (kind_of x) q ≡ true → put (f xs) (fixed x) ts ≡ Some (f (xs ++ x ∷ []), ts)

holds_array : (t : Table) (q : Kind) → HoldsElements (in_array t q) t q
unfolding next
holds_array t q = record {
  nexts = λ xs ts. refl;
  expected = λ xs. refl;
  at_their_end = λ xs ts. refl;
  puts = λ xs x ts e. ap (λ b. and_then ts (option_map (λ y. in_array t q (xs ++ y ∷ [])) (if b then Some x else None))) e;
}

holds_choice : (s : Shape) (n : ℕ) (t : Table) (q : Kind) → HoldsElements (in_choice s n t q) t q
unfolding next
holds_choice s n t q = record {
  nexts = λ xs ts. refl;
  expected = λ xs. refl;
  at_their_end = λ xs ts. refl;
  puts = λ xs x ts e. ap (λ b. and_then ts (option_map (λ y. in_choice s n t q (xs ++ y ∷ [])) (if b then Some x else None))) e;
}

-- elements of an array or of a choice
elements : (f : List Fixed → Frame) (t : Table) (q : Kind) → HoldsElements f t q → (xs before : List Fixed) (k : List Frame)
    (ts ws rest : List Token) (r : Option (Tree × List Token)) → AreElements (element t q) q xs ts ws → after_end_object ws ≡ Some rest →
    Follows (give_ended (value_of (f (before ++ xs))) k rest) r → Runs (f before) k ts r
elements f t q l [] before k ts ws rest r e b h =
    let n : next (f before) ts ≡ Some (ended, rest) =
    l.nexts before ts ∙ ap (next_item (f before) ts) e ∙ ap (option_map (λ us. (ended, us))) (l.at_their_end before ws ∙ b) in
    from_step (give_ended (value_of (f before)) k rest) (f before) k ts r (by_next (f before) k ts (Some (ended, rest)) n)
    (subst (λ ys. Follows (give_ended (value_of (f ys)) k rest) r) (append-nil before) h)
elements f t q l (x ∷ xs) before k ts ws rest r e b h =
    let n : next (f before) ts ≡ Some (wants (f before) (element t q) e.0, e.1) =
    l.nexts before ts ∙ ap (next_item (f before) ts) e.3 ∙ ap (option_map (λ p. (wants (f before) (expects (f before)) p.0, p.1))) e.4
    ∙ ap (λ c. Some (wants (f before) c e.0, e.1)) (l.expected before) in
    let s : step (f before) k ts ≡ goes (f (before ++ x ∷ [])) k e.2 =
    by_next (f before) k ts (Some (wants (f before) (element t q) e.0, e.1)) n ∙ ap (after_opening (f before ∷ k)) e.5
    ∙ ap (after_put k) (l.puts before x e.2 e.6) in
    goes_on s
    (elements f t q l xs (before ++ x ∷ []) k e.2 ws rest r e.7 b
    (subst (λ ys. Follows (give_ended (value_of (f ys)) k rest) r) (sym (append_assoc before (x ∷ []) xs)) h))

struct_next : (b : Bool) (vs : Trees) (ts : List Token) (o : Option (List Token)) → after_end_array ts ≡ o →
    next (in_struct b vs) ts ≡ next_item (in_struct b vs) ts o
unfolding next
struct_next b vs ts o e = ap (next_item (in_struct b vs) ts) e

object_next : (t i : ℕ) (ps : Properties) (k f : ℕ) (b : Bool) (ts : List Token) (o : Option (Option (List ℕ) × List Token)) →
    read_key ts ≡ o → next (in_object t i ps k f b) ts ≡ o >>= next_property t i ps
unfolding next
object_next t i ps k f b ts o e = ap (λ x. x >>= next_property t i ps) e

mutual
  complete : (v : Tree) (c : Expected) (h : Token) (ts rest : List Token) (k : List Frame) (r : Option (Tree × List Token)) →
      ReadsValue c v h ts rest → Follows (give v k rest) r → Follows (after_opening k (opens c h ts)) r
  complete (array q xs) c h ts rest k r e d =
      subst (λ o. Follows (after_opening k o) r) (sym e.3)
      (elements (in_array e.0 q) e.0 q (holds_array e.0 q) xs [] k e.1 e.2 rest r e.4 e.5 d)
  complete (choice s f q x xs) c h ts rest k r e d =
      subst (λ o. Follows (after_opening k o) r) (sym e.3)
      (elements (in_choice s f e.0 q) e.0 q (holds_choice s f e.0 q) (x ∷ xs) [] k e.1 e.2 rest r e.4 e.6
      (subst (λ o. Follows (give_ended o k rest) r) (sym e.5) d))
  complete (struct vs) c h ts rest k r e d =
      subst (λ o. Follows (after_opening k o) r) (sym e.3) (members vs e.0 no_trees k e.1 e.2 rest r e.4 e.5 d)
  complete (object t i ps) c h ts rest k r e d =
      subst (λ o. Follows (after_opening k o) r) (sym e.2) (properties ps t i no_properties 0 0 Bool.false k e.0 e.1 rest r e.3 e.4 d)
  complete (fixed x) c h ts rest k r e d = subst (λ o. Follows (after_opening k o) r) (sym e) d
  complete (Tree.string x) c h ts rest k r e d = subst (λ o. Follows (after_opening k o) r) (sym e) d
  complete (bytes x) c h ts rest k r e d = subst (λ o. Follows (after_opening k o) r) (sym e) d
  complete (bitmap x) c h ts rest k r e d = subst (λ o. Follows (after_opening k o) r) (sym e) d
  complete (pointer t a) c h ts rest k r e d = subst (λ o. Follows (after_opening k o) r) (sym e) d

  members : (vs : Trees) (b : Bool) (before : Trees) (k : List Frame) (ts ws rest : List Token) (r : Option (Tree × List Token)) →
      AreMembers vs ts ws → close b ws ≡ Some rest → Follows (give (struct (join_members before vs)) k rest) r →
      Runs (in_struct b before) k ts r
  members no_trees b before k ts ws rest r e c d =
      let n = struct_next b before ts (Some ws) e ∙ ap (option_map (λ us. (ended, us))) c in
      from_step (give (struct before) k rest) (in_struct b before) k ts r
      (by_next (in_struct b before) k ts (Some (ended, rest)) n)
      (subst (λ us. Follows (give (struct us) k rest) r) (join_members-none before) d)
  members (member v vs) b before k ts ws rest r e c d =
      let f = in_struct b before in
      let n = struct_next b before ts None e.3 ∙ ap (option_map (λ p. (wants f nothing p.0, p.1))) e.4 in
      from_step (after_opening (f ∷ k) (opens nothing e.0 e.1)) f k ts r (by_next f k ts (Some (wants f nothing e.0, e.1)) n)
      (complete v nothing e.0 e.1 e.2 (f ∷ k) r e.5
      (members vs b (join_members before (member v no_trees)) k e.2 ws rest r e.6 c
      (subst (λ us. Follows (give (struct us) k rest) r) (sym (join_one before v vs)) d)))

  properties : (qs : Properties) (t i : ℕ) (before : Properties) (key flags : ℕ) (b : Bool) (k : List Frame) (ts ws rest : List Token)
      (r : Option (Tree × List Token)) → AreProperties (keys_of t) qs ts ws → after_end_object ws ≡ Some rest →
      Follows (give (object t i (join_properties before qs)) k rest) r → Runs (in_object t i before key flags b) k ts r
  properties no_properties t i before key flags b k ts ws rest r e c d =
      let f = in_object t i before key flags b in
      let n = object_next t i before key flags b ts (Some (None, ws)) e ∙ ap (option_map (λ us. (ended, us))) c in
      from_step (give (object t i before) k rest) f k ts r (by_next f k ts (Some (ended, rest)) n)
      (subst (λ qs. Follows (give (object t i qs) k rest) r) (join_properties-none before) d)
  properties (property q g v qs) t i before key flags b k ts ws rest r e c d =
      let f = in_object t i before key flags b in
      let to = in_object t i before q g e.2 in
      let under = expected_under (keys_of t) q in
      let n : next f ts ≡ Some (wants to under e.3, e.4) =
      object_next t i before key flags b ts (Some (Some e.0, e.1)) e.7
      ∙ ap (λ o. o >>= (λ m. property_at e.1 >>= (λ p. Some (wants (in_object t i before m p.0.0 p.0.1.0) (expected_under (keys_of t) m) p.0.1.1, p.1)))) e.8
      ∙ ap (λ o. o >>= (λ p. Some (wants (in_object t i before q p.0.0 p.0.1.0) under p.0.1.1, p.1))) e.9 in
      from_step (after_opening (to ∷ k) (opens under e.3 e.4)) f k ts r (by_next f k ts (Some (wants to under e.3, e.4)) n)
      (complete v under e.3 e.4 e.5 (to ∷ k) r e.10
      (subst (λ s. Follows s r)
      (sym (ap (λ o. after_put k (option_map (λ us. (in_object t i (join_properties before (property q g v no_properties)) q g e.2, us)) o)) e.11))
      (properties qs t i (join_properties before (property q g v no_properties)) q g e.2 k e.6 ws rest r e.12 c
      (subst (λ us. Follows (give (object t i us) k rest) r) (sym (join_one_property before q g v qs)) d))))

-- what reads as a value comes to it
pub comes_to : (c : Expected) (v : Tree) (ts rest : List Token) → ReadsAs c v ts rest → ComesTo c ts (Some (v, rest))
comes_to c v ts rest e =
    subst (λ o. Follows (started c o) (Some (v, rest))) (sym e.2) (complete v c e.0 e.1 rest [] (Some (v, rest)) e.3 refl)
