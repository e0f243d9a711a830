-- Searches for a property or a member, and how many bytes were passed.
use Rattle.std.proofs.Common.{◌≡◌, ◌≢◌, ℕ, zero, suc, ◌+◌, ◌-◌, ◌<◌, ◌≤◌, List, [], ◌∷◌, length, Option, Some, None, refl, sym, ap, ◌∙◌, arith, length-take, length-drop}
use Rattle.std.specs.Prelude.{Bool, true, false, if◌then◌else◌, nat_eq}
use Rattle.std.specs.Option.{option_map}
use Rattle.std.proofs.lemmas.Bool.{eq-eqb, ne_eqb}
use Rattle.spa_events.specs.Inside.{key_size}
use Rattle.spa_format.specs.Walk.{extent_behind, walk_behind}
use Rattle.spa_format.proofs.WalkLemmas.{walk_behind-end, walk_behind-there}
use Rattle.spa_items.specs.Places.{place_of_key, place_of_number}
use Rattle.spa_items.specs.Puts.{IsFirst, first_of}
use Rattle.spa_items.specs.declared.listing.First.{First}

-- so many bytes behind a place
abbrev pub behind : ℕ → Option ℕ → Option ℕ
behind n = option_map (λ m. n + m)

twice : (n m : ℕ) (o : Option ℕ) → behind n (behind m o) ≡ behind (n + m) o
twice n m None = refl
twice n m (Some x) = let e : n + (m + x) ≡ n + m + x = omega arith in ap Some e

-- the place among all is that among those that are left, behind what was passed
pub record Passed (all left : List ℕ) (whole rest : Option ℕ) : Type 0 where
  pub shorter : length left ≤ length all
  pub place : whole ≡ behind (length all - length left) rest

passed_more : (keyed : Bool) (all left : List ℕ) (f : First) (whole here there : Option ℕ) → IsFirst keyed left f → Passed all left whole here →
    here ≡ behind (length (first_of keyed left)) there → Passed all f.rest.now whole there
passed_more keyed all left f whole here there i p e =
    let n = extent_behind (key_size keyed) left in
    let s = p.shorter in
    let w = i.there in
    let lt = length-take n left in
    let ld = length-drop n left in
    let lr = ap length i.its_rest in
    let q : length all - length left + length (first_of keyed left) ≡ length all - length f.rest.now = omega arith in
    record {
      shorter = omega arith;
      place = p.place ∙ ap (behind (length all - length left)) e ∙ twice (length all - length left) (length (first_of keyed left)) there ∙ ap (λ m. behind m there) q;
    }

pub found_here : (all left : List ℕ) (whole here : Option ℕ) → Passed all left whole here → here ≡ Some 0 → Some (length all - length left) ≡ whole
found_here all left whole here p e =
    let z : length all - length left ≡ length all - length left + 0 = omega arith in
    ap Some z ∙ sym (p.place ∙ ap (behind (length all - length left)) e)

pub found_none : (all left : List ℕ) (whole here : Option ℕ) → Passed all left whole here → here ≡ None → None ≡ whole
found_none all left whole here p e = sym (p.place ∙ ap (behind (length all - length left)) e)

walk_first : (keyed : Bool) (b : List ℕ) (f : First) → IsFirst keyed b f →
    walk_behind (key_size keyed) b ≡ first_of keyed b ∷ walk_behind (key_size keyed) f.rest.now
walk_first keyed b f i =
    walk_behind-there (key_size keyed) b i.there ∙ ap (λ r. first_of keyed b ∷ walk_behind (key_size keyed) r) (sym i.its_rest)

-- properties

key_first : (key : ℕ) (b : List ℕ) (f : First) → IsFirst true b f →
    place_of_key key (walk_behind 8 b) ≡ (if nat_eq f.key key then Some 0 else behind (length (first_of true b)) (place_of_key key (walk_behind 8 f.rest.now)))
key_first key b f i =
    ap (place_of_key key) (walk_first true b f i)
    ∙ ap (λ k. if nat_eq k key then Some 0 else behind (length (first_of true b)) (place_of_key key (walk_behind 8 f.rest.now))) (sym i.its_key)

pub key_here : (key : ℕ) (b : List ℕ) (f : First) → IsFirst true b f → f.key ≡ key → place_of_key key (walk_behind 8 b) ≡ Some 0
key_here key b f i e =
    key_first key b f i
    ∙ ap (λ x. if x then Some 0 else behind (length (first_of true b)) (place_of_key key (walk_behind 8 f.rest.now))) (eq-eqb f.key key e)

pub key_passed : (key : ℕ) (all left : List ℕ) (f : First) → IsFirst true left f → f.key ≢ key →
    Passed all left (place_of_key key (walk_behind 8 all)) (place_of_key key (walk_behind 8 left)) →
    Passed all f.rest.now (place_of_key key (walk_behind 8 all)) (place_of_key key (walk_behind 8 f.rest.now))
key_passed key all left f i ne p =
    passed_more true all left f (place_of_key key (walk_behind 8 all)) (place_of_key key (walk_behind 8 left)) (place_of_key key (walk_behind 8 f.rest.now)) i p
    (key_first key left f i
    ∙ ap (λ x. if x then Some 0 else behind (length (first_of true left)) (place_of_key key (walk_behind 8 f.rest.now))) (ne_eqb f.key key ne))

pub no_key : (key : ℕ) (b : List ℕ) → length b < extent_behind 8 b → place_of_key key (walk_behind 8 b) ≡ None
no_key key b h = ap (place_of_key key) (walk_behind-end 8 b h)

-- members

pub member_here : (n : ℕ) (b : List ℕ) (f : First) → IsFirst false b f → n ≡ 0 → place_of_number n (walk_behind 0 b) ≡ Some 0
member_here n b f i e = ap (λ m. place_of_number m (walk_behind 0 b)) e ∙ ap (place_of_number 0) (walk_first false b f i)

pub member_passed : (n m : ℕ) (whole : Option ℕ) (all left : List ℕ) (f : First) → IsFirst false left f → n ≡ suc m →
    Passed all left whole (place_of_number n (walk_behind 0 left)) →
    Passed all f.rest.now whole (place_of_number m (walk_behind 0 f.rest.now))
member_passed n m whole all left f i e p =
    passed_more false all left f whole (place_of_number n (walk_behind 0 left)) (place_of_number m (walk_behind 0 f.rest.now)) i p
    (ap (λ k. place_of_number k (walk_behind 0 left)) e ∙ ap (place_of_number (suc m)) (walk_first false left f i))

nothing : (n : ℕ) → place_of_number n [] ≡ None
nothing zero = refl
nothing (suc n) = refl

pub no_member : (n : ℕ) (b : List ℕ) → length b < extent_behind 0 b → place_of_number n (walk_behind 0 b) ≡ None
no_member n b h = ap (place_of_number n) (walk_behind-end 0 b h) ∙ nothing n
