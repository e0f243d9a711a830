-- A binary search in a list whose keys rise finds what a look from its front finds.
use Rattle.std.proofs.Common.{◌≡◌, ℕ, zero, suc, ◌+◌, ◌<◌, Bool, true, false, List, [], ◌∷◌, length, get_or, take, Option, Some, None, option_map, cond, map, inl, inr, Result, Ok, Err, MatchResult, ◌&&◌, refl, sym, ap, subst, ◌∙◌, arith}
use Rattle.std.specs.List.{find}
use Rattle.std.specs.List.Sorted.{IsSearchInRange, IsBinarySearchResult, IsSortedBy}
use Rattle.std.specs.Cmp.{IsTotalOrder}
use Rattle.std.specs.Ordering.{is_lt, is_eq}
use Rattle.std.specs.declared.cmp.Ordering.{Ordering}
use Rattle.std.specs.declared.cmp.Ordering.TheVariants.{Less, Equal, Greater}
use Rattle.std.proofs.lemmas.Bool.{cases_lt, and_parts}
use Rattle.std.proofs.lemmas.Cmp.{alike_right}
use Rattle.std.proofs.lemmas.List.Sorted.{searchable_from_sorted}

-- each key is below the next
abbrev pub rises : {X K : Type 0} → (K → K → Ordering) → (X → K) → List X → Bool
rises R key [] = true
rises R key (x ∷ []) = true
rises R key (x ∷ y ∷ ys) = is_lt (R (key x) (key y)) && rises R key (y ∷ ys)

less_from : (r : Ordering) → is_lt r ≡ true → r ≡ Less
less_from Less is = refl
less_from Equal is = search
less_from Greater is = search

module _ {X K : Type 0} {R : K → K → Ordering} (o : IsTotalOrder R) (key : X → K) where
  -- the first is below each that follows it
  first_below : (x : X) (xs : List X) → rises R key (x ∷ xs) ≡ true → (i : ℕ) (d : X) → i < length xs → R (key x) (key (get_or xs i d)) ≡ Less
  first_below x [] up i d in_range = absurd (omega (arith, in_range))
  first_below x (y ∷ ys) up zero d in_range = less_from _ (and_parts _ _ up).0
  first_below x (y ∷ ys) up (suc i) d in_range =
      o.trans (key x) (key y) _ (less_from _ (and_parts _ _ up).0) (first_below y ys (and_parts _ _ up).1 i d (omega (arith, in_range)))

  rest_rises : (x : X) (xs : List X) → rises R key (x ∷ xs) ≡ true → rises R key xs ≡ true
  rest_rises x [] up = refl
  rest_rises x (y ∷ ys) up = (and_parts _ _ up).1

  -- each key is below those behind it
  below : (xs : List X) → rises R key xs ≡ true → (i j : ℕ) (d : X) → i < j → j < length xs → R (key (get_or xs i d)) (key (get_or xs j d)) ≡ Less
  below [] up i j d before in_range = absurd (omega (arith, in_range))
  below (x ∷ xs) up i zero d before in_range = absurd (omega (arith, before))
  below (x ∷ xs) up zero (suc j) d before in_range = first_below x xs up j d (omega (arith, in_range))
  below (x ∷ xs) up (suc i) (suc j) d before in_range = below xs (rest_rises x xs up) i j d (omega (arith, before)) (omega (arith, in_range))

  -- no key is below the one before it, as a binary search asks
  sorted : (xs : List X) → rises R key xs ≡ true → IsSortedBy (λ x y. is_lt (R (key x) (key y))) xs
  sorted xs up i d _ in_range = rw (o.antisymm (key (get_or xs (i + 1) d)) (key (get_or xs i d)), below xs up i (i + 1) d (omega arith) in_range) refl

  module _ (k : K) (test : X → Bool) (same : (x : X) → test x ≡ is_eq (R (key x) k)) where
    -- an element that has the key is the one that is found
    pub found : (xs : List X) → rises R key xs ≡ true → (at : ℕ) (d : X) → at < length xs → R (key (get_or xs at d)) k ≡ Equal → find test xs ≡ Some (get_or xs at d)
    found [] up at d in_range equal = absurd (omega (arith, in_range))
    found (x ∷ xs) up zero d in_range equal = rw (same x, equal) refl
    found (x ∷ xs) up (suc at) d in_range equal =
        let below : R (key x) k ≡ Less = (sym (alike_right o (key (get_or xs at d)) k (key x) equal)) ∙ (first_below x xs up at d (omega (arith, in_range))) in
        rw (same x, below) (found xs (rest_rises x xs up) at d (omega (arith, in_range)) equal)

    -- where no element has the key, none is found
    none_found : (xs : List X) → ((i : ℕ) (d : X) → i < length xs → is_eq (R (key (get_or xs i d)) k) ≡ false) → find test xs ≡ None
    none_found [] differs = refl
    none_found (x ∷ xs) differs = rw (same x, differs 0 x (omega arith)) (none_found xs (λ i d in_range. differs (suc i) d (omega (arith, in_range))))

    -- what a binary search answers is what a look from the front finds
    pub searched : (xs : List X) → rises R key xs ≡ true → (r : Result ℕ ℕ) → IsSearchInRange r (length xs) → IsBinarySearchResult (λ x. R (key x) k) xs r →
        MatchResult r (λ at. (d : X) → find test xs ≡ Some (get_or xs at d)) (λ at. find test xs ≡ None)
    searched xs up (Ok at) in_range equal = λ d. found xs up at d in_range (equal d)
    searched xs up (Err at) in_range parted =
        let parts = parted (searchable_from_sorted o key xs k (sorted xs up)) in
        none_found xs (λ i d lt. elim (cases_lt i at) [
          | inl below ↦ rw (parts.0 i d (omega arith) below) refl
          | inr above ↦ rw (parts.1 i d above lt) refl
        ])

-- a search in a list that is made of another one by a function
module _ {X Y K : Type 0} (f : X → Y) where
  pub rises-map : (R : K → K → Ordering) (key : Y → K) (xs : List X) → rises R key (map f xs) ≡ rises R (λ x. key (f x)) xs
  rises-map R key [] = refl
  rises-map R key (x ∷ []) = refl
  rises-map R key (x ∷ y ∷ ys) = ap (λ b. is_lt (R (key (f x)) (key (f y))) && b) (rises-map R key (y ∷ ys))

option_map-cond : {X Y : Type 0} (f : X → Y) (b : Bool) (x : X) (found : Option Y) (below : Option X) → found ≡ option_map f below → cond b (Some (f x)) found ≡ option_map f (cond b (Some x) below)
option_map-cond f true x found below same = refl
option_map-cond f false x found below same = same

pub find-map : {X Y : Type 0} (f : X → Y) (test : Y → Bool) (xs : List X) → find test (map f xs) ≡ option_map f (find (λ x. test (f x)) xs)
find-map f test [] = refl
find-map f test (x ∷ xs) = option_map-cond f (test (f x)) x _ _ (find-map f test xs)

-- what a search from the front has found none of, up to an element
cond_none : {X : Type 0} (b : Bool) (x : X) (found : Option X) → cond b (Some x) found ≡ None → (b ≡ false) × (found ≡ None)
cond_none true x found is = search
cond_none false x found is = (refl, is)

module _ {X : Type 0} (test : X → Bool) where
  pub none-more : (xs : List X) (i : ℕ) (d : X) → i < length xs → find test (take i xs) ≡ None → test (get_or xs i d) ≡ false → find test (take (i + 1) xs) ≡ None
  none-more [] i d in_range none is = absurd (omega (arith, in_range))
  none-more (x ∷ xs) zero d in_range none is = subst (λ b. cond b (Some x) None ≡ None) (sym is) refl
  none-more (x ∷ xs) (suc i) d in_range none is =
      let p = cond_none (test x) x (find test (take i xs)) none in
      let next : suc i + 1 ≡ suc (i + 1) = omega arith in
      subst (λ n. find test (take n (x ∷ xs)) ≡ None) (sym next)
      (subst (λ b. cond b (Some x) (find test (take (i + 1) xs)) ≡ None) (sym p.0) (none-more xs i d (omega (arith, in_range)) p.1 is))

  pub first-found : (xs : List X) (i : ℕ) (d : X) → i < length xs → find test (take i xs) ≡ None → test (get_or xs i d) ≡ true → find test xs ≡ Some (get_or xs i d)
  first-found [] i d in_range none is = absurd (omega (arith, in_range))
  first-found (x ∷ xs) zero d in_range none is = subst (λ b. cond b (Some x) (find test xs) ≡ Some x) (sym is) refl
  first-found (x ∷ xs) (suc i) d in_range none is =
      let p = cond_none (test x) x (find test (take i xs)) none in
      subst (λ b. cond b (Some x) (find test xs) ≡ Some (get_or xs i d)) (sym p.0) (first-found xs i d (omega (arith, in_range)) p.1 is)
