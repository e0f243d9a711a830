-- What filters by UTF-8 keep and pass over.
use Rattle.std.proofs.Common.{◌≡◌, ℕ, ◌≤◌, Bool, true, false, cond, List, [], ◌∷◌, length, refl, sym, ◌∙◌, ap, arith, rules, map}
use Rattle.std.specs.Borrow.{Bor}
use Rattle.std.specs.List.{filter}
use Rattle.std.specs.Str.{IsUtf8, is_utf8}
use Rattle.std.proofs.lemmas.Str.{IsUtf8-from_is_utf8, is_utf8-from_IsUtf8}
use Rattle.std.proofs.lemmas.Bool.{false_from_ne_true, and_right, and_left}
use Rattle.std.proofs.lemmas.List.{length-map}
use Rattle.spa_dict.specs.Pairs.{Pair, is_text_pair, pair_of, pairs_of, text_keys, text_pairs, text_values}

-- ---- tests

is_utf8-fails : (b : List ℕ) → ¬ (IsUtf8 b) → is_utf8 b ≡ false
is_utf8-fails b bad = false_from_ne_true (is_utf8 b) (λ e. bad (IsUtf8-from_is_utf8 b e))

-- ---- the front of a filtered list

module _ {X : Type 0} (p : X → Bool) (x : X) (xs : List X) where
  kept : p x ≡ true → filter p (x ∷ xs) ≡ x ∷ filter p xs
  kept e = ap (λ t. cond t (x ∷ filter p xs) (filter p xs)) e

  dropped : p x ≡ false → filter p (x ∷ xs) ≡ filter p xs
  dropped e = ap (λ t. cond t (x ∷ filter p xs) (filter p xs)) e

-- ---- one pair further, from `before` to `after`

module _ {before after : List Pair} {k v : List ℕ} (first : before ≡ (k, v) ∷ after) where
  pub pair_kept : {key value : List ℕ} → key ≡ k → value ≡ v → IsUtf8 k → IsUtf8 v → text_pairs before ≡ (key, value) ∷ text_pairs after
  pair_kept e f s t =
      let both : is_text_pair (k, v) ≡ true = rw (is_utf8-from_IsUtf8 k s, is_utf8-from_IsUtf8 v t) refl in
      ap text_pairs first ∙ kept is_text_pair (k, v) after both ∙ rw (e, f) refl

  pub key_fails : ¬ (IsUtf8 k) → text_pairs before ≡ text_pairs after
  key_fails bad = ap text_pairs first ∙ dropped is_text_pair (k, v) after (and_left (is_utf8 k) (is_utf8 v) (is_utf8-fails k bad))

  pub value_fails : ¬ (IsUtf8 v) → text_pairs before ≡ text_pairs after
  value_fails bad = ap text_pairs first ∙ dropped is_text_pair (k, v) after (and_right (is_utf8 k) (is_utf8 v) (is_utf8-fails v bad))

  pub text_key_kept : {key : List ℕ} → key ≡ k → IsUtf8 k → text_keys before ≡ key ∷ text_keys after
  text_key_kept e s = ap text_keys first ∙ kept is_utf8 k (map (λ p. p.0) after) (is_utf8-from_IsUtf8 k s) ∙ sym (ap (λ x. x ∷ text_keys after) e)

  pub text_key_dropped : ¬ (IsUtf8 k) → text_keys before ≡ text_keys after
  text_key_dropped bad = ap text_keys first ∙ dropped is_utf8 k (map (λ p. p.0) after) (is_utf8-fails k bad)

  pub text_value_kept : {value : List ℕ} → value ≡ v → IsUtf8 v → text_values before ≡ value ∷ text_values after
  text_value_kept e s = ap text_values first ∙ kept is_utf8 v (map (λ p. p.1) after) (is_utf8-from_IsUtf8 v s) ∙ sym (ap (λ x. x ∷ text_values after) e)

  pub text_value_dropped : ¬ (IsUtf8 v) → text_values before ≡ text_values after
  text_value_dropped bad = ap text_values first ∙ dropped is_utf8 v (map (λ p. p.1) after) (is_utf8-fails v bad)

-- ---- lengths

shorter : {X : Type 0} (t : Bool) (x : X) (xs ys : List X) → length ys ≤ length xs → length (cond t (x ∷ ys) ys) ≤ length (x ∷ xs)
shorter true x xs ys h = search rules
shorter false x xs ys h = search rules

length-filter-le : {X : Type 0} (p : X → Bool) (xs : List X) → length (filter p xs) ≤ length xs
length-filter-le p [] = omega arith
length-filter-le p (x ∷ xs) = shorter (p x) x xs (filter p xs) (length-filter-le p xs)

pub fewer_keys : (ps : List Pair) → length (text_keys ps) ≤ length ps
fewer_keys ps =
    let same = length-map ps (λ p. p.0) in
    let fewer = length-filter-le is_utf8 (map (λ p. p.0) ps) in
    omega (arith, same, fewer)

pub fewer_values : (ps : List Pair) → length (text_values ps) ≤ length ps
fewer_values ps =
    let same = length-map ps (λ p. p.1) in
    let fewer = length-filter-le is_utf8 (map (λ p. p.1) ps) in
    omega (arith, same, fewer)

pub pairs_counted : (items : List (Bor (List ℕ) × Bor (List ℕ))) → length (pairs_of items) ≡ length items
pairs_counted items = length-map items pair_of

pub fewer_pairs : (ps : List Pair) → length (text_pairs ps) ≤ length ps
fewer_pairs ps = length-filter-le is_text_pair ps
