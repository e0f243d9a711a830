-- Walks over any bytes.
use Rattle.std.proofs.Common.{◌≡◌, ℕ, suc, zero, ◌+◌, ◌*◌, ◌<◌, ◌≤◌, inl, inr, List, [], ◌∷◌, length, take, drop, refl, sym, ap, ◌∙◌, arith, length-drop, length-take}
use Rattle.std.specs.Prelude.{if◌then◌else◌}
use Rattle.std.proofs.lemmas.Bool.{cases_lt, le-leb}
use Rattle.std.proofs.lemmas.Bool.Decides.{leb_tells}
use Rattle.spa_format.specs.Words.{word_at, extent}
use Rattle.spa_format.specs.Front.{HasFront, front_of, rest_of}
use Rattle.spa_format.specs.Walk.{extent_behind, walk_at_most, walk_behind, walk, property_walk, HasProperty, property_of, behind_property}
use Rattle.spa_format.proofs.WordLemmas.{word_at-take, word_at-drop}

-- whole bytes behind k others keep their size word
pub length-take_extent : (k n : ℕ) (b : List ℕ) → n ≡ extent_behind k b → n ≤ length b →
    length (take n b) ≡ extent_behind k (take n b)
length-take_extent k n b h i =
    let e = word_at-take n k b (omega arith) in
    let l = length-take n b in
    rw e (omega arith)

pub length-drop_extent : (b : List ℕ) → length b ≡ extent_behind 8 b →
    length (drop 8 b) ≡ extent (word_at (drop 8 b) 0)
length-drop_extent b h =
    let e : word_at (drop 8 b) 0 ≡ word_at b 8 = word_at-drop 8 0 b in
    let l = length-drop 8 b in
    rw e (omega arith)

pub walk_at_most-there : (n k : ℕ) (b : List ℕ) → extent_behind k b ≤ length b →
    walk_at_most (suc n) k b ≡ take (extent_behind k b) b ∷ walk_at_most n k (drop (extent_behind k b) b)
walk_at_most-there n k b h =
    let e = le-leb (extent_behind k b) (length b) h in
    ap (λ t. if t then take (extent_behind k b) b ∷ walk_at_most n k (drop (extent_behind k b) b) else []) e

walk_at_most-end : (n k : ℕ) (b : List ℕ) → length b < extent_behind k b → walk_at_most n k b ≡ []
walk_at_most-end zero k b h = refl
walk_at_most-end (suc n) k b h =
    elim (leb_tells (extent_behind k b) (length b)) [
      | inl p ↦ absurd (let l = p.1 in omega arith)
      | inr p ↦ ap (λ t. if t then take (extent_behind k b) b ∷ walk_at_most n k (drop (extent_behind k b) b) else []) p.0
    ]

-- the bound is never what ends it
walk_at_most-enough : (n m k : ℕ) (b : List ℕ) → length b ≤ n → length b ≤ m → walk_at_most n k b ≡ walk_at_most m k b
walk_at_most-enough zero m k b h i = sym (walk_at_most-end m k b (omega arith))
walk_at_most-enough (suc n) zero k b h i = walk_at_most-end (suc n) k b (omega arith)
walk_at_most-enough (suc n) (suc m) k b h i =
    elim (cases_lt (length b) (extent_behind k b)) [
      | inl l ↦ walk_at_most-end (suc n) k b l ∙ sym (walk_at_most-end (suc m) k b l)
      | inr l ↦
          let d = length-drop (extent_behind k b) b in
          let r = walk_at_most-enough n m k (drop (extent_behind k b) b) (omega arith) (omega arith) in
          walk_at_most-there n k b l ∙ ap (λ t. take (extent_behind k b) b ∷ t) r ∙ sym (walk_at_most-there m k b l)
    ]

-- where the first one is there, it comes first, and then the walk of the rest
pub walk_behind-there : (k : ℕ) (b : List ℕ) → extent_behind k b ≤ length b →
    walk_behind k b ≡ take (extent_behind k b) b ∷ walk_behind k (drop (extent_behind k b) b)
unfolding walk_behind
walk_behind-there k b h =
    let d = length-drop (extent_behind k b) b in
    walk_at_most-enough (length b) (suc (length b)) k b (omega arith) (omega arith)
    ∙ walk_at_most-there (length b) k b h
    ∙ ap (λ t. take (extent_behind k b) b ∷ t) (walk_at_most-enough (length b) (length (drop (extent_behind k b) b)) k (drop (extent_behind k b) b) (omega arith) (omega arith))

pub walk_behind-end : (k : ℕ) (b : List ℕ) → length b < extent_behind k b → walk_behind k b ≡ []
unfolding walk_behind
walk_behind-end k b h = walk_at_most-end (length b) k b h

length-walk_at_most : (n k : ℕ) (b : List ℕ) → length (walk_at_most n k b) * 8 ≤ length b
length-walk_at_most zero k b = omega arith
length-walk_at_most (suc n) k b =
    elim (cases_lt (length b) (extent_behind k b)) [
      | inl l ↦ let e = ap length (walk_at_most-end (suc n) k b l) in omega arith
      | inr l ↦
          let e = ap length (walk_at_most-there n k b l) in
          let d = length-drop (extent_behind k b) b in
          let r = length-walk_at_most n k (drop (extent_behind k b) b) in
          omega arith
    ]

-- each takes at least a header
pub length-walk_behind : (k : ℕ) (b : List ℕ) → length (walk_behind k b) * 8 ≤ length b
unfolding walk_behind
length-walk_behind k b = length-walk_at_most (length b) k b

-- the first step of a walk, where the extent of the first pod has another name
pub walk_behind-next : (k n : ℕ) (b : List ℕ) → n ≡ extent_behind k b → n ≤ length b →
    walk_behind k b ≡ take n b ∷ walk_behind k (drop n b)
walk_behind-next k n b e h = rw e (walk_behind-there k b (omega arith))

-- pods stand behind no bytes
pub walk-there : (b : List ℕ) → HasFront b → walk b ≡ front_of b ∷ walk (rest_of b)
walk-there b h =
    let x = h.whole in
    walk_behind-next 0 (extent (word_at b 0)) b (omega arith) x

pub walk-end : (b : List ℕ) → ¬ (HasFront b) → walk b ≡ []
walk-end b h =
    elim (cases_lt (length b) (0 + extent (word_at b 0))) [
      | inl l ↦ walk_behind-end 0 b l
      | inr l ↦ absurd (h (record { header = omega arith; whole = omega arith }))
    ]

-- the first step of a walk over pods, where the first pod has a name
pub walk-named : (b p : List ℕ) → HasFront b → p ≡ front_of b → walk b ≡ p ∷ walk (drop (length p) b)
walk-named b p h e =
    let x = h.whole in
    let l = ap length e in
    let t = length-take (extent (word_at b 0)) b in
    let n : extent (word_at b 0) ≡ length p = omega arith in
    walk-there b h ∙ ap (λ q. q ∷ walk (rest_of b)) (sym e) ∙ ap (λ m. p ∷ walk (drop m b)) n

-- properties stand behind key and flags
pub property_walk-there : (b : List ℕ) → HasProperty b →
    property_walk b ≡ property_of b ∷ property_walk (behind_property b)
property_walk-there b h =
    let w = h.value.whole in
    let e : word_at (drop 8 b) 0 ≡ word_at b 8 = word_at-drop 8 0 b in
    let l = length-drop 8 b in
    let f = h.header in
    walk_behind-there 8 b (omega arith)

pub property_walk-end : (b : List ℕ) → ¬ (HasProperty b) → property_walk b ≡ []
property_walk-end b h =
    elim (cases_lt (length b) (extent_behind 8 b)) [
      | inl l ↦ walk_behind-end 8 b l
      | inr l ↦
          let e : word_at (drop 8 b) 0 ≡ word_at b 8 = word_at-drop 8 0 b in
          let d = length-drop 8 b in
          absurd (h (record { header = omega arith; value = record { header = omega arith; whole = omega arith } }))
    ]
