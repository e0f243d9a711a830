-- Fixation of properties in any bytes: one after another, and with what stays.
use Rattle.std.proofs.Common.{◌≡◌, ℕ, suc, zero, ◌+◌, ◌<◌, ◌≤◌, inl, inr, List, ◌++◌, length, take, drop, refl, sym, ap, ◌∙◌, arith, length-append, length-drop, length-take, append_assoc, true, false}
use Rattle.std.specs.Prelude.{if◌then◌else◌, nat_eq, Bool, ◌&&◌}
use Rattle.std.proofs.lemmas.Bool.{cases_lt}
use Rattle.std.proofs.lemmas.Bool.Decides.{leb_tells}
use Rattle.std.proofs.lemmas.List.{drop-drop, length-take-le}
use Rattle.spa_format.specs.Words.{word_at, word_bytes}
use Rattle.spa_format.specs.Tree.{choice_type}
use Rattle.spa_format.specs.Walk.{extent_behind, property_walk}
use Rattle.spa_format.specs.Fixation.{may_fixate, is_fixable, none_choice_pod, fixated_property, fixated_walk, walk_size, fixated_properties}
use Rattle.spa_format.proofs.WordLemmas.{length-word_bytes}
use Rattle.spa_format.proofs.WalkLemmas.{walk_behind-there, walk_behind-end, length-take_extent, length-drop_extent}

-- what holds at the end of a walk over properties, and before each step of one, holds of any bytes
walk_induction_at : (P : List ℕ → Type 0) →
    ((b : List ℕ) → length b < extent_behind 8 b → P b) →
    ((b : List ℕ) → extent_behind 8 b ≤ length b → P (drop (extent_behind 8 b) b) → P b) →
    (n : ℕ) (b : List ℕ) → length b ≤ n → P b
walk_induction_at P end step zero b h = end b (omega arith)
walk_induction_at P end step (suc n) b h =
    elim (cases_lt (length b) (extent_behind 8 b)) [
      | inl l ↦ end b l
      | inr l ↦
          let d = length-drop (extent_behind 8 b) b in
          step b l (walk_induction_at P end step n (drop (extent_behind 8 b) b) (omega arith))
    ]

pub walk_induction : (P : List ℕ → Type 0) →
    ((b : List ℕ) → length b < extent_behind 8 b → P b) →
    ((b : List ℕ) → extent_behind 8 b ≤ length b → P (drop (extent_behind 8 b) b) → P b) →
    (b : List ℕ) → P b
walk_induction P end step b = walk_induction_at P end step (length b) b (omega arith)

-- the first property changed, and then the same of the rest
pub fixated_properties-there : (b : List ℕ) → extent_behind 8 b ≤ length b →
    fixated_properties b ≡ fixated_property (take (extent_behind 8 b) b) ++ fixated_properties (drop (extent_behind 8 b) b)
unfolding fixated_properties
fixated_properties-there b h =
    let n = extent_behind 8 b in
    let p = take n b in
    let ps = property_walk (drop n b) in
    ap (λ q. fixated_walk q ++ drop (walk_size q) b) (walk_behind-there 8 b h)
    ∙ ap (λ m. (fixated_property p ++ fixated_walk ps) ++ drop (m + walk_size ps) b) (length-take-le n b h)
    ∙ ap (λ z. (fixated_property p ++ fixated_walk ps) ++ z) (sym (drop-drop (walk_size ps) n b))
    ∙ append_assoc (fixated_property p) (fixated_walk ps) (drop (walk_size ps) (drop n b))

pub fixated_properties-next : (n : ℕ) (b : List ℕ) → n ≡ extent_behind 8 b → n ≤ length b →
    fixated_properties b ≡ fixated_property (take n b) ++ fixated_properties (drop n b)
fixated_properties-next n b e h = rw e (fixated_properties-there b (omega arith))

pub fixated_properties-end : (b : List ℕ) → length b < extent_behind 8 b → fixated_properties b ≡ b
unfolding fixated_properties
fixated_properties-end b h = ap (λ q. fixated_walk q ++ drop (walk_size q) b) (walk_behind-end 8 b h)

either : (t : Bool) (a p : List ℕ) → length a ≡ length p → length (if t then a else p) ≡ length p
either true a p h = h
either false a p h = refl

pub never : (x y : Bool) → (x && (y && false)) ≡ false
never true true = refl
never true false = refl
never false true = refl
never false false = refl

-- a choice's pod keeps its length
pub length-none_choice_pod : (b : List ℕ) → 12 ≤ length b → length (none_choice_pod b) ≡ length b
length-none_choice_pod b l =
    let e0 = length-append (take 8 b) (word_bytes 0 ++ drop 12 b) in
    let e1 = length-append (word_bytes 0) (drop 12 b) in
    let e2 = length-word_bytes 0 in
    let e3 = length-take 8 b in
    let e4 = length-drop 12 b in
    omega arith

-- a property keeps its length
pub length-fixated_property : (p : List ℕ) → length p ≡ extent_behind 8 p → length (fixated_property p) ≡ length p
length-fixated_property p h =
    elim (leb_tells 16 (word_at (drop 8 p) 0)) [
      | inl q ↦
          let l = q.1 in
          let w = length-drop_extent p h in
          let d = length-drop 8 p in
          let t = length-take 8 p in
          let c = length-none_choice_pod (drop 8 p) (omega arith) in
          let e = length-append (take 8 p) (none_choice_pod (drop 8 p)) in
          either (is_fixable p) (take 8 p ++ none_choice_pod (drop 8 p)) p (omega arith)
      | inr q ↦
          let f = may_fixate (word_at p 4) in
          let t = nat_eq (word_at (drop 8 p) 4) choice_type in
          let e : is_fixable p ≡ false = ap (λ z. f && (t && z)) q.0 ∙ never f t in
          ap (λ z. length (if z then take 8 p ++ none_choice_pod (drop 8 p) else p)) e
    ]

-- and so does the first one of the bytes
pub length-first_fixated : (n : ℕ) (b : List ℕ) → n ≡ extent_behind 8 b → n ≤ length b →
    length (fixated_property (take n b)) ≡ n
length-first_fixated n b e l = length-fixated_property (take n b) (length-take_extent 8 n b e l) ∙ length-take-le n b l

pub length-fixated_properties : (b : List ℕ) → length (fixated_properties b) ≡ length b
length-fixated_properties = walk_induction (λ b. length (fixated_properties b) ≡ length b)
    (λ b l. ap length (fixated_properties-end b l))
    (λ b l ih.
    let n = extent_behind 8 b in
    let e = ap length (fixated_properties-there b l) in
    let a = length-append (fixated_property (take n b)) (fixated_properties (drop n b)) in
    let p = length-first_fixated n b refl l in
    let d = length-drop n b in
    omega arith)
