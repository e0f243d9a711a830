-- The first of the pods inside a container.
use Rattle.std.proofs.Common.{◌≡◌, ℕ, ◌+◌, ◌<◌, ◌≤◌, inl, inr, List, ◌∷◌, length, take, drop, sym, ap, subst, ◌∙◌, arith, length-drop}
use Rattle.std.specs.Prelude.{Bool, true, false, IfNone, None, Option, Some}
use Rattle.std.proofs.lemmas.Bool.{cases_lt}
use Rattle.std.proofs.lemmas.List.{drop-drop, drop-take}
use Rattle.spa_events.specs.Inside.{IsBehindKey, key_size}
use Rattle.spa_format.specs.Front.{HasFront, front_of, rest_of}
use Rattle.spa_format.specs.Walk.{extent_behind, walk_behind}
use Rattle.spa_format.specs.Words.{extent, word_at}
use Rattle.spa_format.proofs.WalkLemmas.{walk_behind-there}
use Rattle.spa_format.proofs.WordLemmas.{word_at-drop}

-- the size word behind k bytes
pub behind_word : (k : ℕ) (b : List ℕ) → word_at (drop k b) 0 ≡ word_at b k
behind_word k b = let e : k + 0 ≡ k = omega arith in word_at-drop k 0 b ∙ ap (word_at b) e

-- the pod in the first bytes of a walk
pub pod_behind : (k : ℕ) (b : List ℕ) → drop k (take (extent_behind k b) b) ≡ front_of (drop k b)
pod_behind k b = drop-take k (extent (word_at b k)) b ∙ ap (λ n. take (extent n) (drop k b)) (sym (behind_word k b))

-- what is behind a key, in one fact for both kinds of pods
pub behind_is : (keyed : Bool) (left here : List ℕ) → IsBehindKey keyed left here → (key_size keyed ≤ length left) × (here ≡ drop (key_size keyed) left)
behind_is true left here k = k
behind_is false left here k = (omega arith, k)

pub no_first : (keyed : Bool) (left here : List ℕ) → IsBehindKey keyed left here → ¬ (HasFront here) → length left < extent_behind (key_size keyed) left
no_first keyed left here b n =
    let k = key_size keyed in
    let is = behind_is keyed left here b in
    let s = ap extent (behind_word k left) in
    let d = length-drop k left in
    elim (cases_lt (length left) (extent_behind k left)) [
      | inl l ↦ l
      | inr l ↦ absurd (let i = is.0 in n (subst HasFront (sym is.1) (record { header = omega arith; whole = omega arith })))
    ]

-- the walk goes on behind the first
pub walk_first : (k : ℕ) (left : List ℕ) → k ≤ length left → HasFront (drop k left) →
    walk_behind k left ≡ take (extent_behind k left) left ∷ walk_behind k (rest_of (drop k left))
walk_first k left l h =
    let s = ap extent (behind_word k left) in
    let d = length-drop k left in
    let w = h.whole in
    let behind : rest_of (drop k left) ≡ drop (extent_behind k left) left =
    drop-drop (extent (word_at (drop k left) 0)) k left ∙ ap (λ n. drop (k + n) left) s in
    walk_behind-there k left (omega arith) ∙ ap (λ r. take (extent_behind k left) left ∷ walk_behind k r) (sym behind)

pub none_opened : {T : Type 0} {P Q : Type 0} → (r : Option T) → (P → Q) → IfNone r P → IfNone r Q
none_opened (Some x) f n = n
none_opened None f n = f n
