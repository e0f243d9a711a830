-- The front of an input, and what is left of the first whole pod in it.
use Rattle.std.proofs.Common.{◌≡◌, ℕ, ◌+◌, ◌<◌, ◌≤◌, List, [], ◌++◌, length, take, drop, sym, ap, ◌∙◌, subst, arith, length-append, length-drop}
use Rattle.std.proofs.lemmas.List.{append-nil, take_all, take_at, drop_at, take-append-drop, length-take-le, take-take, drop-take}
use Rattle.spa_format.specs.Words.{word_at, extent, padded_size, body_of}
use Rattle.spa_format.specs.Pod.{IsBody, IsPod, IsWhole}
use Rattle.spa_format.specs.Front.{Begins, HasFront, front_of, rest_of}
use Rattle.spa_format.specs.Tree.{Tree, type_of}
use Rattle.spa_format.proofs.WordLemmas.{word_at-append, word_at-take}

-- whole bytes at the beginning are the front
pub front_of_whole : (b first others : List ℕ) (t : ℕ) (P : List ℕ → Type 0) → b ≡ first ++ others → IsWhole first t P → HasFront b × (first ≡ front_of b) × (others ≡ rest_of b)
front_of_whole b first others t P e h =
    let body_size : word_at b 0 ≡ word_at first 0 = ap (λ l. word_at l 0) e ∙ word_at-append first others 0 (let x = h.whole in omega arith) in
    let len : length b ≡ length first + length others = ap length e ∙ length-append first others in
    let whole : length first ≡ extent (word_at b 0) = h.whole ∙ ap extent (sym body_size) in (
      record { header = omega arith; whole = omega arith },
      sym (ap (take (extent (word_at b 0))) e ∙ take_at first others (extent (word_at b 0)) whole),
      sym (ap (drop (extent (word_at b 0))) e ∙ drop_at first others (extent (word_at b 0)) whole),
    )

pub size_of_front : (b : List ℕ) → word_at (front_of b) 0 ≡ word_at b 0
size_of_front b = word_at-take (extent (word_at b 0)) 0 b (omega arith)

pub type_of_front : (b : List ℕ) → word_at (front_of b) 4 ≡ word_at b 4
type_of_front b = word_at-take (extent (word_at b 0)) 4 b (omega arith)

pub body_of_front : (b : List ℕ) → body_of (front_of b) ≡ body_of b
body_of_front b =
    let n = word_at b 0 in
    let le : n ≤ padded_size n = omega arith in
    ap (λ s. take s (drop 8 (front_of b))) (size_of_front b)
    ∙ ap (take n) (drop-take 8 (padded_size n) b)
    ∙ take-take n (padded_size n) (drop 8 b) le

-- the front is whole, where the fact holds of the input's own type number and body
pub whole_front : (b : List ℕ) (t : ℕ) (P : List ℕ → Type 0) → HasFront b → word_at b 4 ≡ t → P (body_of b) → IsWhole (front_of b) t P
whole_front b t P h e p = record {
  whole = length-take-le (extent (word_at b 0)) b h.whole ∙ ap extent (sym (size_of_front b));
  its_type = type_of_front b ∙ e;
  content = subst P (sym (body_of_front b)) p;
}

pub of_whole_front : (b : List ℕ) (t : ℕ) (P : List ℕ → Type 0) → IsWhole (front_of b) t P → (word_at b 4 ≡ t) × P (body_of b)
of_whole_front b t P h = (sym (type_of_front b) ∙ h.its_type, subst P (body_of_front b) h.content)

pub front_and_rest : (b : List ℕ) → b ≡ front_of b ++ rest_of b
front_and_rest b = sym (take-append-drop (extent (word_at b 0)) b)

pub length-body_of : (b : List ℕ) → HasFront b → length (body_of b) ≡ word_at b 0
length-body_of b h = let n = word_at b 0 in let le : n ≤ padded_size n = omega arith in let x = h.whole in length-take-le n (drop 8 b) (let d = length-drop 8 b in omega arith)

-- a whole pod is its own front
pub own_front : (b : List ℕ) → length b ≡ extent (word_at b 0) → front_of b ≡ b
own_front b l = take_all (extent (word_at b 0)) b (omega (arith, l))

-- and begins with itself
pub pod_begins : (b : List ℕ) (v : Tree) → IsPod b v → Begins b v
pod_begins b v h =
    let its = front_of_whole b b [] (type_of v) (IsBody v) (sym (append-nil b)) h in
    record { there = its.0; pod = subst (λ z. IsPod z v) its.1 h }

pub rest_is_shorter : (b rest : List ℕ) → HasFront b → rest ≡ rest_of b → length rest < length b
rest_is_shorter b rest f r = omega (arith, ap length r, length-drop (extent (word_at b 0)) b, f.header)
