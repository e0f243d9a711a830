-- A pod of which not all is there, ended where its bytes end: docs/TEXT.md, "A last pod that is cut".
use Rattle.std.specs.Prelude.{◌≡◌, ◌≤◌, ◌<◌, ◌-◌, if◌then◌else◌, nat_eq, min, ℕ, List, [], ◌++◌, drop, length}
use Rattle.spa_format.specs.Fixation.{walk_size}
use Rattle.spa_format.specs.Tree.{object_type, struct_type}
use Rattle.spa_format.specs.Walk.{walk_behind}
use Rattle.spa_format.specs.Words.{header_size, padded_size, padding, word_at, word_bytes}

-- what stands behind the whole pods at the front, each with k bytes before it
abbrev pub behind_whole : (k : ℕ) → List ℕ → List ℕ
behind_whole k b = drop (walk_size (walk_behind k b)) b

-- What stands in a struct behind its whole members, and in an object behind its whole properties and the key and flags of another one: of a pod of which not
-- all is there, the bytes of the pod inside in which they end.
abbrev pub cut_inside : List ℕ → List ℕ
cut_inside b =
    if nat_eq (word_at b 4) struct_type then behind_whole 0 (drop header_size b)
    else (if nat_eq (word_at b 4) object_type then drop header_size (behind_whole header_size (drop header_size (drop header_size b))) else [])

-- the bytes of a pod, or its first ones, with a size word that says no more than is behind the header of a pod of n bytes
abbrev pub sized : (n : ℕ) → List ℕ → List ℕ
sized n b = word_bytes (min (word_at b 0) (n - header_size)) ++ drop 4 b

-- The pod at the front, of which not all is there, ended where its bytes end: itself, where no pod inside is cut behind its header; else that one is ended.
pub data IsEnded : (b pod : List ℕ) → Type 0 where
  innermost : (b : List ℕ) → length (cut_inside b) < header_size → IsEnded b (sized (length b) b ++ padding (length b))
  outer : (b first inner ended : List ℕ) → b ≡ first ++ inner → inner ≡ cut_inside b → header_size ≤ length inner → IsEnded inner ended →
      IsEnded b (sized (padded_size (length b)) first ++ ended)
