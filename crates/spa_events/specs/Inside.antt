-- The pods inside structs and objects, which are the containers: docs/FORMAT.md, "A pod".
use Rattle.std.specs.Prelude.{◌≡◌, ◌≤◌, ◌⊎◌, ℕ, List, length, drop, Bool, true, false}
use Rattle.spa_format.specs.Words.{header_size}
use Rattle.spa_format.specs.Tree.{object_type, struct_type}
use Rattle.spa_bytes.specs.Opening.{Opens}

-- pods of this type are containers
abbrev pub IsContainer : ℕ → Type 0
IsContainer type = (type ≡ struct_type) ⊎ (type ≡ object_type)

-- a struct, or an object that has its type and its id; the pods in an object are keyed
abbrev pub HoldsPods : (type size : ℕ) → (keyed : Bool) → Type 0
HoldsPods type size true = (type ≡ object_type) × (header_size ≤ size)
HoldsPods type size false = type ≡ struct_type

-- the pods in the body of a struct, or the properties in that of an object
abbrev pub IsInside : (type : ℕ) → (body : List ℕ) → (keyed : Bool) → (inside : List ℕ) → Type 0
IsInside type body true inside = (type ≡ object_type) × (header_size ≤ length body) × (inside ≡ drop header_size body)
IsInside type body false inside = (type ≡ struct_type) × (inside ≡ body)

-- how many bytes stand before a pod: a key and flags, or none
abbrev pub key_size : Bool → ℕ
key_size true = header_size
key_size false = 0

-- what is left of properties without the first key and flags; pods have none
abbrev pub IsBehindKey : Bool → List ℕ → List ℕ → Type 0
IsBehindKey true left here = (header_size ≤ length left) × (here ≡ drop header_size left)
IsBehindKey false left here = here ≡ left

-- the first pod is there, behind its key where it has one, and these are its type number, its body and the bytes that follow it
pub record OpensFirst (keyed : Bool) (left : List ℕ) (type : ℕ) (body rest : List ℕ) : Type 0 where
  pub key : key_size keyed ≤ length left
  pub opens : Opens (drop (key_size keyed) left) type body rest
