-- Pods that become their encodings, or are replaced by these where they are: docs/FORMAT.md, "The encoding of a value".
use Rattle.std.specs.Prelude.{◌≡◌, ◌≢◌, ◌%◌, ◌+◌, ◌-◌, ◌<◌, ◌≤◌, ℕ, List, Bool, length, replicate, take, true, false, ◌*◌, ◌/◌, ◌++◌, [], drop, Decides}
use Rattle.spa_format.specs.Words.{extent, header_size, size_limit, word_at, word_bytes}
use Rattle.spa_format.specs.Tree.{Tree, Trees, Properties, object_type, struct_type}
use Rattle.spa_format.specs.Kind.{Fixed, Kind, bool_kind, type_number}
use Rattle.spa_format.specs.Pod.{AreElements, AreMembers, AreProperties, IsPod}
use Rattle.spa_format.specs.Encoding.{encoding_of, fixed_bodies, member_encodings, property_encodings}
use Rattle.spa_events.specs.Inside.{HoldsPods, key_size}
use Rattle.spa_canonical.specs.Canonical.{IsFixedLen}
use Rattle.spa_format.specs.Front.{HasFront, front_of}
use Rattle.spa_canonical.specs.declared.emitting.After.TheVariants as after
use Rattle.spa_canonical.specs.declared.emitting.After.{After}
use Rattle.spa_canonical.specs.declared.emitting.OpenList.{OpenList}

-- the pod at the front has a body of one word, and isn't a Bool
pub record BeginsWord (input : List ℕ) : Type 0 where
  pub long : header_size + 8 ≤ length input
  pub its_size : word_at input 0 ≡ 4
  pub its_type : IsFixedLen (word_at input 4) 4
  pub other : word_at input 4 ≢ type_number bool_kind

-- all bytes of a pod of this type and size
pub record IsPodOf (pod : List ℕ) (type size : ℕ) : Type 0 where
  pub long : length pod ≡ extent size
  pub fits : size < size_limit
  pub its_size : word_at pod 0 ≡ size
  pub its_type : word_at pod 4 ≡ type

-- The first n bytes became `elements`: where they are whole bodies of the kind with this type number, their values as they are written; bytes of another
-- type than Bool stay. What follows them became zeros.
pub record TurnsWritten (number n : ℕ) (old new : List ℕ) : Type 0 where
  pub elements : List ℕ
  pub long : length elements ≡ n
  pub bodies : (k : Kind) (xs : List Fixed) → number ≡ type_number k → AreElements k xs (take n old) → elements ≡ fixed_bodies xs
  pub others : number ≢ type_number bool_kind → elements ≡ take n old
  pub is : new ≡ elements ++ replicate (length old - n) 0

-- this is the rewriting of a pod
abbrev pub IsPlaced : List ℕ → List ℕ → Type 0
IsPlaced pod new = (v : Tree) → IsPod pod v → new ≡ encoding_of v

-- these are the rewritings of pods one after another; of properties, or members
abbrev pub ArePlaced : Bool → List ℕ → List ℕ → Type 0
ArePlaced true pods new = (ps : Properties) → AreProperties ps pods → new ≡ property_encodings ps
ArePlaced false pods new = (vs : Trees) → AreMembers vs pods → new ≡ member_encodings vs

-- a struct or an object whose pods can end where it does
pub record HoldsWhole (type size : ℕ) (keyed : Bool) : Type 0 where
  pub holds : HoldsPods type size keyed
  pub whole : size % 8 ≡ 0

-- the number of the type of an object, or of a struct
abbrev pub type_inside : Bool → ℕ
type_inside true = object_type
type_inside false = struct_type

-- encodings are at the front, so long
pub record Encodes (Placed : List ℕ → List ℕ → Type 0) (old new : List ℕ) (len : ℕ) : Type 0 where
  pub placed : Placed old (take len new)
  pub within : len ≤ length old

-- The encodings of the first of them, which ended there, are at the front, so many bytes, and the others stay: with the encodings of these behind them they
-- are those of all.
pub record EncodesFirst (keyed : Bool) (old new : List ℕ) (kept ended : ℕ) : Type 0 where
  pub ends : (others : List ℕ) → ArePlaced keyed (drop ended old) others → ArePlaced keyed old (take kept new ++ others)
  pub behind : drop ended new ≡ drop ended old
  pub long : length new ≡ length old
  pub order : kept ≤ ended
  pub within : ended ≤ length old
  pub whole : ended % 8 ≡ 0

-- the first of them is a container, whose body has this size
pub record OpensWhole (keyed : Bool) (left : List ℕ) (inner : Bool) (size : ℕ) : Type 0 where
  pub there : HasFront (drop (key_size keyed) left)
  pub its : IsPodOf (front_of (drop (key_size keyed) left)) (type_inside inner) size
  pub key : key_size inner ≤ size
  pub whole : size % 8 ≡ 0

-- what follows those that were replaced, so many bytes
abbrev pub IsAfter : Bool → List ℕ → ℕ → After → Type 0
IsAfter keyed left ended after.More = 0 < ended
IsAfter keyed left ended (after.Inner inner size) = OpensWhole keyed left inner size
IsAfter keyed left ended after.End = ArePlaced keyed left []

-- the list around a container
pub record IsAround (list : OpenList) (bytes : List ℕ) (around : OpenList) : Type 0 where
  pub depth : around.depth + 1 ≡ list.depth
  pub none : list.depth ≡ 1 → (around.keyed ≡ false) × (around.end ≡ length bytes) × (around.body ≡ 0)
  pub some : 1 < list.depth → Decides around.keyed (word_at bytes (list.body - 4) % 8 ≡ 1)
      × (around.end ≡ list.end + word_at bytes (list.body - 4) / 8 * 8) × (around.body + word_at bytes (list.body - header_size) ≡ list.body)

-- The encoding of a container is begun: its key, a link, and an object's type and id are behind what is written. The link says how far before the body that
-- of the container around it begins, and how many bytes of the list around it are left, with 1 more where that is keyed.
pub record Begins (list : OpenList) (inner : Bool) (size from to : ℕ) (old new : List ℕ) (inside : OpenList) : Type 0 where
  pub keyed : inside.keyed ≡ inner
  pub depth : inside.depth ≡ list.depth + 1
  pub end : inside.end ≡ from + (key_size list.keyed + header_size) + size
  pub body : inside.body ≡ to + (key_size list.keyed + header_size)
  pub link : ℕ × ℕ
  pub small : (link.0 < size_limit) × (link.1 < size_limit)
  pub its_link : 0 < list.depth → (link.0 ≡ inside.body - list.body) × (link.1 ≡ list.end - inside.end + key_size list.keyed / 8)
  pub is : new ≡ take to old ++ ((take (key_size list.keyed) (drop from old) ++ ((word_bytes link.0 ++ word_bytes link.1)
      ++ take (key_size inner) (drop (from + (key_size list.keyed + header_size)) old))) ++ drop (to + (key_size list.keyed + header_size + key_size inner)) old)
