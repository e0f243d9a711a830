-- The sorted index of keys, in which a key is found by binary search, and properties that were passed.
use Rattle.std.specs.Prelude.{⊤, ◌≡◌, ℕ, ◌+◌, ◌-◌, ◌*◌, ◌<◌, ◌≤◌, List, [], ◌∷◌, length, drop, get_or, Contains, Bool, true, not, ◌==◌, if◌then◌else◌, Option, Some, None, Vec}
use Rattle.std.specs.Global.{Global}
use Rattle.std.specs.List.Sorted.{IsNonDecreasingBy, IsPermutation}
use Rattle.spa_format.specs.Words.{header_size, size_limit}
use Rattle.spa_format.specs.Tree.{Properties, no_properties, property, join_properties}
use Rattle.spa_format.specs.Front.{rest_of}
use Rattle.spa_format.specs.Typed.{IsBytes}
use Rattle.spa_object_view.specs.Written.{AreWritten, HasFirst}
use Rattle.spa_object_view.specs.declared.keyed.Keyed.{Keyed}
use Rattle.spa_object_view.specs.declared.object_view.PropertyView.{PropertyView}
use Rattle.spa_keyed_objects.specs.Keys.{has_key}

-- a key and the offset of its property as one number
abbrev pub place_word : ℕ → ℕ → ℕ
place_word key place = key * size_limit + place

-- key and offset of each of these properties as one number, where the properties are the last bytes `b` of `n` bytes
abbrev pub place_words : ℕ → Properties → List ℕ → List ℕ
place_words n no_properties b = []
place_words n (property key flags value rest) b =
    place_word key (n - length b) ∷ place_words n rest (rest_of (drop header_size b))

-- these numbers are those of the properties, in some order
pub record IsOrder (ps : Properties) (b order : List ℕ) : Type 0 where
  pub short : length b < size_limit
  pub same : IsPermutation (place_words (length b) ps b) order

-- the index, where there is one, has the numbers of these properties
abbrev pub MayBeOrder : Properties → List ℕ → Option (Vec ℕ Global) → Type 0
MayBeOrder ps b None = ⊤
MayBeOrder ps b (Some order) = IsOrder ps b order.items

-- the index, where there is one, is ascending
abbrev pub MayAscend : Option (Vec ℕ Global) → Type 0
MayAscend None = ⊤
MayAscend (Some order) = IsNonDecreasingBy (λ x. x) order.items

-- the index, where there is one, has the numbers of the properties and is ascending
pub record IsKeyed (keyed : Keyed) : Type 0 where
  pub bytes : IsBytes keyed.properties.now
  pub ascending : MayAscend keyed.order
  pub order : (ps : Properties) → AreWritten ps keyed.properties.now → MayBeOrder ps keyed.properties.now keyed.order

-- none of these numbers has the key
abbrev pub HasNoWord : ℕ → List ℕ → Type 0
HasNoWord key words = (w : ℕ) → Contains words w → key * size_limit ≤ w → (key + 1) * size_limit ≤ w

-- of these numbers that of the key and this offset is the least that has the key
pub record IsLeastWord (key : ℕ) (words : List ℕ) (place : ℕ) : Type 0 where
  pub short : place < size_limit
  pub among : Contains words (place_word key place)
  pub least : (w : ℕ) → Contains words w → key * size_limit ≤ w → place_word key place ≤ w

-- the number at the index `at` is the least of these numbers that isn't below the bound
pub record IsFirstFrom (words : List ℕ) (bound at : ℕ) : Type 0 where
  pub above : at < length words → bound ≤ get_or words at 0
  pub first : (w : ℕ) → Contains words w → bound ≤ w → (at < length words) × (get_or words at 0 ≤ w)

-- how many bytes are behind the first property with this key
abbrev pub length_behind : ℕ → Properties → List ℕ → ℕ
length_behind key no_properties b = 0
length_behind key (property k flags value rest) b =
    if k == key then length (rest_of (drop header_size b)) else length_behind key rest (rest_of (drop header_size b))

-- the bytes behind these properties, with which the bytes begin
abbrev pub bytes_behind : Properties → List ℕ → List ℕ
bytes_behind no_properties b = b
bytes_behind (property key flags value rest) b = bytes_behind rest (rest_of (drop header_size b))

-- `done` are the first of the properties `ps`, whose bytes are `b`, and `left` is left behind them
pub record ArePassed (ps done : Properties) (b left : List ℕ) : Type 0 where
  pub rest : Properties
  pub all : ps ≡ join_properties done rest
  pub left_is : left ≡ bytes_behind done b

-- each key of these properties is below the bound
abbrev pub AreBelow : ℕ → Properties → Type 0
AreBelow bound ps = (key : ℕ) → has_key key ps ≡ true → key < bound

-- the answer is whether no property before this one has its key
abbrev pub SaysFirst : Bool → List ℕ → PropertyView → Type 0
SaysFirst is_first b first =
    (ps done : Properties) (left : List ℕ) → AreWritten ps b → ArePassed ps done b left
    → HasFirst left first.key first.flags first.pod.now first.rest.now → has_key first.key done ≡ not is_first

-- the answer is whether no property before this one has its key, where all keys before it are below the bound
abbrev pub SaysNew : Bool → List ℕ → PropertyView → ℕ → Type 0
SaysNew is_new b first bound =
    (ps done : Properties) (left : List ℕ) → AreWritten ps b → ArePassed ps done b left → AreBelow bound done
    → HasFirst left first.key first.flags first.pod.now first.rest.now → has_key first.key done ≡ not is_new

-- the answer is whether no property of `others` and none before this one has its key, where all keys before it are below the bound
abbrev pub SaysNewBeside : Bool → (others b : List ℕ) → PropertyView → ℕ → Type 0
SaysNewBeside is_new others b first bound =
    (ps qs done : Properties) (left : List ℕ) → AreWritten ps others → AreWritten qs b → ArePassed qs done b left
    → AreBelow bound done → HasFirst left first.key first.flags first.pod.now first.rest.now
    → has_key first.key (join_properties ps done) ≡ not is_new
