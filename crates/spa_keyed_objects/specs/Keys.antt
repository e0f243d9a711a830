-- The keys of properties, and what the two sides offer under a key: docs/NEGOTIATION.md, "Keys".
use Rattle.std.specs.Prelude.{⊤, ◌≡◌, ℕ, List, [], ◌∷◌, ◌++◌, Bool, true, false, not, ◌==◌, if◌then◌else◌, Option, Some, None}
use Rattle.std.specs.List.{All, filter}
use Rattle.spa_format.specs.Tree.{Tree, Properties, no_properties, property}

-- the flags and the value of a property
pub record Offered : Type 0 where
  pub flags : ℕ
  pub value : Tree

abbrev pub offered : ℕ → Tree → Offered
offered flags value = record { flags = flags; value = value }

-- the flags and the value of the first property with this key; None where no property has it
abbrev pub offered_at : ℕ → Properties → Option Offered
offered_at key no_properties = None
offered_at key (property k flags value rest) =
    if k == key then Some (offered flags value) else offered_at key rest

-- the keys in order, also those that repeat
abbrev pub key_list : Properties → List ℕ
key_list no_properties = []
key_list (property key flags value rest) = key ∷ key_list rest

-- each of the numbers once, in the order in which they first occur: 1 ∷ 2 ∷ 3 ∷ [] of 1 ∷ 2 ∷ 1 ∷ 3 ∷ 2 ∷ []
abbrev pub distinct_of : List ℕ → List ℕ
distinct_of [] = []
distinct_of (k ∷ ks) = k ∷ filter (λ j. not (j == k)) (distinct_of ks)

-- each key once, in the order in which they first occur
abbrev pub keys_of : Properties → List ℕ
keys_of ps = distinct_of (key_list ps)

-- whether the number is among these
abbrev pub contains : ℕ → List ℕ → Bool
contains k [] = false
contains k (j ∷ js) = if j == k then true else contains k js

-- whether a property has this key
abbrev pub has_key : ℕ → Properties → Bool
has_key key ps = contains key (key_list ps)

-- the fact holds of what the two sides offer under this key
abbrev pub AtKey : (Option Offered → Option Offered → Type 0) → (ours theirs : Properties) → ℕ → Type 0
AtKey Fact ours theirs key = Fact (offered_at key ours) (offered_at key theirs)

-- of each property of met, the relation holds: between what the two sides offer under its key, and its flags and its value
abbrev pub HoldsOfEach : (Option Offered → Option Offered → ℕ → Tree → Type 0) → (ours theirs met : Properties) → Type 0
HoldsOfEach R ours theirs no_properties = ⊤
HoldsOfEach R ours theirs (property key flags value rest) =
    R (offered_at key ours) (offered_at key theirs) flags value × HoldsOfEach R ours theirs rest

-- met has each key of these properties once, in the order in which they first occur, and the relation holds of each of its
-- properties
pub record HoldsAtKeys (R : Option Offered → Option Offered → ℕ → Tree → Type 0)
    (ours theirs these met : Properties) : Type 0 where
  pub keys : key_list met ≡ keys_of these
  pub values : HoldsOfEach R ours theirs met

-- of these keys, this is the first under which the two sides don't agree, and the refusal stands there
pub record IsFirstRefused (Agree Stands : Option Offered → Option Offered → Type 0)
    (ours theirs : Properties) (keys : List ℕ) (key : ℕ) : Type 0 where
  pub before : List ℕ
  pub after : List ℕ
  pub order : keys ≡ before ++ key ∷ after
  pub agreed : All (AtKey Agree ours theirs) before
  pub stands : AtKey Stands ours theirs key
