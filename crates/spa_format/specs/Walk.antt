-- Walks over the whole pods that stand one after another in any bytes: docs/FORMAT.md, "Walks over views".
use Rattle.std.specs.Prelude.{◌≡◌, ℕ, suc, zero, ◌+◌, ◌≤◌, List, [], ◌∷◌, length, take, drop, if◌then◌else◌, Option, None, Some, nat_eq, nat_le}
use Rattle.spa_format.specs.Words.{word_at, header_size, extent, body_of}
use Rattle.spa_format.specs.Tree.{object_type, Trees, no_trees, member, Properties, no_properties, property}
use Rattle.spa_format.specs.Pod.{IsPod}
use Rattle.spa_format.specs.Front.{HasFront}

-- how many bytes the pod at the offset k takes, together with the k bytes before it
abbrev pub extent_behind : ℕ → List ℕ → ℕ
extent_behind k b = k + extent (word_at b k)

-- whole pods one after another, each with k bytes before it, up to the first that isn't whole; at most as many as the first number
abbrev pub walk_at_most : ℕ → ℕ → List ℕ → List (List ℕ)
walk_at_most zero k b = []
walk_at_most (suc n) k b =
    if nat_le (extent_behind k b) (length b)
    then take (extent_behind k b) b ∷ walk_at_most n k (drop (extent_behind k b) b)
    else []

-- all whole pods one after another, each with k bytes before it: there are no more of them than bytes; the laws say it without the bound
unfoldable pub walk_behind : ℕ → List ℕ → List (List ℕ)
walk_behind k b = walk_at_most (length b) k b

-- the pods one after another in a struct's body, up to the first that isn't whole
abbrev pub walk : List ℕ → List (List ℕ)
walk = walk_behind 0

-- the properties one after another, with key and flags, behind an object's type and id, up to the first that isn't whole
abbrev pub property_walk : List ℕ → List (List ℕ)
property_walk = walk_behind header_size

-- a property is at the front of the bytes: key and flags, and then a whole pod
pub record HasProperty (b : List ℕ) : Type 0 where
  pub header : header_size ≤ length b
  pub value : HasFront (drop header_size b)

-- the property at the front of the bytes: key, flags, and the pod with its padding
abbrev pub property_of : List ℕ → List ℕ
property_of b = take (extent_behind header_size b) b

-- the bytes behind the property at the front
abbrev pub behind_property : List ℕ → List ℕ
behind_property b = drop (extent_behind header_size b) b

-- an object is at the front of the input, its type and id within its size
pub record HasObject (b : List ℕ) : Type 0 where
  pub front : HasFront b
  pub its_type : word_at b 4 ≡ object_type
  pub parts : header_size ≤ word_at b 0

-- the bytes of an object's properties, behind its type and its id
abbrev pub properties_of : List ℕ → List ℕ
properties_of b = drop header_size (body_of b)

-- the first property with this key
abbrev pub first_with_key : ℕ → List (List ℕ) → Option (List ℕ)
first_with_key key [] = None
first_with_key key (p ∷ ps) = if nat_eq (word_at p 0) key then Some p else first_with_key key ps

-- the byte strings are pods of these values, in order, and as many
abbrev pub ArePodsOf : Trees → List (List ℕ) → Type 0
ArePodsOf no_trees bs = bs ≡ []
ArePodsOf (member v vs) [] = ⊥
ArePodsOf (member v vs) (b ∷ bs) = IsPod b v × ArePodsOf vs bs

-- the byte strings are these properties, in order, and as many: key, flags and the pod of the value
abbrev pub ArePropertiesOf : Properties → List (List ℕ) → Type 0
ArePropertiesOf no_properties ps = ps ≡ []
ArePropertiesOf (property key flags v qs) [] = ⊥
ArePropertiesOf (property key flags v qs) (p ∷ ps) =
    (key ≡ word_at p 0) × (flags ≡ word_at p 4) × IsPod (drop header_size p) v × ArePropertiesOf qs ps
