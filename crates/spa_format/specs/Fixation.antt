-- Fixation, which makes each choice among an object's properties its default: docs/FORMAT.md, "Fixation".
use Rattle.std.specs.Prelude.{◌≡◌, ℕ, ◌+◌, ◌⊎◌, List, [], ◌∷◌, ◌++◌, length, take, drop, if◌then◌else◌, Bool, true, false, not, IsTrue, nat_eq, nat_le, ◌&&◌, ◌||◌, bit_and}
use Rattle.spa_format.specs.Words.{word_at, word_bytes, header_size}
use Rattle.spa_format.specs.Tree.{shape_number, none_choice, choice_type, Tree, fixed, string, bytes, bitmap, array, choice, pointer, struct, object, Properties, no_properties, property}
use Rattle.spa_format.specs.Faults.{choice_header_size}
use Rattle.spa_format.specs.Walk.{property_walk, properties_of}

-- the flag of a property whose value stays as it is
abbrev pub dont_fixate : ℕ
dont_fixate = 16

-- these flags of a property have no DONT_FIXATE: fixation may change its value
abbrev pub may_fixate : ℕ → Bool
may_fixate flags = nat_eq (bit_and flags dont_fixate) 0

-- a pod of the type of choices whose size says that its shape, flags, child size and child type are there
abbrev pub is_choice_pod : List ℕ → Bool
is_choice_pod b = nat_eq (word_at b 4) choice_type && nat_le choice_header_size (word_at b 0)

-- the offsets in a choice's pod at which its shape word begins and ends
abbrev pub shape_place : ℕ
shape_place = header_size

abbrev pub shape_end : ℕ
shape_end = shape_place + 4

-- a choice's pod with its shape word set to that of a None choice, and no other byte changed
abbrev pub none_choice_pod : List ℕ → List ℕ
none_choice_pod b = take shape_place b ++ (word_bytes (shape_number none_choice) ++ drop shape_end b)

-- a property whose shape word fixation sets: its flags lack DONT_FIXATE and its value is a choice's pod
abbrev pub is_fixable : List ℕ → Bool
is_fixable p = may_fixate (word_at p 4) && is_choice_pod (drop header_size p)

-- the bytes of a property after fixation
abbrev pub fixated_property : List ℕ → List ℕ
fixated_property p = if is_fixable p then take header_size p ++ none_choice_pod (drop header_size p) else p

-- the bytes of these properties after fixation, one after another
abbrev pub fixated_walk : List (List ℕ) → List ℕ
fixated_walk [] = []
fixated_walk (p ∷ ps) = fixated_property p ++ fixated_walk ps

-- how many bytes properties take
abbrev pub walk_size : List (List ℕ) → ℕ
walk_size [] = 0
walk_size (p ∷ ps) = length p + walk_size ps

-- the properties' bytes of an object after fixation: those that the walk finds fixated, and the bytes behind the last of them as they were
unfoldable pub fixated_properties : List ℕ → List ℕ
fixated_properties b = fixated_walk (property_walk b) ++ drop (walk_size (property_walk b)) b

-- an input after fixation of the object at its front: the properties fixated, and every other byte as it was
abbrev pub fixated_bytes : List ℕ → List ℕ
fixated_bytes b =
    take (header_size + header_size) b ++ (fixated_properties (properties_of b) ++ drop (header_size + word_at b 0) b)

-- `i` is the offset of a shape word that fixation sets, where the first of these properties is at the offset `at`
abbrev pub IsShapePlace : ℕ → List (List ℕ) → ℕ → Type 0
IsShapePlace at [] i = ⊥
IsShapePlace at (p ∷ ps) i =
    (IsTrue (is_fixable p) × (i ≡ at + (header_size + shape_place))) ⊎ IsShapePlace (at + length p) ps i

-- `i` is the offset, in the input, of a shape word that fixation sets in the object at the front
abbrev pub IsFixatedPlace : List ℕ → ℕ → Type 0
IsFixatedPlace b i = IsShapePlace (header_size + header_size) (property_walk (properties_of b)) i

-- a value after fixation: a choice becomes the None choice of its default, without flags
abbrev pub default_of : Tree → Tree
default_of (choice s f k x xs) = choice none_choice 0 k x []
default_of (fixed x) = fixed x
default_of (string s) = string s
default_of (bytes s) = bytes s
default_of (bitmap s) = bitmap s
default_of (array k xs) = array k xs
default_of (pointer t a) = pointer t a
default_of (struct vs) = struct vs
default_of (object t i ps) = object t i ps

-- properties after fixation: the value of each at its default, but where the flags have DONT_FIXATE as it was
abbrev pub default_properties : Properties → Properties
default_properties no_properties = no_properties
default_properties (property key flags v ps) =
    property key flags (if may_fixate flags then default_of v else v) (default_properties ps)

-- a pod that needs no fixation: it is no choice's pod, or its shape word is that of a None choice
abbrev pub is_settled_pod : List ℕ → Bool
is_settled_pod b = not (is_choice_pod b) || nat_eq (word_at b shape_place) (shape_number none_choice)

-- the value of each of these properties, as bytes, needs no fixation
abbrev pub all_settled : List (List ℕ) → Bool
all_settled [] = true
all_settled (p ∷ ps) = if is_settled_pod (drop header_size p) then all_settled ps else false

-- a value that needs no fixation: it is no choice, or a None choice
abbrev pub is_settled : Tree → Bool
is_settled (choice s f k x xs) = nat_eq (shape_number s) (shape_number none_choice)
is_settled (fixed x) = true
is_settled (string s) = true
is_settled (bytes s) = true
is_settled (bitmap s) = true
is_settled (array k xs) = true
is_settled (pointer t a) = true
is_settled (struct vs) = true
is_settled (object t i ps) = true

-- the value of each of these properties needs no fixation
abbrev pub are_settled : Properties → Bool
are_settled no_properties = true
are_settled (property key flags v ps) = if is_settled v then are_settled ps else false
