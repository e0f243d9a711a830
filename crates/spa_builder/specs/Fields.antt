-- How the bytes and the frames of a builder represent a state.
use Rattle.std.specs.Prelude.{◌≡◌, ℕ, ◌+◌, List, [], ◌∷◌, ◌++◌, length, min, IsTrue, Option, Some, None}
use Rattle.spa_format.specs.Words.{word_bytes}
use Rattle.spa_format.specs.Kind.{none_kind, type_number, Fixed, kind_of}
use Rattle.spa_format.specs.Tree.{shape_number, struct_type, object_type, array_type, choice_type}
use Rattle.spa_format.specs.Encoding.{array_body, fixed_bodies, member_encodings, property_encodings}
use Rattle.spa_builder.specs.State.{Partial, open_struct, open_object, open_property, open_array, open_choice, State}
use Rattle.spa_builder.specs.Step.{child_kind, takes_trees, all_fit}
use Rattle.spa_builder.specs.declared.begun.BegunPod.{BegunPod}
use Rattle.spa_builder.specs.declared.begun.What.{What}
use Rattle.spa_builder.specs.declared.begun.Elements.{Elements}
use Rattle.spa_builder.specs.declared.begun.Stage.TheVariants.{Struct, Property, Object, Array, Choice}

-- the fields of a builder: its bytes and its frames
pub record BuilderFields : Type 0 where
  pub bytes : List ℕ
  pub frames : List BegunPod

-- the fields of a builder of these bytes and frames
abbrev pub fields_of : List ℕ → List BegunPod → BuilderFields
fields_of bytes frames = record { bytes = bytes; frames = frames }

-- the type number of the first element
abbrev pub first_type : List Fixed → Option ℕ
first_type [] = None
first_type (x ∷ xs) = Some (type_number (kind_of x))

-- the elements of a frame without elements
abbrev pub no_elements : Elements
no_elements = record { shape = 0; first = None; count = 0 }

-- stage and elements of the frame of a partial tree; values of a choice are counted up to four
abbrev pub what_of : Partial → What
what_of (open_struct vs) = record { stage = Struct; elements = no_elements }
what_of (open_object t i ps) = record { stage = Object; elements = no_elements }
what_of (open_property t i ps k f) = record { stage = Property; elements = no_elements }
what_of (open_array xs) = record { stage = Array; elements = record { shape = 0; first = first_type xs; count = 0 } }
what_of (open_choice h f xs) = record { stage = Choice; elements = record { shape = shape_number h; first = first_type xs; count = min 4 (length xs) } }

-- the type number of an open tree
abbrev pub type_of_partial : Partial → ℕ
type_of_partial (open_struct vs) = struct_type
type_of_partial (open_object t i ps) = object_type
type_of_partial (open_property t i ps k f) = object_type
type_of_partial (open_array xs) = array_type
type_of_partial (open_choice h f xs) = choice_type

-- the bytes of the body of an open tree so far
abbrev pub body_so_far : Partial → List ℕ
body_so_far (open_struct vs) = member_encodings vs
body_so_far (open_object t i ps) = word_bytes t ++ (word_bytes i ++ property_encodings ps)
body_so_far (open_property t i ps k f) = word_bytes t ++ (word_bytes i ++ (property_encodings ps ++ (word_bytes k ++ word_bytes f)))
body_so_far (open_array xs) = array_body (child_kind xs) xs
body_so_far (open_choice h f xs) = word_bytes (shape_number h) ++ (word_bytes f ++ array_body (child_kind xs) xs)

-- the bytes of an open tree so far: its header, whose size word is 0 until it is closed, and its body
abbrev pub so_far : Partial → List ℕ
so_far p = word_bytes 0 ++ (word_bytes (type_of_partial p) ++ body_so_far p)

-- the bytes of these open trees so far, the outermost first
abbrev pub all_so_far : List Partial → List ℕ
all_so_far [] = []
all_so_far (p ∷ ps) = all_so_far ps ++ so_far p

-- the frames of open trees behind `base` bytes, the outermost first
abbrev pub frames_of : ℕ → List Partial → List BegunPod
frames_of base [] = []
frames_of base (p ∷ ps) = frames_of base ps ++ (record { start = base + length (all_so_far ps); what = what_of p }) ∷ []

-- an open array of None has no bytes of elements
abbrev pub IsFair : Partial → Type 0
IsFair (open_array xs) = child_kind xs ≡ none_kind → fixed_bodies xs ≡ []
IsFair p = Unit {0}

-- each tree with an open tree inside it takes trees of any type
abbrev pub IsNested : List Partial → Type 0
IsNested [] = Unit {0}
IsNested (p ∷ ps) = IsFair p × IsTrue (takes_trees ps) × IsNested ps

-- The builder is at this state: its bytes are the encodings of the closed values and the bytes of each open tree so far, and the frames are those
-- of the open trees.
pub record IsAt (builder : BuilderFields) (s : State) : Type 0 where
  pub bytes : builder.bytes ≡ member_encodings s.closed ++ all_so_far s.opened
  pub frames : builder.frames ≡ frames_of (length (member_encodings s.closed)) s.opened
  pub nested : IsNested s.opened
  pub fit : IsTrue (all_fit 0 s.opened)

-- the builder is at one of the states
abbrev pub HasState : BuilderFields → Type 0
HasState builder = (s : State) × IsAt builder s
