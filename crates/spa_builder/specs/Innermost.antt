-- What the innermost open tree takes, and the open trees after that.
use Rattle.std.specs.Prelude.{ℕ, ◌+◌, ◌-◌, nat_lt, List, [], ◌∷◌, ◌++◌, length, Bool, true, false, Option, Some, None}
use Rattle.spa_format.specs.Words.{header_size, size_limit}
use Rattle.spa_format.specs.Kind.{Fixed}
use Rattle.spa_format.specs.Tree.{Tree, Trees}
use Rattle.spa_builder.specs.State.{Partial, open_struct, open_object, open_property, open_array, open_choice, with_tree, with_property}
use Rattle.spa_builder.specs.Step.{array_takes, choice_takes}
use Rattle.spa_builder.specs.Fields.{all_so_far, what_of}
use Rattle.spa_builder.specs.declared.begun.BegunPod.{BegunPod}

-- the innermost open tree's frame
abbrev pub innermost_of : ℕ → List Partial → Option BegunPod
innermost_of base [] = None
innermost_of base (p ∷ ps) = Some (record { start = base + length (all_so_far ps); what = what_of p })

-- the open trees after the innermost, which takes trees of any type, took this one
abbrev pub trees_with_value : List Partial → Tree → List Partial
trees_with_value [] v = []
trees_with_value (open_struct vs ∷ ps) v = open_struct (with_tree vs v) ∷ ps
trees_with_value (open_object t i qs ∷ ps) v = open_object t i qs ∷ ps
trees_with_value (open_property t i qs k f ∷ ps) v = open_object t i (with_property qs k f v) ∷ ps
trees_with_value (open_array xs ∷ ps) v = open_array xs ∷ ps
trees_with_value (open_choice h f xs ∷ ps) v = open_choice h f xs ∷ ps

-- the closed values after this value was added, which is closed where no tree is open
abbrev pub closed_with : Trees → List Partial → Tree → Trees
closed_with closed [] v = with_tree closed v
closed_with closed (p ∷ ps) v = closed

-- a key waits for its value
abbrev pub waits : List Partial → Bool
waits (open_property t i qs k f ∷ ps) = true
waits _ = false

-- the innermost open tree is an object in which no key waits
abbrev pub takes_key : List Partial → Bool
takes_key (open_object t i qs ∷ ps) = true
takes_key _ = false

-- the open tree takes elements of fixed size: it is an array or a choice
abbrev pub has_elements : Partial → Bool
has_elements (open_array xs) = true
has_elements (open_choice h f xs) = true
has_elements _ = false

-- the innermost open tree is an array or a choice
abbrev pub takes_elements : List Partial → Bool
takes_elements [] = false
takes_elements (p ∷ ps) = has_elements p

-- the open tree is an array or a choice without elements yet
abbrev pub is_first : Partial → Bool
is_first (open_array []) = true
is_first (open_choice h f []) = true
is_first _ = false

-- the open tree is an array or a choice, and takes this element
abbrev pub takes_element : Partial → Fixed → Bool
takes_element (open_array xs) x = array_takes xs x
takes_element (open_choice h f xs) x = choice_takes h xs x
takes_element _ x = false

-- an open array or choice with one more element; any other open tree as it is
abbrev pub with_element : Partial → Fixed → Partial
with_element (open_struct vs) x = open_struct vs
with_element (open_object t i qs) x = open_object t i qs
with_element (open_property t i qs k f) x = open_property t i qs k f
with_element (open_array xs) x = open_array (xs ++ x ∷ [])
with_element (open_choice h f xs) x = open_choice h f (xs ++ x ∷ [])

-- the most zeros between a body and the next multiple of 8
abbrev pub most_padding : ℕ
most_padding = 7

-- Whether the size of the outermost open tree still fits 32 bits after `more` bytes. Where a tree is open inside it, padding may follow.
abbrev pub has_room_for : ℕ → List Partial → Bool
has_room_for more [] = true
has_room_for more (p ∷ []) = nat_lt (length (all_so_far (p ∷ [])) - header_size + more) size_limit
has_room_for more (p ∷ q ∷ ps) = nat_lt (length (all_so_far (p ∷ q ∷ ps)) - header_size + more) (size_limit - most_padding)
