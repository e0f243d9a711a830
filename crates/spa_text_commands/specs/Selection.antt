-- Which pods of an input are printed, and which values of them: docs/TEXT.md, "A part of an input".
use Rattle.std.specs.Prelude.{◌+◌, ◌-◌, ◌==◌, ◌&&◌, ◌||◌, ℕ, Bool, true, false, List, [], ◌∷◌, ◌++◌, Option, None, Some, is_some, length, drop, slice_index, if◌then◌else◌, nat_eq}
use Rattle.std.specs.Borrow.{Bor}
use Rattle.std.specs.Fmt.{decimal}
use Rattle.std.specs.List.{ends_with, list_any, slice_split}
use Rattle.std.specs.Option.{option_map_or}
use Rattle.std.specs.Str.{bytes_eq}
use Rattle.spa_events.specs.Events.{events_of}
use Rattle.spa_events.specs.declared.event.Event.{Event}
use Rattle.spa_format.specs.Walk.{walk}
use Rattle.spa_names.specs.Lookup.{ids_of, keys_of, path_of}
use Rattle.spa_names.specs.declared.table.Table.{Table}
use Rattle.spa_names.specs.declared.table.Table.TheVariants.{Types}
use Rattle.spa_text_commands.specs.Paths.{event_at, id_at, is_keyed, is_object_in, key_at, path_to, step_limit, type_at}
use Rattle.spa_text_commands.specs.declared.selection.Selection.{Selection}

-- the N-th top-level pod is selected by N, and each one without a number; so many stand before it
abbrev pub is_selected : Option ℕ → (count : ℕ) → Bool
is_selected None count = true
is_selected (Some number) count = number == count + 1

-- a name is the whole of a path, or an end of it behind a colon
abbrev pub is_end_of : (path name : List ℕ) → Bool
is_end_of path name =
    ends_with nat_eq path name && (length path == length name || slice_index path (length path - length name - 1) == 58)

-- a number of a table has a name where that is PipeWire's name for it, an end of this, or its digits
abbrev pub is_named : Table → (number : ℕ) → (name : List ℕ) → Bool
is_named table number name = option_map_or (λ path. is_end_of path name) (path_of table number) false || bytes_eq (decimal number) name

-- several names stand between commas
abbrev pub names_in : List ℕ → List (List ℕ)
names_in names = slice_split (λ b. b == 44) names

abbrev pub is_among : Table → (number : ℕ) → (names : List ℕ) → Bool
is_among table number names = list_any (λ name. is_named table number name) (names_in names)

-- a number has one of the names that are asked for, if some are
abbrev pub is_asked : Option (Bor (List ℕ)) → Table → (number : ℕ) → Bool
is_asked None table number = true
is_asked (Some names) table number = is_among table number names.now

-- The event is of an object, whose type and id are there and have the names that are asked for.
abbrev pub is_of : Selection → (pod : List ℕ) → Event → Bool
is_of s pod object =
    is_object_in pod object
    && (is_asked s.type_ Types (type_at pod object.at) && is_asked s.id (ids_of (record { 0 = type_at pod object.at })) (id_at pod object.at))

-- The pod at this byte stands in such an object, and has a key of these names before it, and flags.
abbrev pub is_value_of : Selection → (names pod : List ℕ) → (object : Event) → (at : ℕ) → Bool
is_value_of s names pod object at =
    is_of s pod object
    && (is_keyed pod at && is_among (keys_of (record { 0 = type_at pod object.at })) (key_at pod at) names)

-- a pod that is printed: how many top-level pods stand before it, or before the one that it is in; the byte where it begins; the steps to it, which a
-- top-level one has none of; its bytes
pub record Part : Type 0 where
  pub count : ℕ
  pub place : ℕ
  pub path : List ℕ
  pub pod : List ℕ

abbrev pub part_of : (count place : ℕ) → (path pod : List ℕ) → Part
part_of count place path pod = record { count = count; place = place; path = path; pod = pod }

-- the pod that begins at this byte, where a whole one does
abbrev pub first_part : (count place : ℕ) → (path : List ℕ) → List (List ℕ) → List Part
first_part count place path [] = []
first_part count place path (p ∷ ps) = part_of count place path p ∷ []

-- what is looked for: the values under keys, or without one the objects themselves
abbrev pub is_found : Option (Bor (List ℕ)) → Selection → (pod : List ℕ) → List Event → Event → Bool
is_found None s pod events event = is_of s pod event
is_found (Some names) s pod events event = is_value_of s names.now pod (event_at events event.parent) event.at

-- or the pod at this path, where one is given
abbrev pub is_sought : Option (Bor (List ℕ)) → Selection → (count : ℕ) → (pod : List ℕ) → List Event → (number : ℕ) → Event → Bool
is_sought None s count pod events number event = is_found s.key s pod events event
is_sought (Some path) s count pod events number event = bytes_eq (decimal (count + 1) ++ path_to step_limit events pod number) path.now

-- the pod of the event of this number, where it is looked for
abbrev pub found_at : Selection → (count place : ℕ) → (pod : List ℕ) → List Event → (number : ℕ) → Event → List Part
found_at s count place pod events number event =
    if is_sought s.path s count pod events number event
    then first_part count (place + event.at) (path_to step_limit events pod number) (walk (drop event.at pod)) else []

-- those of these events, the first of which has this number
abbrev pub found_from : Selection → (count place : ℕ) → (pod : List ℕ) → List Event → (number : ℕ) → List Event → List Part
found_from s count place pod events number [] = []
found_from s count place pod events number (e ∷ es) = found_at s count place pod events number e ++ found_from s count place pod events (number + 1) es

-- what is looked for in a pod, at any depth of structs and objects, in the order in which it stands
abbrev pub found_in : Selection → (count place : ℕ) → (pod : List ℕ) → List Part
found_in s count place pod = found_from s count place pod (events_of pod) 0 (events_of pod)

-- what is printed of a top-level pod, which so many pods and bytes stand before: itself, or what is looked for in it; nothing where it isn't selected
abbrev pub looks_inside : Selection → Bool
looks_inside s = is_some s.path || (is_some s.key || (is_some s.type_ || is_some s.id))

abbrev pub parts_of : Selection → (count place : ℕ) → (pod : List ℕ) → List Part
parts_of s count place pod = if looks_inside s then found_in s count place pod else part_of count place [] pod ∷ []

abbrev pub selected_of : Selection → (count place : ℕ) → (pod : List ℕ) → List Part
selected_of s count place pod = if is_selected s.nth count then parts_of s count place pod else []

-- what is printed of these top-level pods
abbrev pub selected : Selection → (count place : ℕ) → List (List ℕ) → List Part
selected s count place [] = []
selected s count place (p ∷ ps) = selected_of s count place p ++ selected s (count + 1) (place + length p) ps
