-- The path from a top-level pod to one inside it: docs/TEXT.md, "A part of an input".
use Rattle.std.specs.Prelude.{◌+◌, ◌-◌, ◌&&◌, ℕ, zero, suc, codes, Bool, List, [], ◌∷◌, ◌++◌, if◌then◌else◌, length, nat_eq, nat_le, nat_lt, slice_index_or, take, unwrap_or}
use Rattle.std.specs.Fmt.{decimal}
use Rattle.std.specs.List.{count_by}
use Rattle.spa_events.specs.declared.event.Event.{Event}
use Rattle.spa_format.specs.Tree.{object_type}
use Rattle.spa_format.specs.Words.{header_size, word_at}
use Rattle.spa_names.specs.Lookup.{keys_of, name_of}
use Rattle.spa_names.specs.declared.table.Table.{Table}

-- the event of this number, the first being 0
abbrev pub event_at : List Event → ℕ → Event
event_at events number = slice_index_or events number (record { type_ = 0; size = 0; depth = 0; at = 0; parent = 0 })

-- its pod is in another one, whose event has the number `parent`
abbrev pub is_inside : List Event → Event → Bool
is_inside events event = nat_lt event.parent (length events)

-- the event is of an object, whose type and id are there
abbrev pub is_object_in : (pod : List ℕ) → Event → Bool
is_object_in pod event = (nat_eq event.type_ object_type && nat_le header_size event.size) && nat_le 16 (length pod - event.at)

-- the type of the object that begins at this byte, and its id, which stand behind its header
abbrev pub type_at : (pod : List ℕ) → (at : ℕ) → ℕ
type_at pod at = word_at pod (at + header_size)

abbrev pub id_at : (pod : List ℕ) → (at : ℕ) → ℕ
id_at pod at = word_at pod (at + header_size + 4)

-- a key and flags stand before this byte
abbrev pub is_keyed : (pod : List ℕ) → (at : ℕ) → Bool
is_keyed pod at = nat_le header_size at && nat_le at (length pod)

abbrev pub key_at : (pod : List ℕ) → (at : ℕ) → ℕ
key_at pod at = word_at pod (at - header_size)

-- how many of these events are of pods directly in that of this number
abbrev pub count_in : ℕ → List Event → ℕ
count_in number events = count_by (λ event. nat_eq event.parent number) events

-- the name of a number, or its digits where it has none
abbrev pub name_text : Table → ℕ → List ℕ
name_text table number = unwrap_or (name_of table number) (decimal number)

-- the step to the value of a property: the key's name, or its number where it has none
abbrev pub key_step : (type key : ℕ) → List ℕ
key_step type key = codes "." ++ name_text (keys_of (record { 0 = type })) key

-- the step to a member, which so many others stand before
abbrev pub member_step : ℕ → List ℕ
member_step count = codes "[" ++ (decimal count ++ codes "]")

-- the step to the pod of this event from the one that it is in, of which so many others stand before it
abbrev pub step_in : (pod : List ℕ) → (holder event : Event) → (count : ℕ) → List ℕ
step_in pod holder event count =
    if is_object_in pod holder && is_keyed pod event.at then key_step (type_at pod holder.at) (key_at pod event.at) else member_step count

abbrev pub step_to : List Event → (pod : List ℕ) → (number : ℕ) → List ℕ
step_to events pod number =
    step_in pod (event_at events (event_at events number).parent) (event_at events number) (count_in (event_at events number).parent (take number events))

-- the steps from a top-level pod to the one of this event: of more than so many the last ones, behind two points
abbrev pub path_to : (limit : ℕ) → List Event → (pod : List ℕ) → (number : ℕ) → List ℕ
path_to zero events pod number = if is_inside events (event_at events number) then codes ".." else []
path_to (suc limit) events pod number =
    if is_inside events (event_at events number) then path_to limit events pod (event_at events number).parent ++ step_to events pod number else []

-- how many steps of a path are written
abbrev pub step_limit : ℕ
step_limit = 32

-- the number of the top-level pod, which so many stand before, and the steps from it; nothing where there are none
abbrev pub numbered : (count : ℕ) → (steps : List ℕ) → List ℕ
numbered count [] = []
numbered count (x ∷ xs) = decimal (count + 1) ++ (x ∷ xs)
