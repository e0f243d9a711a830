-- A level: pods one after another that are still to be listed; and the levels inside it and around it.
use Rattle.std.specs.Prelude.{Bool, true, ◌≡◌, ◌≢◌, ℕ, ◌+◌, ◌-◌, ◌<◌, ◌≤◌, List, length, take, drop, if◌then◌else◌, cond, nat_eq, slice_index_or}
use Rattle.spa_format.specs.Words.{extent, header_size}
use Rattle.spa_format.specs.Walk.{extent_behind}
use Rattle.spa_events.specs.Events.{bytes_before, is_object, is_struct, no_parent, event_of}
use Rattle.spa_events.specs.declared.event.Event.{Event}
use Rattle.spa_events.specs.declared.level.Level.{Level}

-- the bytes of the pods of a level that are left
abbrev pub bytes_left : List ℕ → Level → List ℕ
bytes_left input level = take (level.end - level.at) (drop level.at input)

-- the first pod of the level is there, and this is its event
pub record HasNext (input : List ℕ) (level : Level) (event : Event) : Type 0 where
  pub whole : extent_behind level.before (bytes_left input level) ≤ length (bytes_left input level)
  pub its_event : event ≡ event_of level.depth level.parent (level.at + level.before) (drop level.before (bytes_left input level))

-- the level has no pod any more
abbrev pub HasNoNext : List ℕ → Level → Type 0
HasNoNext input level = length (bytes_left input level) < extent_behind level.before (bytes_left input level)

-- how many bytes of a body of this type and size are those of nested pods
abbrev pub bytes_held : ℕ → ℕ → ℕ
bytes_held type size = if is_struct type then size else (if is_object type size then size else 0)

-- whether a pod of this type and size has pods in it
abbrev pub holds_pods : ℕ → ℕ → Bool
holds_pods type size = cond (is_struct type) true (is_object type size)

-- an event of no pod
abbrev pub no_event : Event
no_event = record { type_ = 0; size = 0; depth = 0; at = 0; parent = 0 }

abbrev pub event_at : List Event → ℕ → Event
event_at events index = slice_index_or events index no_event

-- the level of the pods of an input of this many bytes, from this byte on
abbrev pub level_of_input : ℕ → ℕ → Level
level_of_input len at = record { at = at; end = len; before = 0; depth = 0; parent = no_parent }

-- the level inside the pod whose event has this index, from this byte on
abbrev pub level_from : ℕ → ℕ → Event → Level
level_from at index event = record {
  at = at;
  end = event.at + header_size + bytes_held event.type_ event.size;
  before = bytes_before event.type_ event.size;
  depth = event.depth + 1;
  parent = index;
}

-- the level inside the pod whose event has this index
abbrev pub level_inside : ℕ → Event → Level
level_inside index event = level_from (event.at + header_size + bytes_before event.type_ event.size) index event

-- the byte behind a pod
abbrev pub behind : Event → ℕ
behind event = event.at + extent event.size

-- a level with another byte to go on from
abbrev pub moved : Level → ℕ → Level
moved l n = record { at = n; end = l.end; before = l.before; depth = l.depth; parent = l.parent }

-- the level behind its first pod
abbrev pub level_behind : Level → Event → Level
level_behind level event = moved level (behind event)

-- the level that comes next once the first pod's event is listed at this index: the one inside that pod, or, where it has none, the one behind it
abbrev pub level_following : ℕ → Level → Event → Level
level_following index level event =
    if holds_pods event.type_ event.size then level_inside index event else level_behind level event

-- the level behind the pod whose event has this index, in the container around it
abbrev pub level_around : ℕ → List Event → ℕ → Level
level_around len events parent =
    let event = event_at events parent in
    if nat_eq event.parent no_parent
    then level_of_input len (behind event)
    else level_from (behind event) event.parent (event_at events event.parent)

-- the event at this place is there, and so is that of the pod that its pod stands in
pub record CanLeave (len : ℕ) (events : List Event) (parent : ℕ) : Type 0 where
  pub there : parent < length events
  pub whole : behind (event_at events parent) ≤ len
  pub outer : (event_at events parent).parent ≢ no_parent → (event_at events parent).parent < length events
  pub outer_whole : (event_at events parent).parent ≢ no_parent → behind (event_at events (event_at events parent).parent) ≤ len
  pub outer_deep : (event_at events parent).parent ≢ no_parent → (event_at events (event_at events parent).parent).depth < len
