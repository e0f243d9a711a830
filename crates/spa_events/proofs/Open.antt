-- The pods that are still to come while a list is written: those of the level that is open, and of each around it.
use Rattle.std.proofs.Common.{◌≡◌, ℕ, ◌+◌, ◌-◌, ◌<◌, ◌≤◌, List, [], ◌∷◌, ◌++◌, length, take, drop}
use Rattle.spa_format.specs.Walk.{walk_behind}
use Rattle.spa_events.specs.Events.{events_along, events_of, events_within}
use Rattle.spa_events.specs.Levels.{behind, bytes_left, event_at, level_from, level_of_input}
use Rattle.spa_events.specs.declared.event.Event.{Event}
use Rattle.spa_events.specs.declared.level.Level.{Level}

-- the events that are left of a level, the first of which has this index in the list
abbrev pub level_events : List ℕ → ℕ → Level → List Event
level_events input index l =
    events_along l.before (events_within (length input - l.depth) l.depth l.parent) index l.at (walk_behind l.before (bytes_left input l))

-- of several levels, one after another
abbrev pub rest_events : List ℕ → ℕ → List Level → List Event
rest_events input index [] = []
rest_events input index (l ∷ ls) =
    level_events input index l ++ rest_events input (index + length (level_events input index l)) ls

-- a level is within the input, and each level around it took a byte before it
pub record Fits (input : List ℕ) (l : Level) : Type 0 where
  pub order : l.at ≤ l.end
  pub within : l.end ≤ length input
  pub before : l.before ≤ 8
  pub deep : l.depth ≤ l.at

-- the level is inside the pod whose event is its parent's, and the other level is what follows that pod
pub record IsOpen (input : List ℕ) (events : List Event) (count : ℕ) (l outer : Level) : Type 0 where
  pub there : l.parent < count
  pub inside : l ≡ level_from l.at l.parent (event_at events l.parent)
  pub whole : behind (event_at events l.parent) ≤ length input
  pub deep : (event_at events l.parent).depth < length input
  pub after : outer.at ≡ behind (event_at events l.parent)
  pub parent : outer.parent ≡ (event_at events l.parent).parent
  pub depth : outer.depth ≡ (event_at events l.parent).depth

-- these levels are around this one, the innermost first, and the last of them is the input's
abbrev pub AreAround : List ℕ → List Event → ℕ → Level → List Level → Type 0
AreAround input events count l [] = Fits input l × (l ≡ level_of_input (length input) l.at)
AreAround input events count l (m ∷ ms) = Fits input l × IsOpen input events count l m × AreAround input events count m ms

-- this many events are written, and of the events of the input those of the open levels are left
pub record Stands (input : List ℕ) (old events : List Event) (count : ℕ) (l : Level) : Type 0 where
  pub room : count ≤ length events
  pub kept : drop count events ≡ drop count old
  pub around : List Level
  pub are : AreAround input events count l around
  pub same : events_of input ≡ take count events ++ rest_events input count (l ∷ around)
