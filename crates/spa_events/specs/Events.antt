-- The nested pods of an input, one event a pod: docs/FORMAT.md, "What lies inside".
use Rattle.std.specs.Prelude.{◌≡◌, ℕ, zero, suc, ◌+◌, ◌<◌, Bool, List, [], ◌∷◌, ◌++◌, length, take, drop, if◌then◌else◌, cond, false, nat_eq, nat_le}
use Rattle.spa_format.specs.Words.{word_at, body_of, header_size}
use Rattle.spa_format.specs.Tree.{struct_type, object_type}
use Rattle.spa_format.specs.Walk.{properties_of, property_walk, walk}
use Rattle.spa_events.specs.declared.event.Event.{Event}

-- the parent of a pod that is in no other: 2 ^ 64 - 1, the greatest index
abbrev pub no_parent : ℕ
no_parent = 18446744073709551615

-- the event of a pod that begins at this byte and is nested in this many containers, where `parent` is the index of the innermost one's event
abbrev pub event_of : ℕ → ℕ → ℕ → List ℕ → Event
event_of depth parent at pod = record {
  type_ = word_at pod 4;
  size = word_at pod 0;
  depth = depth;
  at = at;
  parent = parent;
}

-- whether pods of this type hold others, and whether those of this type and size hold properties
abbrev pub is_struct : ℕ → Bool
is_struct type = nat_eq type struct_type

abbrev pub is_object : ℕ → ℕ → Bool
is_object type size = cond (nat_eq type object_type) (nat_le header_size size) false

-- how many bytes are before each pod in a pod of this type and size: 8 of key and flags, or none
abbrev pub bytes_before : ℕ → ℕ → ℕ
bytes_before type size = if is_object type size then header_size else 0

-- the pods in a pod, each with the bytes before it: the members of a struct, the properties of an object, of any other pod none
abbrev pub pods_inside : List ℕ → List (List ℕ)
pods_inside pod =
    if is_struct (word_at pod 4)
    then walk (body_of pod)
    else (if is_object (word_at pod 4) (word_at pod 0) then property_walk (properties_of pod) else [])

-- The events of pods one after another, each with `before` bytes before it. The function `pod_events` gives those of one pod and of all pods in it,
-- by the index that the pod's own event will have in the list, the byte at which the pod begins, and its bytes.
abbrev pub events_along : ℕ → (ℕ → ℕ → List ℕ → List Event) → ℕ → ℕ → List (List ℕ) → List Event
events_along before pod_events index at [] = []
events_along before pod_events index at (p ∷ ps) =
    pod_events index (at + before) (drop before p)
    ++ events_along before pod_events (index + length (pod_events index (at + before) (drop before p))) (at + length p) ps

-- The events of a pod and of all pods in it, down to this nesting depth: its own, and then those of the pods in it, in order. Of the words
-- 8, 14, 0, 14, 4, 4, 3, 0 the struct at byte 0 has the index 0; the empty struct in it has the index 1, is at byte 8, and its parent is 0.
unfoldable pub events_within : ℕ → ℕ → ℕ → ℕ → ℕ → List ℕ → List Event
events_within zero depth parent index at pod = []
events_within (suc n) depth parent index at pod =
    event_of depth parent at pod
    ∷ events_along (bytes_before (word_at pod 4) (word_at pod 0)) (events_within n (depth + 1) index) (index + 1)
    (at + header_size + bytes_before (word_at pod 4) (word_at pod 0)) (pods_inside pod)

-- The events of an input: of the pods one after another in it, and of all pods in them. There are no more levels than bytes.
unfoldable pub events_of : List ℕ → List Event
events_of input = events_along 0 (events_within (length input) 0 no_parent) 0 0 (walk input)

-- all `count` events of the input are at the front of the output, which is unchanged behind them
pub record IsListed (input : List ℕ) (count : ℕ) (old new : List Event) : Type 0 where
  pub counted : count ≡ length (events_of input)
  pub front : new ≡ events_of input ++ drop count old

-- the output is full of the first events, and there are more
pub record IsFilled (input : List ℕ) (new : List Event) : Type 0 where
  pub first : new ≡ take (length new) (events_of input)
  pub more : length new < length (events_of input)
