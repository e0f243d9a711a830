-- How many events there are, and that the bound on levels ends no list.
use Rattle.std.proofs.Common.{◌≡◌, ℕ, zero, suc, ◌+◌, ◌-◌, ◌*◌, ◌<◌, ◌≤◌, inl, inr, List, ◌∷◌, ◌++◌, length, take, drop, refl, sym, ap, ◌∙◌, arith, length-append, length-drop, length-take, min}
use Rattle.std.proofs.lemmas.Bool.{cases_lt}
use Rattle.spa_format.specs.Words.{body_of, extent, word_at}
use Rattle.spa_format.specs.Walk.{extent_behind, walk_behind}
use Rattle.spa_format.proofs.WalkLemmas.{walk_behind-end, walk_behind-there}
use Rattle.spa_events.specs.Events.{bytes_before, events_along, events_of, events_within, is_object, is_struct, no_parent, pods_inside, event_of}
use Rattle.spa_events.specs.declared.event.Event.{Event}
use Rattle.spa_events.proofs.Places.{inside_placed, not_both, object_room, size_behind}
use Rattle.spa_events.specs.Levels.{bytes_held}
use Rattle.spa_events.proofs.Steps.{events_within-none, events_within-there}

-- the bytes of a whole pod, with its padding
pub record IsWholePod (pod : List ℕ) : Type 0 where
  pub whole : length pod ≡ extent (word_at pod 0)

-- the function gives no more events of a whole pod than headers have room in it
pub record TellsFew (pod_events : ℕ → ℕ → List ℕ → List Event) : Type 0 where
  pub few : (index at : ℕ) (pod : List ℕ) → IsWholePod pod → length (pod_events index at pod) * 8 ≤ length pod

whole_behind : (k : ℕ) (b : List ℕ) → extent_behind k b ≤ length b → IsWholePod (drop k (take (extent_behind k b) b))
whole_behind k b h =
    let s = ap extent (size_behind k b h) in
    let d = length-drop k (take (extent_behind k b) b) in
    let t = length-take (extent_behind k b) b in
    record { whole = omega arith }

along_end : (k : ℕ) (pod_events : ℕ → ℕ → List ℕ → List Event) (b : List ℕ) (index at : ℕ) → length b < extent_behind k b →
    length (events_along k pod_events index at (walk_behind k b)) * 8 ≤ length b
along_end k pod_events b index at l = let e = ap (λ ps. length (events_along k pod_events index at ps)) (walk_behind-end k b l) in omega arith

along_few : (k : ℕ) (pod_events : ℕ → ℕ → List ℕ → List Event) → TellsFew pod_events → (m : ℕ) (b : List ℕ) (index at : ℕ) → length b ≤ m →
    length (events_along k pod_events index at (walk_behind k b)) * 8 ≤ length b
along_few k pod_events few zero b index at le = along_end k pod_events b index at (omega arith)
along_few k pod_events few (suc m) b index at le =
    elim (cases_lt (length b) (extent_behind k b)) [
      | inl l ↦ along_end k pod_events b index at l
      | inr l ↦
          let p = take (extent_behind k b) b in
          let w = whole_behind k b l in
          let f = few.few index (at + k) (drop k p) w in
          let n = index + length (pod_events index (at + k) (drop k p)) in
          let dr = length-drop (extent_behind k b) b in
          let r = along_few k pod_events few m (drop (extent_behind k b) b) n (at + length p) (omega arith) in
          let e = ap (λ ps. length (events_along k pod_events index at ps)) (walk_behind-there k b l) in
          let a = length-append (pod_events index (at + k) (drop k p)) (events_along k pod_events n (at + length p) (walk_behind k (drop (extent_behind k b) b))) in
          let t = length-take (extent_behind k b) b in
          let d = length-drop k p in
          omega arith
    ]

-- the pods in a pod stand one after another behind its header
abbrev held_in : List ℕ → List ℕ
held_in pod =
    let k = bytes_before (word_at pod 4) (word_at pod 0) in take ((8 + bytes_held (word_at pod 4) (word_at pod 0)) - (8 + k)) (drop (8 + k) pod)

inside_is : (pod : List ℕ) → pods_inside pod ≡ walk_behind (bytes_before (word_at pod 4) (word_at pod 0)) (held_in pod)
inside_is pod =
    let t = word_at pod 4 in
    let s = word_at pod 0 in
    inside_placed (is_struct t) (is_object t s) s 8 (body_of pod) pod (not_both t s) (object_room t s) refl

held_less : (pod : List ℕ) → IsWholePod pod → length (held_in pod) + 8 ≤ length pod
held_less pod w =
    let k = bytes_before (word_at pod 4) (word_at pod 0) in
    let t = length-take ((8 + bytes_held (word_at pod 4) (word_at pod 0)) - (8 + k)) (drop (8 + k) pod) in
    let d = length-drop (8 + k) pod in
    let h = w.whole in
    omega (arith, t, d, h)

pod_few : (n depth parent index at : ℕ) (pod : List ℕ) → IsWholePod pod → length (events_within n depth parent index at pod) * 8 ≤ length pod
pod_few zero depth parent index at pod w = let e = ap length (events_within-none depth parent index at pod) in omega arith
pod_few (suc n) depth parent index at pod w =
    let k = bytes_before (word_at pod 4) (word_at pod 0) in
    let f : TellsFew (events_within n (depth + 1) index) = record { few = pod_few n (depth + 1) index } in
    let i = along_few k (events_within n (depth + 1) index) f (length (held_in pod)) (held_in pod) (index + 1) (at + 8 + k) (omega arith) in
    let e = ap length (events_within-there n depth parent index at pod ∙ ap (λ ps. event_of depth parent at pod ∷ events_along k (events_within n (depth + 1) index) (index + 1) (at + 8 + k) ps) (inside_is pod)) in
    let h = held_less pod w in
    omega (arith, e, i, h)

within_few : (n depth parent : ℕ) → TellsFew (events_within n depth parent)
within_few n depth parent = record { few = pod_few n depth parent }

pub few : (input : List ℕ) → length (events_of input) * 8 ≤ length input
unfolding events_of
few input = along_few 0 (events_within (length input) 0 no_parent) (within_few (length input) 0 no_parent) (length input) input 0 0 (omega arith)

-- the two functions give the same events of whole pods of at most this length
pub record TellAlike (len : ℕ) (f g : ℕ → ℕ → List ℕ → List Event) : Type 0 where
  pub alike : (index at : ℕ) (pod : List ℕ) → IsWholePod pod → length pod ≤ len → f index at pod ≡ g index at pod

along_alike : (k len : ℕ) (f g : ℕ → ℕ → List ℕ → List Event) → TellAlike len f g → (m : ℕ) (b : List ℕ) (index at : ℕ) → length b ≤ m → length b ≤ len →
    events_along k f index at (walk_behind k b) ≡ events_along k g index at (walk_behind k b)
along_alike k len f g same zero b index at le short =
    let e = walk_behind-end k b (omega arith) in
    ap (events_along k f index at) e ∙ sym (ap (events_along k g index at) e)
along_alike k len f g same (suc m) b index at le short =
    elim (cases_lt (length b) (extent_behind k b)) [
      | inl l ↦ let e = walk_behind-end k b l in ap (events_along k f index at) e ∙ sym (ap (events_along k g index at) e)
      | inr l ↦
          let p = take (extent_behind k b) b in
          let e = walk_behind-there k b l in
          let t = length-take (extent_behind k b) b in
          let d = length-drop k p in
          let dr = length-drop (extent_behind k b) b in
          let s = same.alike index (at + k) (drop k p) (whole_behind k b l) (omega arith) in
          let n = index + length (g index (at + k) (drop k p)) in
          let rest = walk_behind k (drop (extent_behind k b) b) in
          ap (events_along k f index at) e
          ∙ ap (λ z. z ++ events_along k f (index + length z) (at + length p) rest) s
          ∙ ap (λ z. g index (at + k) (drop k p) ++ z) (along_alike k len f g same m (drop (extent_behind k b) b) n (at + length p) (omega arith) (omega arith))
          ∙ sym (ap (events_along k g index at) e)
    ]

-- with a bound on levels that isn't less than the pod's length, these are all events of the pod
pub enough : (n m depth parent index at : ℕ) (pod : List ℕ) → length pod ≡ extent (word_at pod 0) → length pod ≤ n → length pod ≤ m →
    events_within n depth parent index at pod ≡ events_within m depth parent index at pod
enough zero m depth parent index at pod w a b = absurd (omega arith)
enough (suc n) zero depth parent index at pod w a b = absurd (omega arith)
enough (suc n) (suc m) depth parent index at pod w a b =
    let k = bytes_before (word_at pod 4) (word_at pod 0) in
    let h = held_less pod (record { whole = w }) in
    let f = events_within n (depth + 1) index in
    let g = events_within m (depth + 1) index in
    let same : TellAlike (min n m) f g = record { alike = λ i x p v short. enough n m (depth + 1) index i x p v.whole (omega arith) (omega arith) } in
    let along = along_alike k (min n m) f g same (length (held_in pod)) (held_in pod) (index + 1) (at + 8 + k) (omega arith) (omega (arith, h)) in
    let i = inside_is pod in
    events_within-there n depth parent index at pod
    ∙ ap (λ z. event_of depth parent at pod ∷ z)
    (ap (events_along k f (index + 1) (at + 8 + k)) i ∙ along ∙ sym (ap (events_along k g (index + 1) (at + 8 + k)) i))
    ∙ sym (events_within-there m depth parent index at pod)
