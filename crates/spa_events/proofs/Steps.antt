-- The events that are left, before and after a step.
use Rattle.std.proofs.Common.{◌≡◌, ℕ, suc, ◌+◌, ◌-◌, ◌<◌, ◌≤◌, List, [], ◌∷◌, ◌++◌, length, take, drop, refl, sym, ap, subst, ◌∙◌, arith, length-append, length-take, append_assoc, append-nil}
use Rattle.std.specs.Prelude.{Bool, true, false, cond, if◌then◌else◌}
use Rattle.std.proofs.Math.Seq.{take-length}
use Rattle.spa_format.specs.Words.{word_at, extent}
use Rattle.spa_format.specs.Walk.{extent_behind, walk_behind}
use Rattle.spa_format.proofs.WalkLemmas.{walk_behind-end, walk_behind-there}
use Rattle.spa_format.proofs.WordLemmas.{word_at-drop}
use Rattle.spa_events.specs.Events.{bytes_before, events_along, events_of, events_within, is_object, is_struct, no_parent, pods_inside, event_of}
use Rattle.spa_events.specs.Levels.{HasNext, HasNoNext, behind, bytes_held, bytes_left, holds_pods, level_behind, level_inside, level_of_input}
use Rattle.spa_events.specs.declared.event.Event.{Event}
use Rattle.spa_events.specs.declared.level.Level.{Level}
use Rattle.spa_events.proofs.Open.{Fits, level_events, rest_events}
use Rattle.spa_events.proofs.Places.{drop_part, pods_placed, size_behind, word_behind}

pub events_within-none : (depth parent index at : ℕ) (pod : List ℕ) → events_within 0 depth parent index at pod ≡ []
unfolding events_within
events_within-none depth parent index at pod = refl

-- the events of a pod are its own, and those of the pods in it
pub events_within-there : (n depth parent index at : ℕ) (pod : List ℕ) →
    events_within (suc n) depth parent index at pod
    ≡ event_of depth parent at pod
    ∷ events_along (bytes_before (word_at pod 4) (word_at pod 0)) (events_within n (depth + 1) index) (index + 1)
    (at + 8 + bytes_before (word_at pod 4) (word_at pod 0)) (pods_inside pod)
unfolding events_within
events_within-there n depth parent index at pod = refl

-- facts of an event that is next
pub next_type : (input : List ℕ) (l : Level) (e : Event) → HasNext input l e →
    e.type_ ≡ word_at (drop l.before (take (extent_behind l.before (bytes_left input l)) (bytes_left input l))) 4
next_type input l e h =
    ap (λ (x : Event). x.type_) h.its_event ∙ word_at-drop l.before 4 (bytes_left input l) ∙ sym (word_behind l.before (bytes_left input l) h.whole)

pub next_size : (input : List ℕ) (l : Level) (e : Event) → HasNext input l e →
    e.size ≡ word_at (drop l.before (take (extent_behind l.before (bytes_left input l)) (bytes_left input l))) 0
next_size input l e h =
    let z : l.before + 0 ≡ l.before = omega arith in
    ap (λ (x : Event). x.size) h.its_event ∙ word_at-drop l.before 0 (bytes_left input l) ∙ ap (word_at (bytes_left input l)) z
    ∙ sym (size_behind l.before (bytes_left input l) h.whole)

pub next_extent : (input : List ℕ) (l : Level) (e : Event) → HasNext input l e → extent_behind l.before (bytes_left input l) ≡ l.before + extent e.size
next_extent input l e h =
    ap (λ s. l.before + extent s) (sym (next_size input l e h ∙ size_behind l.before (bytes_left input l) h.whole))

pub next_at : (input : List ℕ) (l : Level) (e : Event) → HasNext input l e → e.at ≡ l.at + l.before
next_at input l e h = ap (λ (x : Event). x.at) h.its_event

pub next_depth : (input : List ℕ) (l : Level) (e : Event) → HasNext input l e → e.depth ≡ l.depth
next_depth input l e h = ap (λ (x : Event). x.depth) h.its_event

pub next_parent : (input : List ℕ) (l : Level) (e : Event) → HasNext input l e → e.parent ≡ l.parent
next_parent input l e h = ap (λ (x : Event). x.parent) h.its_event

-- the pod of the event is within its level, as a whole
pub next_whole : (input : List ℕ) (l : Level) (e : Event) → Fits input l → HasNext input l e → behind e ≤ l.end
next_whole input l e f h =
    let x = next_extent input l e h in
    let w = h.whole in
    let a = next_at input l e h in
    let t = length-take (l.end - l.at) (drop l.at input) in
    let o = f.order in
    omega arith

-- the event of the first pod, and the events of the pods in it
first_event : (input : List ℕ) (index : ℕ) (l : Level) (e : Event) → Fits input l → HasNext input l e →
    events_within (length input - l.depth) l.depth l.parent index (l.at + l.before)
    (drop l.before (take (extent_behind l.before (bytes_left input l)) (bytes_left input l)))
    ≡ e ∷ level_events input (index + 1) (level_inside index e)
first_event input index l e f h =
    let b = bytes_left input l in
    let k = l.before in
    let pod = drop k (take (extent_behind k b) b) in
    let w = next_whole input l e f h in
    let a = next_at input l e h in
    let d = f.deep in
    let i = f.within in
    let m = length input - (l.depth + 1) in
    let en : length input - l.depth ≡ suc m = omega arith in
    let et = next_type input l e h in
    let es = next_size input l e h in
    let pod_events = events_within m (l.depth + 1) index in
    let along : ℕ → ℕ → ℕ → List (List ℕ) → List Event = λ n x y ps. events_along n (events_within (length input - (x + 1)) (x + 1) index) (index + 1) y ps in
    let ee : event_of l.depth l.parent (l.at + k) pod ≡ e =
    sym (h.its_event ∙ ap (λ t. let z : Event = record { type_ = t; size = word_at (drop k b) 0; depth = l.depth; at = l.at + k; parent = l.parent } in z) (sym (ap (λ (x : Event). x.type_) h.its_event) ∙ et)
    ∙ ap (λ s. let z : Event = record { type_ = word_at pod 4; size = s; depth = l.depth; at = l.at + k; parent = l.parent } in z) (sym (ap (λ (x : Event). x.size) h.its_event) ∙ es)) in
    ap (λ n. events_within n l.depth l.parent index (l.at + k) pod) en
    ∙ events_within-there m l.depth l.parent index (l.at + k) pod
    ∙ ap (λ z. z ∷ along (bytes_before (word_at pod 4) (word_at pod 0)) l.depth (l.at + k + 8 + bytes_before (word_at pod 4) (word_at pod 0)) (pods_inside pod)) ee
    ∙ ap (λ z. e ∷ z)
    (ap (λ t. along (bytes_before t (word_at pod 0)) l.depth (l.at + k + 8 + bytes_before t (word_at pod 0)) (pods_inside pod)) (sym et)
    ∙ ap (λ s. along (bytes_before e.type_ s) l.depth (l.at + k + 8 + bytes_before e.type_ s) (pods_inside pod)) (sym es)
    ∙ ap (along (bytes_before e.type_ e.size) l.depth (l.at + k + 8 + bytes_before e.type_ e.size)) (pods_placed k l.at l.end input e.type_ e.size h.whole f.order et es)
    ∙ ap (λ x. along (bytes_before e.type_ e.size) l.depth (x + 8 + bytes_before e.type_ e.size) (walk_behind (bytes_before e.type_ e.size) (take ((x + 8 + bytes_held e.type_ e.size) - (x + 8 + bytes_before e.type_ e.size)) (drop (x + 8 + bytes_before e.type_ e.size) input)))) (sym a)
    ∙ ap (λ x. along (bytes_before e.type_ e.size) x (e.at + 8 + bytes_before e.type_ e.size) (walk_behind (bytes_before e.type_ e.size) (take ((e.at + 8 + bytes_held e.type_ e.size) - (e.at + 8 + bytes_before e.type_ e.size)) (drop (e.at + 8 + bytes_before e.type_ e.size) input)))) (sym (next_depth input l e h)))

-- a level's first event comes first, then what is inside its pod, and then what follows
pub level_step : (input : List ℕ) (index : ℕ) (l : Level) (e : Event) → Fits input l → HasNext input l e →
    level_events input index l
    ≡ (e ∷ level_events input (index + 1) (level_inside index e))
    ++ level_events input (index + length (e ∷ level_events input (index + 1) (level_inside index e))) (level_behind l e)
level_step input index l e f h =
    let b = bytes_left input l in
    let k = l.before in
    let n = extent_behind k b in
    let pod_events = events_within (length input - l.depth) l.depth l.parent in
    let w = next_whole input l e f h in
    let a = next_at input l e h in
    let x = next_extent input l e h in
    let lt = length-take n b in
    let wh = h.whole in
    let ea : l.at + length (take n b) ≡ behind e = omega arith in
    let er : l.at + n ≡ behind e = omega arith in
    ap (events_along k pod_events index l.at) (walk_behind-there k b h.whole)
    ∙ ap (λ y. pod_events index (l.at + k) (drop k (take n b)) ++ events_along k pod_events (index + length (pod_events index (l.at + k) (drop k (take n b)))) y (walk_behind k (drop n b))) ea
    ∙ ap (λ z. z ++ events_along k pod_events (index + length z) (behind e) (walk_behind k (drop n b))) (first_event input index l e f h)
    ∙ ap (λ z. (e ∷ level_events input (index + 1) (level_inside index e)) ++ events_along k pod_events (index + length (e ∷ level_events input (index + 1) (level_inside index e))) (behind e) (walk_behind k z))
    (drop_part n l.at l.end input (omega arith) ∙ ap (λ y. take (l.end - y) (drop y input)) er)

-- a level without pods left has no events
pub level_end : (input : List ℕ) (index : ℕ) (l : Level) → HasNoNext input l → level_events input index l ≡ []
level_end input index l h =
    ap (events_along l.before (events_within (length input - l.depth) l.depth l.parent) index l.at) (walk_behind-end l.before (bytes_left input l) h)

-- the events that were left of the levels are this event, and then those of the levels with the one inside its pod
pub rest_step : (input : List ℕ) (index : ℕ) (l : Level) (ls : List Level) (e : Event) → Fits input l → HasNext input l e →
    rest_events input index (l ∷ ls) ≡ e ∷ rest_events input (index + 1) (level_inside index e ∷ level_behind l e ∷ ls)
rest_step input index l ls e f h =
    let x = level_events input (index + 1) (level_inside index e) in
    let y : ℕ → List Event = λ i. level_events input i (level_behind l e) in
    let ei : index + length (e ∷ x) ≡ index + 1 + length x = omega arith in
    let j = index + 1 + length x in
    let s = level_step input index l e f h ∙ ap (λ i. (e ∷ x) ++ y i) ei in
    let lx = length-append (e ∷ x) (y j) in
    let er : index + length ((e ∷ x) ++ y j) ≡ j + length (y j) = omega arith in
    ap (λ z. z ++ rest_events input (index + length z) ls) s
    ∙ ap (λ i. ((e ∷ x) ++ y j) ++ rest_events input i ls) er
    ∙ append_assoc (e ∷ x) (y j) (rest_events input (j + length (y j)) ls)

pub rest_end : (input : List ℕ) (index : ℕ) (l : Level) (ls : List Level) → HasNoNext input l → rest_events input index (l ∷ ls) ≡ rest_events input index ls
rest_end input index l ls h =
    let z : index + 0 ≡ index = omega arith in
    ap (λ x. x ++ rest_events input (index + length x) ls) (level_end input index l h) ∙ ap (λ i. rest_events input i ls) z

-- nothing is inside a pod that holds none
inside_none : (x y : Bool) (s a : ℕ) (input : List ℕ) → cond x true y ≡ false →
    let n : ℕ = if y then 8 else 0 in let b = take ((a + (if x then s else (if y then s else 0))) - (a + n)) (drop (a + n) input) in
    length b < extent_behind n b
inside_none true y s a input h = absurd (let f = h in cc)
inside_none false true s a input h = absurd (let f = h in cc)
inside_none false false s a input h =
    let d : (a + 0) - (a + 0) ≡ 0 = omega arith in
    subst (λ n. let b = take n (drop (a + 0) input) in length b < extent_behind 0 b) (sym d) (omega arith)

pub none_inside : (input : List ℕ) (index : ℕ) (e : Event) → holds_pods e.type_ e.size ≡ false → HasNoNext input (level_inside index e)
none_inside input index e h = inside_none (is_struct e.type_) (is_object e.type_ e.size) e.size (e.at + 8) input h

-- the events of an input are those of its own level
pub rest_first : (input : List ℕ) → events_of input ≡ rest_events input 0 (level_of_input (length input) 0 ∷ [])
unfolding events_of
rest_first input =
    let z : length input ≡ length input - 0 = omega arith in
    let t : take (length input - 0) (drop 0 input) ≡ input = ap (λ n. take n input) (sym z) ∙ take-length input in
    ap (λ n. events_along 0 (events_within n 0 no_parent) 0 0 (walk_behind 0 input)) z
    ∙ ap (λ b. events_along 0 (events_within (length input - 0) 0 no_parent) 0 0 (walk_behind 0 b)) (sym t)
    ∙ sym (append-nil (level_events input 0 (level_of_input (length input) 0)))
