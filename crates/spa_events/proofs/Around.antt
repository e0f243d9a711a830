-- The levels around the one that is open, as events are written and levels end.
use Rattle.std.proofs.Common.{◌≡◌, ◌≢◌, inl, inr, ℕ, ◌+◌, ◌<◌, ◌≤◌, List, [], ◌∷◌, ◌++◌, length, take, drop, refl, sym, ap, subst, ◌∙◌, arith, length-append, length-take, length-set, append_assoc, append-nil}
use Rattle.std.specs.Prelude.{Bool, true, false, if◌then◌else◌, slice_set}
use Rattle.std.proofs.lemmas.Bool.{eq-eqb, ne_eqb, cases_Bool}
use Rattle.std.proofs.lemmas.List.{drop-drop, drop-set-lt, get_or-set_other, get_or-set_same, get_or-take, take-append-drop, take_more_set}
use Rattle.std.proofs.Math.Seq.{take-append_seam, take-length}
use Rattle.spa_events.specs.Events.{IsFilled, IsListed, events_of, is_object, is_struct, no_parent}
use Rattle.spa_events.specs.Levels.{CanLeave, HasNext, HasNoNext, behind, event_at, holds_pods, level_around, level_behind, level_following, level_from, level_inside, level_of_input, moved, no_event}
use Rattle.spa_events.specs.declared.event.Event.{Event}
use Rattle.spa_events.specs.declared.level.Level.{Level}
use Rattle.spa_events.proofs.Open.{AreAround, Fits, IsOpen, Stands, rest_events}
use Rattle.spa_events.proofs.Places.{not_both, object_room}
use Rattle.spa_events.proofs.Steps.{next_at, next_depth, next_parent, next_whole, none_inside, rest_end, rest_first, rest_step}

-- the first events of two lists are the same
pub record SameBelow (count : ℕ) (old new : List Event) : Type 0 where
  pub at : (i : ℕ) → i < count → event_at new i ≡ event_at old i

open_moved : (input : List ℕ) (old new : List Event) (count more : ℕ) (l m : Level) (n : ℕ) → SameBelow count old new → count ≤ more →
    IsOpen input old count l m → IsOpen input new more (moved l n) m
open_moved input old new count more l m n same le o =
    let e : event_at new l.parent ≡ event_at old l.parent = same.at l.parent o.there in
    record {
      there = let t = o.there in omega arith;
      inside = ap (λ (x : Level). moved x n) o.inside ∙ ap (λ (x : Event). level_from n l.parent x) (sym e);
      whole = subst (λ (x : Event). behind x ≤ length input) (sym e) o.whole;
      deep = subst (λ (x : Event). x.depth < length input) (sym e) o.deep;
      after = o.after ∙ ap (λ (x : Event). behind x) (sym e);
      parent = o.parent ∙ ap (λ (x : Event). x.parent) (sym e);
      depth = o.depth ∙ ap (λ (x : Event). x.depth) (sym e);
    }

pub fits : (input : List ℕ) (events : List Event) (count : ℕ) (l : Level) (ms : List Level) → AreAround input events count l ms → Fits input l
fits input events count l [] a = a.0
fits input events count l (m ∷ ms) a = a.0

around_moved : (input : List ℕ) (old new : List Event) (count more : ℕ) (l : Level) (ms : List Level) (n : ℕ) → SameBelow count old new → count ≤ more →
    Fits input (moved l n) → AreAround input old count l ms → AreAround input new more (moved l n) ms
around_moved input old new count more l [] n same le f a = (f, ap (λ (x : Level). moved x n) a.1)
around_moved input old new count more l (m ∷ ms) n same le f a =
    (f, open_moved input old new count more l m n same le a.1, around_moved input old new count more m ms m.at same le (fits input old count m ms a.2) a.2)

-- a level inside a pod is within the input
held_room : (x y : Bool) (s : ℕ) → (y ≡ true → 8 ≤ s) → (x ≡ true → y ≡ false) →
    ((if y then 8 else 0) ≤ (if x then s else (if y then s else 0))) × ((if x then s else (if y then s else 0)) ≤ s) × ((if y then 8 else 0) ≤ 8)
held_room true true s room one = absurd (let f = one refl in cc)
held_room true false s room one = (omega arith, omega arith, omega arith)
held_room false true s room one = let r = room refl in (omega arith, omega arith, omega arith)
held_room false false s room one = (omega arith, omega arith, omega arith)

inside_fits : (input : List ℕ) (index : ℕ) (l : Level) (e : Event) → Fits input l → HasNext input l e → Fits input (level_inside index e)
inside_fits input index l e f h =
    let r = held_room (is_struct e.type_) (is_object e.type_ e.size) e.size (object_room e.type_ e.size) (not_both e.type_ e.size) in
    let r0 = r.0 in
    let r1 = r.1 in
    let w = next_whole input l e f h in
    let d = next_depth input l e h in
    let a = next_at input l e h in
    let fw = f.within in
    let fd = f.deep in
    record {
      order = omega arith;
      within = omega arith;
      before = r.2;
      deep = omega arith;
    }

behind_fits : (input : List ℕ) (l : Level) (e : Event) → Fits input l → HasNext input l e → Fits input (level_behind l e)
behind_fits input l e f h =
    let w = next_whole input l e f h in
    let a = next_at input l e h in
    let fd = f.deep in
    record { order = w; within = f.within; before = f.before; deep = omega arith }

dropped : (xs ys : List Event) (n : ℕ) → drop n xs ≡ drop n ys → drop (n + 1) xs ≡ drop (n + 1) ys
dropped xs ys n e = sym (drop-drop 1 n xs) ∙ ap (drop 1) e ∙ drop-drop 1 n ys

-- at the start nothing is written, and the input's level is open
pub stands_first : (input : List ℕ) (events : List Event) → Stands input events events 0 (level_of_input (length input) 0)
stands_first input events = record {
  room = omega arith;
  kept = refl;
  around = [];
  are = (record { order = omega arith; within = omega arith; before = omega arith; deep = omega arith }, refl);
  same = rest_first input;
}

-- an event is written, and the level inside its pod is open
stands_next : (input : List ℕ) (old events : List Event) (count : ℕ) (l : Level) (e : Event) → Stands input old events count l → HasNext input l e →
    count < length events → Stands input old (slice_set events count e) (count + 1) (level_inside count e)
stands_next input old events count l e s h lt =
    let new = slice_set events count e in
    let f = fits input events count l s.around s.are in
    let below : SameBelow count events new = record { at = λ i il. get_or-set_other events count i e no_event (omega arith) } in
    let here : event_at new count ≡ e = get_or-set_same events count e no_event lt in
    let w = next_whole input l e f h in
    let fw = f.within in
    let d = next_depth input l e h in
    let a = next_at input l e h in
    let fd = f.deep in
    record {
      room = let n = length-set events count e in omega arith;
      kept = drop-set-lt (count + 1) events count e (omega arith) ∙ dropped events old count s.kept;
      around = level_behind l e ∷ s.around;
      are = (
        inside_fits input count l e f h,
        record {
          there = omega arith;
          inside = ap (λ (x : Event). level_from (level_inside count e).at count x) (sym here);
          whole = subst (λ (x : Event). behind x ≤ length input) (sym here) (omega arith);
          deep = subst (λ (x : Event). x.depth < length input) (sym here) (omega arith);
          after = ap (λ (x : Event). behind x) (sym here);
          parent = sym (next_parent input l e h) ∙ ap (λ (x : Event). x.parent) (sym here);
          depth = sym d ∙ ap (λ (x : Event). x.depth) (sym here);
        },
        around_moved input events new count (count + 1) l s.around (behind e) below (omega arith) (behind_fits input l e f h) s.are,
      );
      same =
          s.same ∙ ap (λ z. take count events ++ z) (rest_step input count l s.around e f h)
          ∙ sym (append_assoc (take count events) (e ∷ []) (rest_events input (count + 1) (level_inside count e ∷ level_behind l e ∷ s.around)))
          ∙ ap (λ z. z ++ rest_events input (count + 1) (level_inside count e ∷ level_behind l e ∷ s.around)) (sym (take_more_set events count e lt));
    }

-- the step past a pod with no pods in it: the level behind it comes next
stands_behind : (input : List ℕ) (old events : List Event) (count : ℕ) (l : Level) (e : Event) → Stands input old events count l → HasNext input l e →
    count < length events → holds_pods e.type_ e.size ≡ false → Stands input old (slice_set events count e) (count + 1) (level_behind l e)
stands_behind input old events count l e s h lt none =
    let new = slice_set events count e in
    let f = fits input events count l s.around s.are in
    let below : SameBelow count events new = record { at = λ i il. get_or-set_other events count i e no_event (omega arith) } in
    record {
      room = let n = length-set events count e in omega arith;
      kept = drop-set-lt (count + 1) events count e (omega arith) ∙ dropped events old count s.kept;
      around = s.around;
      are = around_moved input events new count (count + 1) l s.around (behind e) below (omega arith) (behind_fits input l e f h) s.are;
      same =
          s.same ∙ ap (λ z. take count events ++ z) (rest_step input count l s.around e f h)
          ∙ ap (λ z. take count events ++ (e ∷ z)) (rest_end input (count + 1) (level_inside count e) (level_behind l e ∷ s.around) (none_inside input count e none))
          ∙ sym (append_assoc (take count events) (e ∷ []) (rest_events input (count + 1) (level_behind l e ∷ s.around)))
          ∙ ap (λ z. z ++ rest_events input (count + 1) (level_behind l e ∷ s.around)) (sym (take_more_set events count e lt));
    }

-- an event is written, and what is inside its pod or behind it is open
pub stands_following : (input : List ℕ) (old events : List Event) (count : ℕ) (l : Level) (e : Event) → Stands input old events count l → HasNext input l e →
    count < length events → Stands input old (slice_set events count e) (count + 1) (level_following count l e)
stands_following input old events count l e s h lt =
    elim (cases_Bool (holds_pods e.type_ e.size)) [
      | inl t ↦ subst (λ x. Stands input old (slice_set events count e) (count + 1) (if x then level_inside count e else level_behind l e)) (sym t)
          (stands_next input old events count l e s h lt)
      | inr t ↦ subst (λ x. Stands input old (slice_set events count e) (count + 1) (if x then level_inside count e else level_behind l e)) (sym t)
          (stands_behind input old events count l e s h lt t)
    ]

depth_choice : (x : Bool) (a b : Level) (n : ℕ) → a.depth ≤ n → b.depth ≤ n → (if x then a else b).depth ≤ n
depth_choice true a b n p q = p
depth_choice false a b n p q = q

-- and no more than one level more
pub depth_following : (input : List ℕ) (count : ℕ) (l : Level) (e : Event) → HasNext input l e → (level_following count l e).depth ≤ l.depth + 1
depth_following input count l e h =
    let d = next_depth input l e h in
    depth_choice (holds_pods e.type_ e.size) (level_inside count e) (level_behind l e) (l.depth + 1) (omega arith) (omega arith)

-- what the level goes back to is the first of those around it
gone_back : (input : List ℕ) (events first : List Event) (count : ℕ) (l m : Level) (ms : List Level) → count ≤ no_parent → SameBelow count events first →
    IsOpen input events count l m → AreAround input events count m ms → level_around (length input) first l.parent ≡ m
gone_back input events first count l m [] le same o a =
    let e = same.at l.parent o.there in
    let p : (event_at first l.parent).parent ≡ no_parent = ap (λ (x : Event). x.parent) e ∙ sym o.parent ∙ ap (λ (x : Level). x.parent) a.1 in
    let t = eq-eqb (event_at first l.parent).parent no_parent p in
    ap (λ x. if x then level_of_input (length input) (behind (event_at first l.parent))
    else level_from (behind (event_at first l.parent)) (event_at first l.parent).parent (event_at first (event_at first l.parent).parent)) t
    ∙ ap (level_of_input (length input)) (ap (λ (x : Event). behind x) e ∙ sym o.after)
    ∙ sym a.1
gone_back input events first count l m (n ∷ ms) le same o a =
    let e = same.at l.parent o.there in
    let there = a.1.there in
    let q : (event_at first l.parent).parent ≡ m.parent = ap (λ (x : Event). x.parent) e ∙ sym o.parent in
    let p : (event_at first l.parent).parent ≡ no_parent → ⊥ = λ z. let r : m.parent ≡ no_parent = sym q ∙ z in omega arith in
    let t = ne_eqb (event_at first l.parent).parent no_parent p in
    ap (λ x. if x then level_of_input (length input) (behind (event_at first l.parent))
    else level_from (behind (event_at first l.parent)) (event_at first l.parent).parent (event_at first (event_at first l.parent).parent)) t
    ∙ ap (λ x. level_from x (event_at first l.parent).parent (event_at first (event_at first l.parent).parent)) (ap (λ (x : Event). behind x) e ∙ sym o.after)
    ∙ ap (λ x. level_from m.at x (event_at first x)) q
    ∙ ap (level_from m.at m.parent) (same.at m.parent there)
    ∙ sym a.1.inside

first_same : (events : List Event) (count : ℕ) → SameBelow count events (take count events)
first_same events count = record { at = λ i il. get_or-take count events i no_event il }

-- where the level isn't the input's, one is around it
pub record HasOuter (input : List ℕ) (events : List Event) (count : ℕ) (l : Level) (ls : List Level) : Type 0 where
  pub outer : Level
  pub more : List Level
  pub all : ls ≡ outer ∷ more
  pub open_ : IsOpen input events count l outer
  pub rest : AreAround input events count outer more

has_outer : (input : List ℕ) (events : List Event) (count : ℕ) (l : Level) (ls : List Level) → l.parent ≢ no_parent → AreAround input events count l ls → HasOuter input events count l ls
has_outer input events count l [] ne a = absurd (ne (ap (λ (x : Level). x.parent) a.1))
has_outer input events count l (m ∷ ms) ne a = record { outer = m; more = ms; all = refl; open_ = a.1; rest = a.2 }

-- where it is the input's, none is
no_outer : (input : List ℕ) (events : List Event) (count : ℕ) (l : Level) (ls : List Level) → count ≤ no_parent → l.parent ≡ no_parent → AreAround input events count l ls → ls ≡ []
no_outer input events count l [] le e a = refl
no_outer input events count l (m ∷ ms) le e a = absurd (let t = a.1.there in omega arith)

outer_known : (input : List ℕ) (events : List Event) (count : ℕ) (m : Level) (ms : List Level) → m.parent ≢ no_parent → AreAround input events count m ms →
    (m.parent < count) × (behind (event_at events m.parent) ≤ length input) × ((event_at events m.parent).depth < length input)
outer_known input events count m [] ne a = absurd (ne (ap (λ (x : Level). x.parent) a.1))
outer_known input events count m (n ∷ ms) ne a = (a.1.there, a.1.whole, a.1.deep)

-- a level that none is left of can be left
pub can_leave : (input : List ℕ) (old events : List Event) (count : ℕ) (l : Level) → Stands input old events count l → l.parent ≢ no_parent →
    CanLeave (length input) (take count events) l.parent
can_leave input old events count l s ne =
    let h = has_outer input events count l s.around ne s.are in
    let o = h.open_ in
    let same = first_same events count in
    let there = o.there in
    let room = s.room in
    let e = same.at l.parent there in
    let q : (event_at (take count events) l.parent).parent ≡ h.outer.parent = ap (λ (x : Event). x.parent) e ∙ sym o.parent in
    let lt = length-take count events in
    let known = λ (z : (event_at (take count events) l.parent).parent ≢ no_parent). outer_known input events count h.outer h.more (λ w. z (q ∙ w)) h.rest in
    record {
      there = omega arith;
      whole = subst (λ (x : Event). behind x ≤ length input) (sym e) o.whole;
      outer = λ z. let k = (known z).0 in omega arith;
      outer_whole = λ z. let k = known z in subst (λ (x : Event). behind x ≤ length input) (sym (ap (event_at (take count events)) q ∙ same.at h.outer.parent k.0)) k.1;
      outer_deep = λ z. let k = known z in subst (λ (x : Event). x.depth < length input) (sym (ap (event_at (take count events)) q ∙ same.at h.outer.parent k.0)) k.2;
    }

pub stands_back : (input : List ℕ) (old events : List Event) (count : ℕ) (l : Level) → count ≤ no_parent → Stands input old events count l → HasNoNext input l →
    l.parent ≢ no_parent → Stands input old events count (level_around (length input) (take count events) l.parent)
stands_back input old events count l le s none ne =
    let h = has_outer input events count l s.around ne s.are in
    subst (Stands input old events count) (sym (gone_back input events (take count events) count l h.outer h.more le (first_same events count) h.open_ h.rest))
    (record {
      room = s.room;
      kept = s.kept;
      around = h.more;
      are = h.rest;
      same = s.same ∙ ap (λ z. take count events ++ rest_events input count (l ∷ z)) h.all ∙ ap (λ z. take count events ++ z) (rest_end input count l (h.outer ∷ h.more) none);
    })

pub depth_back : (input : List ℕ) (old events : List Event) (count : ℕ) (l : Level) → count ≤ no_parent → Stands input old events count l →
    l.parent ≢ no_parent → (level_around (length input) (take count events) l.parent).depth + 1 ≡ l.depth
depth_back input old events count l le s ne =
    let h = has_outer input events count l s.around ne s.are in
    let o = h.open_ in
    ap (λ (x : Level). x.depth + 1) (gone_back input events (take count events) count l h.outer h.more le (first_same events count) o h.rest)
    ∙ ap (λ n. n + 1) o.depth ∙ sym (ap (λ (x : Level). x.depth) o.inside)

-- at the end all is written
pub all_listed : (input : List ℕ) (old events : List Event) (count : ℕ) (l : Level) → count ≤ no_parent → Stands input old events count l → HasNoNext input l →
    l.parent ≡ no_parent → IsListed input count old events
all_listed input old events count l le s none e =
    let n = no_outer input events count l s.around le e s.are in
    let all : events_of input ≡ take count events =
    s.same ∙ ap (λ z. take count events ++ rest_events input count (l ∷ z)) n ∙ ap (λ z. take count events ++ z) (rest_end input count l [] none) ∙ append-nil (take count events) in
    let lt = length-take count events in
    let room = s.room in
    let le = ap length all in
    record {
      counted = omega arith;
      front = sym (take-append-drop count events) ∙ ap (λ z. z ++ drop count events) (sym all) ∙ ap (λ z. events_of input ++ z) s.kept;
    }

-- where one more event comes than there is room for, the first are written
pub all_filled : (input : List ℕ) (old events : List Event) (count : ℕ) (l : Level) (e : Event) → Stands input old events count l → HasNext input l e →
    count ≡ length events → IsFilled input events
all_filled input old events count l e s h eq =
    let f = fits input events count l s.around s.are in
    let rest = e ∷ rest_events input (count + 1) (level_inside count e ∷ level_behind l e ∷ s.around) in
    let all : events_of input ≡ events ++ rest =
    s.same ∙ ap (λ z. take count events ++ z) (rest_step input count l s.around e f h) ∙ ap (λ n. take n events ++ rest) eq ∙ ap (λ z. z ++ rest) (take-length events) in
    let la = ap length all in
    let lb = length-append events rest in
    record {
      first = sym (ap (take (length events)) all ∙ take-append_seam events rest);
      more = omega arith;
    }
