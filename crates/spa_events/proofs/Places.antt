-- The offsets of the pods in a pod.
use Rattle.std.proofs.Common.{◌≡◌, ℕ, ◌+◌, ◌-◌, ◌<◌, ◌≤◌, inl, inr, List, [], length, take, drop, refl, sym, ap, subst, ◌∙◌, arith, length-take}
use Rattle.std.specs.Prelude.{Bool, true, false, if◌then◌else◌, cond, nat_eq, nat_le}
use Rattle.std.proofs.lemmas.Bool.Decides.{eqb_tells, leb_tells}
use Rattle.std.proofs.lemmas.Bool.{cases_lt, eqb-true, le-leb, ne_eqb}
use Rattle.std.proofs.lemmas.List.{drop-drop, drop-take, take-take}
use Rattle.spa_format.specs.Tree.{object_type}
use Rattle.spa_format.specs.Words.{word_at, body_of}
use Rattle.spa_format.specs.Walk.{extent_behind, properties_of, property_walk, walk, walk_behind}
use Rattle.spa_format.proofs.WalkLemmas.{walk_behind-end}
use Rattle.spa_format.proofs.WordLemmas.{word_at-drop, word_at-take}
use Rattle.spa_events.specs.Events.{bytes_before, is_object, is_struct, pods_inside, event_of}
use Rattle.spa_events.specs.Inside.{HoldsPods, key_size}
use Rattle.spa_events.specs.Levels.{bytes_held, holds_pods, level_inside}
use Rattle.spa_events.specs.declared.event.Event.{Event}
use Rattle.spa_events.specs.declared.level.Level.{Level}

-- the words of a pod that stands behind k bytes
pub word_behind : (k : ℕ) (b : List ℕ) → extent_behind k b ≤ length b → word_at (drop k (take (extent_behind k b) b)) 4 ≡ word_at b (k + 4)
word_behind k b h = word_at-drop k 4 (take (extent_behind k b) b) ∙ word_at-take (extent_behind k b) (k + 4) b (omega arith)

pub size_behind : (k : ℕ) (b : List ℕ) → extent_behind k b ≤ length b → word_at (drop k (take (extent_behind k b) b)) 0 ≡ word_at b k
size_behind k b h =
    let e : k + 0 ≡ k = omega arith in
    word_at-drop k 0 (take (extent_behind k b) b) ∙ word_at-take (extent_behind k b) (k + 0) b (omega arith) ∙ ap (word_at b) e

-- the event of a pod behind k bytes has the words behind these
pub event_of-behind : (depth parent at k : ℕ) (b : List ℕ) → (type size : ℕ) → type ≡ word_at b (k + 4) → size ≡ word_at b k →
    record { type_ = type; size = size; depth = depth; at = at; parent = parent } ≡ event_of depth parent at (drop k b)
event_of-behind depth parent at k b type size et es =
    let e : k + 0 ≡ k = omega arith in
    let t = et ∙ sym (word_at-drop k 4 b) in
    let s = es ∙ ap (word_at b) (sym e) ∙ sym (word_at-drop k 0 b) in
    let make : ℕ → ℕ → Event = λ x y. record { type_ = x; size = y; depth = depth; at = at; parent = parent } in
    ap (λ x. make x size) t ∙ ap (λ y. make (word_at (drop k b) 4) y) s

-- the front of a part of an input
pub drop_part : (n : ℕ) (from to : ℕ) (input : List ℕ) → from + n ≤ to →
    drop n (take (to - from) (drop from input)) ≡ take (to - (from + n)) (drop (from + n) input)
drop_part n from to input h =
    let e : to - from ≡ n + (to - (from + n)) = omega arith in
    ap (λ m. drop n (take m (drop from input))) e
    ∙ drop-take n (to - (from + n)) (drop from input)
    ∙ ap (take (to - (from + n))) (drop-drop n from input)

-- the body of a pod that stands behind k bytes of a part of an input, taken from the input
pub body_placed : (k from to : ℕ) (input : List ℕ) (s : ℕ) → let b = take (to - from) (drop from input) in
    extent_behind k b ≤ length b → s ≡ word_at (drop k (take (extent_behind k b) b)) 0 → from ≤ to →
    body_of (drop k (take (extent_behind k b) b)) ≡ take s (drop (from + k + 8) input)
body_placed k from to input s h es o =
    let b = take (to - from) (drop from input) in
    let n = extent_behind k b in
    let z = size_behind k b h in
    let m = n - (k + 8) in
    let r = to - (from + (k + 8)) in
    let l = length-take (to - from) (drop from input) in
    let en : n ≡ (k + 8) + m = omega arith in
    let ea : from + (k + 8) ≡ from + k + 8 = omega arith in
    ap (λ x. take x (drop 8 (drop k (take n b)))) (sym es)
    ∙ ap (take s) (drop-drop 8 k (take n b) ∙ ap (λ x. drop (k + 8) (take x b)) en ∙ drop-take (k + 8) m b
    ∙ ap (take m) (drop_part (k + 8) from to input (omega arith)))
    ∙ take-take s m (take r (drop (from + (k + 8)) input)) (omega arith)
    ∙ take-take s r (drop (from + (k + 8)) input) (omega arith)
    ∙ ap (λ x. take s (drop x input)) ea

-- what is inside a body that is taken from an input
pub inside_placed : (x y : Bool) (s a : ℕ) (body input : List ℕ) → (x ≡ true → y ≡ false) → (y ≡ true → 8 ≤ s) → body ≡ take s (drop a input) →
    (if x then walk body else (if y then property_walk (drop 8 body) else []))
    ≡ walk_behind (if y then 8 else 0)
    (take ((a + (if x then s else (if y then s else 0))) - (a + (if y then 8 else 0))) (drop (a + (if y then 8 else 0)) input))
inside_placed true true s a body input one room e = absurd (let f = one refl in cc)
inside_placed true false s a body input one room e =
    let d : s ≡ (a + s) - (a + 0) = omega arith in
    let z : a ≡ a + 0 = omega arith in
    ap walk (e ∙ ap (λ n. take n (drop a input)) d ∙ ap (λ n. take ((a + s) - (a + 0)) (drop n input)) z)
inside_placed false true s a body input one room e =
    let h = room refl in
    let t : s ≡ 8 + (s - 8) = omega arith in
    let d : s - 8 ≡ (a + s) - (a + 8) = omega arith in
    ap property_walk
    (ap (drop 8) (e ∙ ap (λ n. take n (drop a input)) t) ∙ drop-take 8 (s - 8) (drop a input)
    ∙ ap (take (s - 8)) (drop-drop 8 a input) ∙ ap (λ n. take n (drop (a + 8) input)) d)
inside_placed false false s a body input one room e =
    let d : 0 ≡ (a + 0) - (a + 0) = omega arith in
    sym (ap (λ n. walk_behind 0 (take n (drop (a + 0) input))) (sym d) ∙ walk_behind-end 0 [] (omega arith))

-- a pod that holds pods, and one that doesn't
pub holds_some : (type size : ℕ) (keyed : Bool) → HoldsPods type size keyed →
    (holds_pods type size ≡ true) × (bytes_before type size ≡ key_size keyed) × (bytes_held type size ≡ size)
holds_some type size false t =
    subst (λ n. (holds_pods n size ≡ true) × (bytes_before n size ≡ 0) × (bytes_held n size ≡ size)) (sym t) (refl, refl, refl)
holds_some type size true o =
    let e : is_object 15 size ≡ true = le-leb 8 size o.1 in
    subst (λ n. (holds_pods n size ≡ true) × (bytes_before n size ≡ 8) × (bytes_held n size ≡ size)) (sym o.0)
    (e, ap (λ b. let n : ℕ = if b then 8 else 0 in n) e, ap (λ b. let n : ℕ = if b then size else 0 in n) e)

pub not_object : (type size : ℕ) → (type ≡ object_type → size < 8) → is_object type size ≡ false
not_object type size f = elim (eqb_tells type 15) [
  | inl t ↦ elim (leb_tells 8 size) [
    | inl l ↦ absurd (let a = f t.1 in let b = l.1 in omega arith)
    | inr l ↦ ap (λ b. cond b (nat_le 8 size) false) t.0 ∙ l.0
  ]
  | inr t ↦ ap (λ b. cond b (nat_le 8 size) false) t.0
]

pub holds_none : (type size : ℕ) → ((keyed : Bool) → ¬ (HoldsPods type size keyed)) →
    (holds_pods type size ≡ false) × (bytes_before type size ≡ 0) × (bytes_held type size ≡ 0)
holds_none type size n =
    let s : is_struct type ≡ false = ne_eqb type 14 (n false) in
    let o : is_object type size ≡ false =
    not_object type size (λ t. elim (cases_lt size 8) [
      | inl l ↦ l
      | inr l ↦ absurd (n true (t, l))
    ]) in (
      ap (λ b. cond b true (is_object type size)) s ∙ o,
      ap (λ b. let n : ℕ = if b then 8 else 0 in n) o,
      ap (λ b. let n : ℕ = if b then size else (if is_object type size then size else 0) in n) s ∙ ap (λ b. let n : ℕ = if b then size else 0 in n) o,
    )

-- the level inside a pod, by how many bytes are before each and how many are those of pods
pub level_is : (index before held : ℕ) (e : Event) → before ≡ bytes_before e.type_ e.size → held ≡ bytes_held e.type_ e.size →
    (let l : Level = record { at = e.at + 8 + before; end = e.at + 8 + held; before = before; depth = e.depth + 1; parent = index } in l) ≡ level_inside index e
level_is index before held e b h =
    ap (λ n. let l : Level = record { at = e.at + 8 + n; end = e.at + 8 + held; before = n; depth = e.depth + 1; parent = index } in l) b
    ∙ ap (λ n. let l : Level = record { at = e.at + 8 + bytes_before e.type_ e.size; end = e.at + 8 + n; before = bytes_before e.type_ e.size; depth = e.depth + 1; parent = index } in l) h

-- no pod is a struct and an object, and an object has room for its type and id
pub not_both : (t s : ℕ) → is_struct t ≡ true → is_object t s ≡ false
not_both t s h =
    let e : t ≡ 14 = eqb-true t 14 h in
    ap (λ x. cond (nat_eq x 15) (nat_le 8 s) false) e

no_object : (x : Bool) → cond x false false ≡ true → ⊥
no_object true h = cc
no_object false h = cc

pub object_room : (t s : ℕ) → is_object t s ≡ true → 8 ≤ s
object_room t s h =
    elim (leb_tells 8 s) [
      | inl p ↦ p.1
      | inr p ↦ absurd (let f = ap (λ x. cond (nat_eq t 15) x false) p.0 in no_object (nat_eq t 15) (sym f ∙ h))
    ]

-- the pods inside one that stands behind k bytes of a part of an input
pub pods_placed : (k from to : ℕ) (input : List ℕ) (t s : ℕ) → let b = take (to - from) (drop from input) in
    extent_behind k b ≤ length b → from ≤ to →
    t ≡ word_at (drop k (take (extent_behind k b) b)) 4 → s ≡ word_at (drop k (take (extent_behind k b) b)) 0 →
    pods_inside (drop k (take (extent_behind k b) b))
    ≡ walk_behind (bytes_before t s) (take ((from + k + 8 + bytes_held t s) - (from + k + 8 + bytes_before t s)) (drop (from + k + 8 + bytes_before t s) input))
pods_placed k from to input t s h o et es =
    let b = take (to - from) (drop from input) in
    let pod = drop k (take (extent_behind k b) b) in
    ap (λ x. if is_struct x then walk (body_of pod) else (if is_object x (word_at pod 0) then property_walk (properties_of pod) else [])) (sym et)
    ∙ ap (λ x. if is_struct t then walk (body_of pod) else (if is_object t x then property_walk (properties_of pod) else [])) (sym es)
    ∙ inside_placed (is_struct t) (is_object t s) s (from + k + 8) (body_of pod) input (not_both t s) (object_room t s) (body_placed k from to input s h es o)
