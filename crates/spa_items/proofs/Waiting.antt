-- Pods whose items are to come, once those in the container before them are listed.
use Rattle.std.proofs.Common.{◌≡◌, ℕ, ◌+◌, ◌-◌, ◌<◌, ◌≤◌, List, [], ◌∷◌, ◌++◌, length, take, reverse, ap, sym, ◌∙◌, arith, refl, subst, append_assoc, append-nil}
use Rattle.std.specs.Prelude.{false, get_or, set}
use Rattle.std.proofs.lemmas.List.{length-reverse, length-take-le, reverse-append, take_more, take_more_set}
use Rattle.spa_events.specs.declared.inside.Inside.{Inside}
use Rattle.spa_format.specs.Words.{padded_size}
use Rattle.spa_items.specs.Items.{items_in}
use Rattle.spa_items.specs.declared.item.Item.{Item}

-- The items that are to come of these, the innermost of which are first: they begin behind the padding of a body that ends at this byte.
abbrev pub waiting_items : (levels end : ℕ) → List Inside → List Item
waiting_items levels end [] = []
waiting_items levels end (l ∷ ls) =
    items_in (levels - length ls) (length ls) l.keyed (padded_size end) l.pods.now ++ waiting_items levels (padded_size end + length l.pods.now) ls

-- how many bytes they have, and one more each
abbrev pub left_waiting : List Inside → ℕ
left_waiting [] = 0
left_waiting (l ∷ ls) = left_waiting ls + (length l.pods.now + 1)

-- none ends behind so many bytes
abbrev pub AreWithin : (n end : ℕ) → List Inside → Type 0
AreWithin n end [] = end ≤ n
AreWithin n end (l ∷ ls) = (end ≤ n) × AreWithin n (padded_size end + length l.pods.now) ls

pub ends_within : (n end : ℕ) (ls : List Inside) → AreWithin n end ls → end ≤ n
ends_within n end [] w = w
ends_within n end (l ∷ ls) w = w.0

-- those that wait in an array, the innermost first
abbrev pub waiting_in : List Inside → ℕ → List Inside
waiting_in outer depth = reverse (take depth outer)

-- one more waits
pub pushed : (outer new : List Inside) (depth : ℕ) (next : Inside) → new ≡ set outer depth next → depth < length outer →
    waiting_in new (depth + 1) ≡ next ∷ waiting_in outer depth
pushed outer new depth next e l =
    ap (λ x. reverse (take (depth + 1) x)) e ∙ ap reverse (take_more_set outer depth next l) ∙ reverse-append (take depth outer) (next ∷ [])

-- one less
pub popped : (outer : List Inside) (depth fewer : ℕ) (other : Inside) → fewer + 1 ≡ depth → fewer < length outer →
    waiting_in outer depth ≡ get_or outer fewer other ∷ waiting_in outer fewer
popped outer depth fewer other e l =
    ap (λ n. reverse (take n outer)) (sym e) ∙ ap reverse (take_more outer fewer other l) ∙ reverse-append (take fewer outer) (get_or outer fewer other ∷ [])

-- as many wait as there are levels around
pub waiting_count : (outer : List Inside) (depth : ℕ) → depth ≤ length outer → length (waiting_in outer depth) ≡ depth
waiting_count outer depth l = length-reverse (take depth outer) ∙ length-take-le depth outer l

-- at first none waits
pub begin_waiting : (levels : ℕ) (pods : List ℕ) → items_in levels 0 false 0 pods ≡ items_in (levels - 0) 0 false 0 pods ++ []
begin_waiting levels pods =
    let e : levels ≡ levels - 0 = omega arith in
    ap (λ n. items_in n 0 false 0 pods) e ∙ sym (append-nil (items_in (levels - 0) 0 false 0 pods))

-- the items that are to come, once one more waits that begins at this byte
pub waits : (levels end at depth : ℕ) (outer : List Inside) (next : Inside) → padded_size end ≡ at → depth < length outer →
    waiting_items levels end (waiting_in (set outer depth next) (depth + 1))
    ≡ items_in (levels - depth) depth next.keyed at next.pods.now ++ waiting_items levels (at + length next.pods.now) (waiting_in outer depth)
waits levels end at depth outer next e l =
    ap (waiting_items levels end) (pushed outer (set outer depth next) depth next refl l)
    ∙ ap
    (λ n. items_in (levels - n) n next.keyed (padded_size end) next.pods.now
    ++ waiting_items levels (padded_size end + length next.pods.now) (waiting_in outer depth)) (waiting_count outer depth (omega arith))
    ∙ ap (λ x. items_in (levels - depth) depth next.keyed x next.pods.now ++ waiting_items levels (x + length next.pods.now) (waiting_in outer depth)) e

-- and one less
pub waited : (levels end depth fewer : ℕ) (outer : List Inside) (other : Inside) → fewer + 1 ≡ depth → fewer < length outer →
    let f = get_or outer fewer other in
    waiting_items levels end (waiting_in outer depth)
    ≡ items_in (levels - fewer) fewer f.keyed (padded_size end) f.pods.now
    ++ waiting_items levels (padded_size end + length f.pods.now) (waiting_in outer fewer)
waited levels end depth fewer outer other e l =
    let f = get_or outer fewer other in
    ap (waiting_items levels end) (popped outer depth fewer other e l)
    ∙ ap
    (λ n. items_in (levels - n) n f.keyed (padded_size end) f.pods.now
    ++ waiting_items levels (padded_size end + length f.pods.now) (waiting_in outer fewer)) (waiting_count outer fewer (omega arith))

-- those within these bytes, once one more waits that begins at this byte
pub within_more : (n end at : ℕ) (next : Inside) (ls : List Inside) → padded_size end ≡ at → AreWithin n (at + length next.pods.now) ls →
    AreWithin n end (next ∷ ls)
within_more n end at next ls e w =
    let h = ends_within n (at + length next.pods.now) ls w in
    (omega arith, subst (λ x. AreWithin n (x + length next.pods.now) ls) (sym e) w)

-- the items of the first pod are split from those behind it
pub split_first : (left first rest xs inner others : List Item) → left ≡ first ++ rest → first ≡ xs ++ inner →
    left ++ others ≡ xs ++ (inner ++ (rest ++ others))
split_first left first rest xs inner others e f =
    ap (λ l. l ++ others) (e ∙ ap (λ l. l ++ rest) f) ∙ append_assoc (xs ++ inner) rest others ∙ append_assoc xs inner (rest ++ others)
