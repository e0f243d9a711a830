-- Items that are put over an output, where they fit and where they don't.
use Rattle.std.proofs.Common.{◌≡◌, ℕ, ◌<◌, ◌≤◌, List, [], ◌∷◌, ◌++◌, length, take, drop, refl, sym, ap, subst, ◌∙◌, arith, length-take, length-drop}
use Rattle.std.specs.Prelude.{Bool, true, false, if◌then◌else◌}
use Rattle.spa_format.specs.Front.{HasFront, front_of}
use Rattle.spa_format.specs.Words.{extent, word_at}
use Rattle.spa_format.proofs.Fronts.{own_front}
use Rattle.spa_items.specs.Items.{head, items_of, overlaid}
use Rattle.spa_items.specs.declared.item.Item.{Item}
use Rattle.spa_view.specs.Settled.{child_place, holds_value, settled_bytes}
use Rattle.spav.specs.Items.{ArePast, AreRead, SaysItem, settled_at}

all_fit : (xs old : List Item) → length xs ≤ length old → overlaid xs old ≡ xs ++ drop (length xs) old
all_fit [] old h = refl
all_fit (x ∷ xs) [] h = absurd (omega arith)
all_fit (x ∷ xs) (o ∷ os) h = ap (λ z. x ∷ z) (all_fit xs os (omega arith))

first_fit : (xs old : List Item) → length old ≤ length xs → overlaid xs old ≡ take (length old) xs
first_fit [] [] h = refl
first_fit [] (o ∷ os) h = absurd (omega arith)
first_fit (x ∷ xs) [] h = refl
first_fit (x ∷ xs) (o ∷ os) h = ap (λ z. x ∷ z) (first_fit xs os (omega arith))

length_overlaid : (xs old : List Item) → length (overlaid xs old) ≡ length old
length_overlaid [] old = refl
length_overlaid (x ∷ xs) [] = refl
length_overlaid (x ∷ xs) (o ∷ os) = let e = length_overlaid xs os in omega arith

pub are_read : (input : List ℕ) (count : ℕ) (old new : List Item) → count ≡ length (items_of input) → new ≡ overlaid (items_of input) old → count ≤ length new →
    AreRead input count old new
are_read input count old new c n h =
    let l = ap length n ∙ length_overlaid (items_of input) old in
    record {
      counted = c;
      front = n ∙ all_fit (items_of input) old (omega arith) ∙ ap (λ k. items_of input ++ drop k old) (sym c);
    }

pub are_past : (input : List ℕ) (count : ℕ) (old new : List Item) → count ≡ length (items_of input) → new ≡ overlaid (items_of input) old → length new < count →
    ArePast input count new
are_past input count old new c n h =
    let l = ap length n ∙ length_overlaid (items_of input) old in
    record {
      counted = c;
      first = n ∙ first_fit (items_of input) old (omega arith) ∙ ap (λ k. take k (items_of input)) (sym l);
      more = h;
    }

-- where the value of a None choice begins

settled_choice : (x : Bool) (b : List ℕ) → 8 ≤ length b → length (if x then front_of (drop 16 b) else b) < length b → (if x then child_place else 0) ≡ child_place
settled_choice true b l h = refl
settled_choice false b l h = absurd (omega arith)

settled_itself : (x : Bool) (b : List ℕ) → 8 ≤ length b → length b ≤ length (if x then front_of (drop 16 b) else b) → (if x then child_place else 0) ≡ 0
settled_itself false b l h = refl
settled_itself true b l h =
    let t = length-take (extent (word_at (drop 16 b) 0)) (drop 16 b) in
    let d = length-drop 16 b in
    absurd (omega arith)

front_long : (input : List ℕ) → HasFront input → 8 ≤ length (front_of input)
front_long input f = let w = f.whole in let t = length-take (extent (word_at input 0)) input in omega arith

pub inside_choice : (input pod : List ℕ) → HasFront input → pod ≡ front_of input → length (settled_bytes pod) < length pod → child_place ≡ settled_at input
inside_choice input pod f e h =
    let g = subst (λ b. length (settled_bytes b) < length b) e h in
    sym (settled_choice (holds_value (front_of input)) (front_of input) (front_long input f) g)

pub at_front : (input pod : List ℕ) → HasFront input → pod ≡ front_of input → length pod ≤ length (settled_bytes pod) → 0 ≡ settled_at input
at_front input pod f e h =
    let g = subst (λ b. length b ≤ length (settled_bytes b)) e h in
    sym (settled_itself (holds_value (front_of input)) (front_of input) (front_long input f) g)

-- the item of a settled front
pub says_item : (input pod set bytes : List ℕ) (at : ℕ) (item : Item) → HasFront input → pod ≡ front_of input → set ≡ settled_bytes pod → bytes ≡ set →
    length bytes ≡ extent (word_at bytes 0) → at ≡ settled_at input → item ≡ head false 0 at (front_of bytes) → SaysItem input item
says_item input pod set bytes at item f ep es eb w ea ei = record {
  front = f;
  its_item =
      ei ∙ ap (head false 0 at) (own_front bytes w ∙ eb ∙ es ∙ ap settled_bytes ep)
      ∙ ap (λ n. head false 0 n (settled_bytes (front_of input))) ea;
}
