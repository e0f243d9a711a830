-- Items that are put behind one another.
use Rattle.std.proofs.Common.{◌≡◌, ℕ, zero, suc, ◌+◌, ◌<◌, ◌≤◌, List, [], ◌∷◌, ◌++◌, length, refl, sym, ap, subst, ◌∙◌, arith, length-append, append_assoc, append-nil}
use Rattle.std.specs.Prelude.{slice_set}
use Rattle.spa_items.specs.Items.{overlaid}
use Rattle.spa_items.specs.Puts.{ArePut, put_from}
use Rattle.spa_items.specs.declared.item.Item.{Item}

overlaid_chain : (xs ys old : List Item) → put_from (length xs) ys (overlaid xs old) ≡ overlaid (xs ++ ys) old
overlaid_chain [] ys old = refl
overlaid_chain (x ∷ xs) ys [] = refl
overlaid_chain (x ∷ xs) ys (o ∷ os) = ap (λ z. x ∷ z) (overlaid_chain xs ys os)

chain : (n : ℕ) (xs ys old : List Item) → put_from (n + length xs) ys (put_from n xs old) ≡ put_from n (xs ++ ys) old
chain zero xs ys old =
    let e : 0 + length xs ≡ length xs = omega arith in
    ap (λ m. put_from m ys (overlaid xs old)) e ∙ overlaid_chain xs ys old
chain (suc n) xs ys [] =
    let e : suc n + length xs ≡ suc (n + length xs) = omega arith in
    ap (λ m. put_from m ys []) e
chain (suc n) xs ys (o ∷ os) =
    let e : suc n + length xs ≡ suc (n + length xs) = omega arith in
    ap (λ m. put_from m ys (o ∷ put_from n xs os)) e ∙ ap (λ z. o ∷ z) (chain n xs ys os)

-- no item is put
put_nothing : (n : ℕ) (old : List Item) → put_from n [] old ≡ old
put_nothing zero old = refl
put_nothing (suc n) [] = refl
put_nothing (suc n) (o ∷ os) = ap (λ z. o ∷ z) (put_nothing n os)

pub none_put : (n : ℕ) (old : List Item) → ArePut n [] old n old
none_put n old = record { counted = omega arith; written = sym (put_nothing n old) }

-- one item
one_there : (n : ℕ) (x : Item) (old : List Item) → n < length old → slice_set old n x ≡ put_from n (x ∷ []) old
one_there n x [] h = absurd (omega arith)
one_there zero x (o ∷ os) h = refl
one_there (suc n) x (o ∷ os) h = ap (λ z. o ∷ z) (one_there n x os (omega arith))

one_behind : (n : ℕ) (x : Item) (old : List Item) → length old ≤ n → old ≡ put_from n (x ∷ []) old
one_behind zero x [] h = refl
one_behind (suc n) x [] h = refl
one_behind zero x (o ∷ os) h = absurd (omega arith)
one_behind (suc n) x (o ∷ os) h = ap (λ z. o ∷ z) (one_behind n x os (omega arith))

pub one_put : (n : ℕ) (x : Item) (old : List Item) → n < length old → ArePut n (x ∷ []) old (n + 1) (slice_set old n x)
one_put n x old h = record { counted = omega arith; written = one_there n x old h }

pub one_missed : (n : ℕ) (x : Item) (old : List Item) → length old ≤ n → ArePut n (x ∷ []) old (n + 1) old
one_missed n x old h = record { counted = omega arith; written = one_behind n x old h }

-- items, and others behind them
pub both_put : (n k m : ℕ) (xs ys old mid new : List Item) → ArePut n xs old k mid → ArePut k ys mid m new → ArePut n (xs ++ ys) old m new
both_put n k m xs ys old mid new a b =
    let l = length-append xs ys in
    let ca = a.counted in
    let cb = b.counted in
    record {
      counted = omega arith;
      written =
          b.written ∙ ap (λ z. put_from k ys z) a.written ∙ ap (λ j. put_from j ys (put_from n xs old)) ca
          ∙ chain n xs ys old;
    }

-- of these items the first are put, and these are left
pub record ArePutOf (place : ℕ) (all left old : List Item) (behind : ℕ) (new : List Item) : Type 0 where
  pub first : List Item
  pub put : ArePut place first old behind new
  pub split : all ≡ first ++ left

pub begun : (n : ℕ) (all old : List Item) → ArePutOf n all all old n old
begun n all old = record { first = []; put = none_put n old; split = refl }

pub more_put : (n k m : ℕ) (all xs left old mid new : List Item) → ArePutOf n all (xs ++ left) old k mid → ArePut k xs mid m new →
    ArePutOf n all left old m new
more_put n k m all xs left old mid new a b = record {
  first = a.first ++ xs;
  put = both_put n k m a.first xs old mid new a.put b;
  split = a.split ∙ sym (append_assoc a.first xs left);
}

pub all_put : (n m : ℕ) (all left old new : List Item) → ArePutOf n all left old m new → left ≡ [] → ArePut n all old m new
all_put n m all left old new a e =
    subst (λ z. ArePut n z old m new) (sym (a.split ∙ ap (λ z. a.first ++ z) e ∙ append-nil a.first)) a.put

-- equal items put are the same output
pub renamed : (n m : ℕ) (xs ys old new : List Item) → xs ≡ ys → ArePut n xs old m new → ArePut n ys old m new
renamed n m xs ys old new e a = subst (λ zs. ArePut n zs old m new) e a

pub left_renamed : (n m : ℕ) (all xs ys old new : List Item) → xs ≡ ys → ArePutOf n all xs old m new → ArePutOf n all ys old m new
left_renamed n m all xs ys old new e a = subst (λ zs. ArePutOf n all zs old m new) e a
