-- Lists that are compared in parts.
use Rattle.std.proofs.Common.{◌≡◌, ℕ, ◌+◌, ◌<◌, List, [], ◌∷◌, length, take, drop, get_or, Bool, true, false, ◌&&◌, refl, sym, ap, ◌∙◌, arith, zero, suc}
use Rattle.std.proofs.Math.Bool.{and-true}
use Rattle.std.specs.Cmp.Lexicographic.{pointwise}

pub and-assoc : (a b c : Bool) → (a && (b && c)) ≡ ((a && b) && c)
and-assoc true b c = refl
and-assoc false b c = refl

module _ {A : Type 0} (E : A → A → Bool) where
  -- two lists are equal where their first elements are, and those behind them
  pub pointwise-parted : (n : ℕ) (xs ys : List A) →
      pointwise E xs ys ≡ (pointwise E (take n xs) (take n ys) && pointwise E (drop n xs) (drop n ys))
  pointwise-parted zero xs ys = refl
  pointwise-parted (suc n) [] [] = refl
  pointwise-parted (suc n) [] (y ∷ ys) = refl
  pointwise-parted (suc n) (x ∷ xs) [] = refl
  pointwise-parted (suc n) (x ∷ xs) (y ∷ ys) =
      ap (λ b. E x y && b) (pointwise-parted n xs ys)
      ∙ and-assoc (E x y) (pointwise E (take n xs) (take n ys)) (pointwise E (drop n xs) (drop n ys))

  more : (n : ℕ) (xs ys : List A) (x y : A) → n < length xs → n < length ys → x ≡ get_or xs n x → y ≡ get_or ys n y →
      (pointwise E (take n xs) (take n ys) && E x y) ≡ pointwise E (take (suc n) xs) (take (suc n) ys)
  more n [] ys x y l m e f = grind arith
  more n (a ∷ xs) [] x y l m e f = grind arith
  more zero (a ∷ xs) (b ∷ ys) x y l m e f = sym (and-true (E x y)) ∙ (λ i. E (e i) (f i) && true)
  more (suc n) (a ∷ xs) (b ∷ ys) x y l m e f =
      sym (and-assoc (E a b) (pointwise E (take n xs) (take n ys)) (E x y))
      ∙ ap (λ r. E a b && r) (more n xs ys x y (grind arith) (grind arith) e f)

  -- one more element of each
  pub pointwise-next : (n : ℕ) (xs ys : List A) (x y : A) → n < length xs → n < length ys →
      x ≡ get_or xs n x → y ≡ get_or ys n y →
      (pointwise E (take n xs) (take n ys) && E x y) ≡ pointwise E (take (n + 1) xs) (take (n + 1) ys)
  pointwise-next n xs ys x y l m e f =
      let next : suc n ≡ n + 1 = grind arith in
      more n xs ys x y l m e f ∙ ap (λ k. pointwise E (take k xs) (take k ys)) next
