-- Pieces of lists of bytes.
use Rattle.std.proofs.Common.{◌≡◌, ℕ, ◌+◌, ◌≤◌, List, [], ◌∷◌, ◌++◌, length, take, drop, refl, sym, ap, suc, ◌∙◌, arith, append_assoc, length-append, length-take, length-drop}
use Rattle.std.proofs.lemmas.List.{drop-append-le, length-take-le, take_at, take-append-drop, take-append-le}

-- all of the first list, and a beginning of the second
pub take_into : (xs ys zs : List ℕ) (n k : ℕ) → length xs ≡ n → k ≤ length ys →
    take (n + k) (xs ++ (ys ++ zs)) ≡ xs ++ take k ys
take_into [] ys zs n k e h =
    let f : n + k ≡ k = omega arith in
    ap (λ i. take i (ys ++ zs)) f ∙ take-append-le k ys zs h
take_into (x ∷ xs) ys zs n k e h =
    let f : n + k ≡ suc (length xs + k) = omega arith in
    ap (λ i. take i (x ∷ (xs ++ (ys ++ zs)))) f
    ∙ ap (λ l. x ∷ l) (take_into xs ys zs (length xs) k refl h)

-- some in the first ones are written over
pub take_over : (xs ys zs : List ℕ) (n at k : ℕ) → zs ≡ drop k xs → at + length ys ≡ k → k ≤ n →
    n ≤ length xs → take n (take at xs ++ (ys ++ zs)) ≡ take at (take n xs) ++
    (ys ++ drop k (take n xs))
take_over xs ys zs n at k z e h m =
    let a = take n xs in
    let b = drop n xs in
    let w : xs ≡ a ++ b = sym (take-append-drop n xs) in
    let la : length a ≡ n = length-take-le n xs m in
    let t : take at xs ≡ take at a = ap (take at) w ∙ take-append-le at a b (omega arith) in
    let d : drop k xs ≡ drop k a ++ b = ap (drop k) w ∙ drop-append-le k a b (omega arith) in
    let l0 = length-take at a in
    let l1 = length-append (take at a) (ys ++ drop k a) in
    let l2 = length-append ys (drop k a) in
    let l3 = length-drop k a in
    ap (λ l. take n (take at xs ++ (ys ++ l))) z
    ∙ ap (λ l. take n (l ++ (ys ++ drop k xs))) t
    ∙ ap (λ l. take n (take at a ++ (ys ++ l))) d
    ∙ ap (λ l. take n (take at a ++ l)) (sym (append_assoc ys (drop k a) b))
    ∙ ap (take n) (sym (append_assoc (take at a) (ys ++ drop k a) b))
    ∙ take_at (take at a ++ (ys ++ drop k a)) b n (omega arith)

-- so many are there as before
pub length-over : (xs ys zs : List ℕ) (at k : ℕ) → zs ≡ drop k xs → at + length ys ≡ k →
    k ≤ length xs → length (take at xs ++ (ys ++ zs)) ≡ length xs
length-over xs ys zs at k z e h =
    let l0 = length-take at xs in
    let l1 = length-append (take at xs) (ys ++ zs) in
    let l2 = length-append ys zs in
    let l3 = ap length z ∙ length-drop k xs in
    omega arith
