-- The first pod of some, and what is behind so many bytes.
use Rattle.std.proofs.Common.{◌≡◌, ℕ, ◌+◌, ◌-◌, ◌≤◌, List, ◌++◌, length, drop, take, sym, ap, ◌∙◌, arith}
use Rattle.std.proofs.Math.Seq.{take-add}
use Rattle.std.proofs.lemmas.List.{drop-drop, drop_at, take_at}

pub take_past : (a b : List ℕ) (r m : ℕ) → length a ≡ r → take (r + m) (a ++ b) ≡ a ++ take m b
take_past a b r m l = take-add r m (a ++ b) ∙ ap (λ x. x ++ take m (drop r (a ++ b))) (take_at a b r l) ∙ ap (λ x. a ++ take m x) (drop_at a b r l)

pub drop_past : (a b : List ℕ) (r m : ℕ) → length a ≡ r → drop (r + m) (a ++ b) ≡ drop m b
drop_past a b r m l = sym (drop-drop m r (a ++ b)) ∙ ap (drop m) (drop_at a b r l)

pub further_behind : (a b : List ℕ) (n m : ℕ) → n ≤ m → drop n a ≡ drop n b → drop m a ≡ drop m b
further_behind a b n m l e =
    let k : m ≡ n + (m - n) = omega arith in
    ap (λ i. drop i a) k ∙ sym (drop-drop (m - n) n a) ∙ ap (drop (m - n)) e ∙ drop-drop (m - n) n b ∙ ap (λ i. drop i b) (sym k)
