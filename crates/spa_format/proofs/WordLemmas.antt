-- Laws of words.
use Rattle.std.proofs.Common.{◌≡◌, ℕ, ◌+◌, ◌<◌, ◌≤◌, ◌^◌, List, [], ◌++◌, length, take, drop, get_or, refl, sym, ap, ◌∙◌, arith, length-take}
use Rattle.std.proofs.lemmas.List.{get_or-take, get_or-drop, get_or_append_left, drop_at, append-nil, get_or_past}
use Rattle.std.proofs.lemmas.Bool.{cases_lt}
use Rattle.std.proofs.Common.{inl, inr}
use Rattle.std.proofs.lemmas.Nat.{from_le_bytes-to_le_bytes_4, from_le_bytes-to_le_bytes_8}
use Rattle.std.specs.Int.{w32, w64, from_le_bytes}
use Rattle.spa_format.specs.Words.{word_at, word_bytes, wide_at, wide_bytes}
use Rattle.spa_format.specs.Typed.{IsBytes}

pub word_is : (b : List ℕ) (i : ℕ) → word_at b i ≡ from_le_bytes w32 (drop i b)
unfolding word_at
word_is b i = refl

-- two lists with the same four bytes there
pub same_word : (a b : List ℕ) (i j : ℕ) → ((k : ℕ) → k < 4 → get_or a (i + k) 0 ≡ get_or b (j + k) 0) → word_at a i ≡ word_at b j
unfolding word_at
same_word a b i j h =
    let at : (k : ℕ) → k < 4 → get_or (drop i a) k 0 ≡ get_or (drop j b) k 0 = λ k l. get_or-drop i a k 0 ∙ h k l ∙ sym (get_or-drop j b k 0) in
    let e0 = at 0 (omega arith) in
    let e1 = at 1 (omega arith) in
    let e2 = at 2 (omega arith) in
    let e3 = at 3 (omega arith) in
    cc

pub word_at-take : (n i : ℕ) (b : List ℕ) → i + 4 ≤ n → word_at (take n b) i ≡ word_at b i
word_at-take n i b h = same_word (take n b) b i i (λ k l. get_or-take n b (i + k) 0 (omega arith))

pub word_at-append : (a b : List ℕ) (i : ℕ) → i + 4 ≤ length a → word_at (a ++ b) i ≡ word_at a i
word_at-append a b i h = same_word (a ++ b) a i i (λ k l. get_or_append_left a b 0 (i + k) (omega arith))

pub word_at-drop : (n i : ℕ) (b : List ℕ) → word_at (drop n b) i ≡ word_at b (n + i)
word_at-drop n i b = same_word (drop n b) b i (n + i) (λ k l. get_or-drop n b (i + k) 0 ∙ ap (λ m. get_or b m 0) (omega arith))

pub length-word_bytes : (n : ℕ) → length (word_bytes n) ≡ 4
unfolding word_bytes
length-word_bytes n = refl

pub word_at-word_bytes : (n : ℕ) → n < 2 ^ 32 → word_at (word_bytes n) 0 ≡ n
unfolding word_at word_bytes
word_at-word_bytes n h = from_le_bytes-to_le_bytes_4 n h

pub word_inside : (a b : List ℕ) (n i : ℕ) → length a ≡ i → n < 2 ^ 32 → word_at (a ++ (word_bytes n ++ b)) i ≡ n
word_inside a b n i e h =
    sym (ap (word_at (a ++ (word_bytes n ++ b))) (let z : i + 0 ≡ i = omega arith in z))
    ∙ sym (word_at-drop i 0 (a ++ (word_bytes n ++ b)))
    ∙ ap (λ l. word_at l 0) (drop_at a (word_bytes n ++ b) i e)
    ∙ word_at-append (word_bytes n) b 0 (let l = length-word_bytes n in omega arith)
    ∙ word_at-word_bytes n h

-- a word written at the end of bytes reads back as its number
pub word_last : (a : List ℕ) (n i : ℕ) → length a ≡ i → n < 2 ^ 32 → word_at (a ++ word_bytes n) i ≡ n
word_last a n i e h = ap (λ l. word_at (a ++ l) i) (sym (append-nil (word_bytes n))) ∙ word_inside a [] n i e h

-- laws of numbers of eight bytes
same_wide : (a b : List ℕ) (i j : ℕ) → ((k : ℕ) → k < 8 → get_or a (i + k) 0 ≡ get_or b (j + k) 0) → wide_at a i ≡ wide_at b j
unfolding wide_at
same_wide a b i j h =
    let at : (k : ℕ) → k < 8 → get_or (drop i a) k 0 ≡ get_or (drop j b) k 0 = λ k l. get_or-drop i a k 0 ∙ h k l ∙ sym (get_or-drop j b k 0) in
    let e0 = at 0 (omega arith) in
    let e1 = at 1 (omega arith) in
    let e2 = at 2 (omega arith) in
    let e3 = at 3 (omega arith) in
    let e4 = at 4 (omega arith) in
    let e5 = at 5 (omega arith) in
    let e6 = at 6 (omega arith) in
    let e7 = at 7 (omega arith) in
    cc

pub length-wide_bytes : (n : ℕ) → length (wide_bytes n) ≡ 8
unfolding wide_bytes
length-wide_bytes n = refl

pub wide_at-word_bytes : (n : ℕ) → n < 2 ^ 64 → wide_at (wide_bytes n) 0 ≡ n
unfolding wide_at wide_bytes
wide_at-word_bytes n h = from_le_bytes-to_le_bytes_8 n h

pub wide_at-drop : (n i : ℕ) (b : List ℕ) → wide_at (drop n b) i ≡ wide_at b (n + i)
wide_at-drop n i b = same_wide (drop n b) b i (n + i) (λ k l. get_or-drop n b (i + k) 0 ∙ ap (λ m. get_or b m 0) (omega arith))

pub wide_last : (a : List ℕ) (n i : ℕ) → length a ≡ i → n < 2 ^ 64 → wide_at (a ++ wide_bytes n) i ≡ n
wide_last a n i e h =
    sym (ap (wide_at (a ++ wide_bytes n)) (let z : i + 0 ≡ i = omega arith in z))
    ∙ sym (wide_at-drop i 0 (a ++ wide_bytes n))
    ∙ ap (λ l. wide_at l 0) (drop_at a (wide_bytes n) i e)
    ∙ wide_at-word_bytes n h

pub IsBytes-drop : (n : ℕ) (b : List ℕ) → IsBytes b → IsBytes (drop n b)
IsBytes-drop n b h i = rw get_or-drop (h (n + i))

pub IsBytes-take : (n : ℕ) (b : List ℕ) → IsBytes b → IsBytes (take n b)
IsBytes-take n b h i =
    elim (cases_lt i n) [
      | inl lt ↦ rw (get_or-take n b i 0 lt) (h i)
      | inr le ↦ rw (get_or_past (take n b) i 0 (omega (arith, length-take n b))) (omega arith)
    ]

four_fit : (b : List ℕ) → IsBytes b → from_le_bytes w32 b < 2 ^ 32
four_fit b h = omega (arith, h 0, h 1, h 2, h 3)

pub word_fits : (b : List ℕ) (i : ℕ) → IsBytes b → word_at b i < 2 ^ 32
word_fits b i h = rw (word_is b i) (four_fit (drop i b) (IsBytes-drop i b h))

eight_fit : (b : List ℕ) → IsBytes b → from_le_bytes w64 b < 2 ^ 64
eight_fit b h = omega (arith, h 0, h 1, h 2, h 3, h 4, h 5, h 6, h 7)

pub wide_fits : (b : List ℕ) (i : ℕ) → IsBytes b → wide_at b i < 2 ^ 64
unfolding wide_at
wide_fits b i h = eight_fit (drop i b) (IsBytes-drop i b h)
