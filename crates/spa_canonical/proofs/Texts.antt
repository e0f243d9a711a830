-- Texts, character by character, and the zeros behind them.
use Rattle.std.proofs.Common.{◌≡◌, ℕ, ◌+◌, ◌*◌, ◌<◌, ◌≤◌, ◌-◌, ◌%◌, inl, inr, List, [], ◌∷◌, ◌++◌, length, take, drop, zero, suc, refl, sym, ap, ◌∙◌, subst, arith, length-append, length-drop}
use Rattle.std.specs.Prelude.{Contains, replicate, slice_index}
use Rattle.std.specs.Char.{IsScalar}
use Rattle.std.specs.Str.{IsAscii, IsUtf8}
use Rattle.std.proofs.Math.Utf8.{encode, low_scalar}
use Rattle.std.proofs.lemmas.Bool.{cases_lt}
use Rattle.std.proofs.lemmas.List.{drop_more, get_or-drop, get_or-take, get_or_past, get_or_push, length-take-le, take_at, take-append-drop}
use Rattle.std.proofs.lemmas.List.Elements.{Contains-append_cases, Contains-append_right}
use Rattle.std.proofs.lemmas.Str.{IsUtf8-append, IsUtf8-drop, IsUtf8-encode, IsUtf8-from_ascii, IsUtf8-past_char, IsCharBoundary-after_ascii}
use Rattle.spa_format.specs.Pod.{IsText}
use Rattle.spa_format.specs.Words.{padded_size}
use Rattle.spa_canonical.specs.Canonical.{AreTextAlike, EndsInZeros, HasZeros, IsAsciiByte, IsAsciiFor, IsCanonicalText}

-- a part without NUL that is UTF-8, in front of what is one exactly where all is
alike_behind : (first rest b : List ℕ) → b ≡ first ++ rest → IsUtf8 first → ¬ (Contains first 0) → (IsUtf8 b →
    IsUtf8 rest) → AreTextAlike rest b
alike_behind first rest b e u n back = (
  λ t.
      record {
        utf8 = subst IsUtf8 (sym e) (IsUtf8-append first rest u t.utf8);
        no_nul = λ c.
            elim (Contains-append_cases first rest 0 (subst (λ y. Contains y 0) e c)) [
              | inl l ↦ n l
              | inr r ↦ t.no_nul r
            ];
      },
  λ t.
      record {
        utf8 = back t.utf8;
        no_nul = λ c. t.no_nul (subst (λ y. Contains y 0) (sym e) (Contains-append_right first rest 0 c));
      },
)

-- behind ASCII bytes other than NUL
pub alike_ascii : (n : ℕ) (b : List ℕ) → 0 < n → n ≤ length b → IsAsciiFor n b → AreTextAlike (drop n b) b
alike_ascii n b p l h =
    let first = take n b in
    let long : length first ≡ n = length-take-le n b l in
    let at : (i : ℕ) → i < n → IsAsciiByte (slice_index first i) = λ i lt. subst IsAsciiByte (sym (get_or-take n b i 0 lt)) (h i lt) in
    let ascii : IsAscii first = λ i. elim (cases_lt i n) [
      | inl lt ↦ (at i lt).1
      | inr ge ↦ rw (get_or_past first i 0 (omega arith)) (omega arith)
    ] in
    let none : ¬ (Contains first 0) = λ c. let q = (at c.0 (omega (arith, c.1))).0 in let z = c.2 in omega arith in
    let end : n - 1 + 1 ≡ n = omega arith in
    let last = h (n - 1) (omega arith) in
    alike_behind first (drop n b) b (sym (take-append-drop n b)) (IsUtf8-from_ascii first ascii) none
    (λ u. subst (λ m. IsUtf8 (drop m b)) end (IsUtf8-drop b (n - 1 + 1) u (IsCharBoundary-after_ascii b (n - 1) u (omega arith) last.1)))

pub alike_first : (x : ℕ) (rest b : List ℕ) → b ≡ x ∷ rest → IsAsciiByte x → AreTextAlike rest b
alike_first x rest b e h =
    let some : 0 < length b = let l = ap length e in omega arith in
    let first : slice_index b 0 ≡ x = ap (λ y. slice_index y 0) e in
    let one : IsAsciiFor 1 b = λ i l. let z : i ≡ 0 = omega arith in subst IsAsciiByte (sym (ap (slice_index b) z ∙ first)) h in
    subst (λ y. AreTextAlike y b) (ap (drop 1) e) (alike_ascii 1 b (omega arith) some one)

-- behind a character of several bytes
alike_character : (c : ℕ) (xs rest b : List ℕ) → IsScalar c → encode c ≡ xs → ¬ (Contains xs 0) →
    b ≡ xs ++ rest → AreTextAlike rest b
alike_character c xs rest b s e n d =
    let same : b ≡ encode c ++ rest = d ∙ ap (λ y. y ++ rest) (sym e) in
    alike_behind xs rest b d (subst IsUtf8 e (IsUtf8-encode c s)) n (λ u. IsUtf8-past_char b rest c u same)

encode_two : (x y : ℕ) → 194 ≤ x → x < 224 → 128 ≤ y → y < 192 → encode ((x - 192) * 64 + (y - 128)) ≡ x ∷ y ∷ []
unfolding encode
encode_two x y a b c d = grind arith

encode_three : (x y z : ℕ) → 225 ≤ x → x < 237 → 128 ≤ y → y < 192 → 128 ≤ z → z < 192 →
    encode ((x - 224) * 4096 + (y - 128) * 64 + (z - 128)) ≡ x ∷ y ∷ z ∷ []
unfolding encode
encode_three x y z a b c d e f = grind arith

none_of_two : (x y : ℕ) → 0 < x → 0 < y → ¬ (Contains (x ∷ y ∷ []) 0)
none_of_two x y p q (zero, l, e) = omega arith
none_of_two x y p q (suc zero, l, e) = omega arith
none_of_two x y p q (suc (suc i), l, e) = omega arith

none_of_three : (x y z : ℕ) → 0 < x → 0 < y → 0 < z → ¬ (Contains (x ∷ y ∷ z ∷ []) 0)
none_of_three x y z p q r (zero, l, e) = omega arith
none_of_three x y z p q r (suc zero, l, e) = omega arith
none_of_three x y z p q r (suc (suc zero), l, e) = omega arith
none_of_three x y z p q r (suc (suc (suc i)), l, e) = omega arith

first_two : (b : List ℕ) → 2 ≤ length b → b ≡ slice_index b 0 ∷ slice_index b 1 ∷ drop 2 b
first_two b l = drop_more b 0 0 (omega arith) ∙ ap (λ y. slice_index b 0 ∷ y) (drop_more b 1 0 (omega arith))

-- behind a character of two bytes, and of three
pub alike_two : (b : List ℕ) → 2 ≤ length b → 194 ≤ slice_index b 0 → slice_index b 0 < 224 →
    128 ≤ slice_index b 1 → slice_index b 1 < 192 → AreTextAlike (drop 2 b) b
alike_two b l p q r s =
    let x = slice_index b 0 in
    let y = slice_index b 1 in
    let c = (x - 192) * 64 + (y - 128) in
    alike_character c (x ∷ y ∷ []) (drop 2 b) b (low_scalar c (omega arith)) (encode_two x y p q r s) (none_of_two x y (omega arith) (omega arith)) (first_two b l)

pub alike_three : (b : List ℕ) → 3 ≤ length b → 225 ≤ slice_index b 0 → slice_index b 0 < 237 →
    128 ≤ slice_index b 1 → slice_index b 1 < 192 →
    128 ≤ slice_index b 2 → slice_index b 2 < 192 → AreTextAlike (drop 3 b) b
alike_three b l p q r s t u =
    let x = slice_index b 0 in
    let y = slice_index b 1 in
    let z = slice_index b 2 in
    let c = (x - 224) * 4096 + (y - 128) * 64 + (z - 128) in
    alike_character c (x ∷ y ∷ z ∷ []) (drop 3 b) b (low_scalar c (omega arith)) (encode_three x y z p q r s t u)
    (none_of_three x y z (omega arith) (omega arith) (omega arith))
    (first_two b (omega arith) ∙ ap (λ w. x ∷ y ∷ w) (drop_more b 2 0 (omega arith)))

-- one behind another
pub alike_through : (a b c : List ℕ) → AreTextAlike a b → AreTextAlike b c → AreTextAlike a c
alike_through a b c f g = (λ t. g.0 (f.0 t), λ t. f.1 (g.1 t))

-- nothing is a text
pub no_text : (b : List ℕ) → length b ≡ 0 → IsText b
no_text b e = record {
  utf8 = IsUtf8-from_ascii b (λ i. rw (get_or_past b i 0 (omega arith)) (omega arith));
  no_nul = λ c. let l = c.1 in omega arith;
}

pub ascii_text : (text : List ℕ) → IsAsciiFor (length text) text → IsText text
ascii_text text h =
    elim (cases_lt 0 (length text)) [
      | inl some ↦
          let e = length-drop (length text) text in
          (alike_ascii (length text) text some (omega arith) h).0 (no_text (drop (length text) text) (omega arith))
      | inr none ↦ no_text text (omega arith)
    ]

-- the texts of two bodies that are the same
pub its_text : (body text : List ℕ) (last : ℕ) → body ≡ text ++ last ∷ [] → IsCanonicalText body →
    IsText text × (last ≡ 0)
its_text body text last e t =
    let same : text ++ last ∷ [] ≡ t.0 ++ 0 ∷ [] = sym e ∙ t.2 in
    let n = ap length same in
    let l0 = length-append text (last ∷ []) in
    let l1 = length-append t.0 (0 ∷ []) in
    let size : length text ≡ length t.0 = omega arith in
    let texts : t.0 ≡ text = sym (take_at t.0 (0 ∷ []) (length text) (sym size)) ∙ sym (ap (take (length text)) same) ∙ take_at text (last ∷ []) (length text) refl in (
      subst IsText texts t.1,
      sym (get_or_push text last 0 (length text) refl) ∙ ap (λ y. slice_index y (length text)) same ∙ get_or_push t.0 0 0 (length text) (sym size),
    )

-- the eight bytes at whose end a body ends, or that follow it: the last byte of the body is in them
pub record IsEndOf (behind body text : List ℕ) (last : ℕ) : Type 0 where
  pub count : 8 - length text % 8 ≡ suc (padded_size (length body) - length body)
  pub there : drop (length text) behind ≡ last ∷ drop (length body) behind

pub end_of : (behind body text : List ℕ) (last : ℕ) → body ≡ text ++ last ∷ [] →
    body ≡ take (length body) behind → padded_size (length body) ≤ length behind → IsEndOf behind body text last
end_of behind body text last e f room =
    let n = length text in
    let l = ap length e in
    let l0 = length-append text (last ∷ []) in
    let size : length body ≡ n + 1 = omega arith in
    let inside : slice_index behind n ≡ last =
    sym (get_or-take (length body) behind n 0 (omega arith)) ∙ ap (λ y. slice_index y n) (sym f ∙ e) ∙ get_or_push text last 0 n refl in
    record {
      count = omega arith;
      there = drop_more behind n 0 (omega arith) ∙ ap (λ x. x ∷ drop (n + 1) behind) inside ∙ ap (λ m. last ∷ drop m behind) (sym size);
    }

pub zeros_behind_text : (behind body text : List ℕ) (last : ℕ) → IsEndOf behind body text last →
    EndsInZeros behind (length text) → (last ≡ 0) × HasZeros behind (length body)
zeros_behind_text behind body text last s z =
    let k = padded_size (length body) - length body in
    let same : last ∷ take k (drop (length body) behind) ≡ 0 ∷ replicate k 0 =
    sym (ap (take (suc k)) s.there) ∙ sym (ap (λ m. take m (drop (length text) behind)) s.count) ∙ z ∙ ap (λ m. replicate m 0) s.count in
    (ap (λ y. slice_index y 0) same, ap (drop 1) same)

pub text_ends_in_zeros : (behind body text : List ℕ) (last : ℕ) → IsEndOf behind body text last → last ≡ 0 →
    HasZeros behind (length body) → EndsInZeros behind (length text)
text_ends_in_zeros behind body text last s n z =
    let k = padded_size (length body) - length body in
    ap (λ m. take m (drop (length text) behind)) s.count ∙ ap (take (suc k)) s.there ∙ ap (λ x. x ∷ take k (drop (length body) behind)) n
    ∙ ap (λ y. 0 ∷ y) z ∙ sym (ap (λ m. replicate m 0) s.count)

-- the first ASCII bytes, and more of them that may begin among these
pub ascii_on : (k n m : ℕ) (b : List ℕ) → k ≤ n → IsAsciiFor n b → IsAsciiFor m (drop k b) → IsAsciiFor (k + m) b
ascii_on k n m b le first more = λ i h.
    elim (cases_lt i n) [
      | inl lt ↦ first i lt
      | inr ge ↦
          let place : k + (i - k) ≡ i = omega arith in
          subst IsAsciiByte (get_or-drop k b (i - k) 0 ∙ ap (slice_index b) place) (more (i - k) (omega arith))
    ]
