-- Words that are written as they were read.
use Rattle.std.proofs.Common.{Fits, w8, append_assoc, ◌≡◌, ℕ, ◌+◌, ◌*◌, ◌<◌, ◌≤◌, ◌^◌, ◌-◌, ◌/◌, ◌%◌, List, ◌++◌, length, take, drop, zero, suc, refl, sym, ap, ◌∙◌, arith, length-drop}
use Rattle.std.specs.Prelude.{if◌then◌else◌, nat_lt, slice_index, replicate, ◌↔◌}
use Rattle.std.proofs.lemmas.List.{drop_at, drop-drop, drop-take, get_or-take, length-take-le, take-append-drop, take_all, nil_from_length}
use Rattle.std.proofs.lemmas.Nat.{le_bytes_4, le_bytes_8}
use Rattle.std.proofs.lemmas.Int.{of_z-to_z}
use Rattle.std.specs.Int.{w32, w64, from_le_bytes}
use Rattle.spa_format.specs.Words.{word_at, word_bytes, wide_at, wide_bytes}
use Rattle.spa_format.specs.Kind.{Kind, none_kind, bool_kind, id_kind, int_kind, long_kind, float_kind, double_kind, rectangle_kind, fraction_kind, fd_kind, body_size, content, fixed_body}
use Rattle.spa_format.specs.Typed.{IsBytes}
use Rattle.std.proofs.Math.Seq.{take-add}
use Rattle.spa_format.proofs.Encodings.{two_words_length}
use Rattle.spa_format.proofs.WordLemmas.{IsBytes-drop, IsBytes-take, word_at-take, word_at-drop, word_fits, wide_at-drop, wide_fits}
use Rattle.spa_canonical.specs.Canonical.{EndsInZeros, HasZeros}

-- what the type of a slice of bytes says
pub bytes_of : (b : List ℕ) → ((i : ℕ) → Fits w8 (slice_index b i)) → IsBytes b
bytes_of b f i = omega (arith, f i)

pub word_back : (b : List ℕ) → IsBytes b → length b ≡ 4 → word_bytes (word_at b 0) ≡ b
unfolding word_at word_bytes
word_back b h l = le_bytes_4 b (from_le_bytes w32 b) l h refl

pub wide_back : (b : List ℕ) → IsBytes b → length b ≡ 8 → wide_bytes (wide_at b 0) ≡ b
unfolding wide_at wide_bytes
wide_back b h l = le_bytes_8 b (from_le_bytes w64 b) l h refl

-- the four bytes at a place
pub word_there : (b : List ℕ) (i : ℕ) → IsBytes b → i + 4 ≤ length b → word_bytes (word_at b i) ≡ take 4 (drop i b)
word_there b i h l =
    let d = drop i b in
    let long : 4 ≤ length d = let e = length-drop i b in omega arith in
    let same : word_at (take 4 d) 0 ≡ word_at b i = word_at-take 4 0 d (omega arith) ∙ word_at-drop i 0 b ∙ ap (word_at b) (let z : i + 0 ≡ i = omega arith in z) in
    ap word_bytes (sym same) ∙ word_back (take 4 d) (IsBytes-take 4 d (IsBytes-drop i b h)) (length-take-le 4 d long)

-- the first eight bytes as two words, and what is behind them
pub two_words : (b : List ℕ) → IsBytes b → 8 ≤ length b → take 8 b ≡ word_bytes (word_at b 0) ++ word_bytes (word_at b 4)
two_words b h l =
    take-add 4 4 b ∙ ap (λ x. x ++ take 4 (drop 4 b)) (sym (word_there b 0 h (omega arith)))
    ∙ ap (λ x. word_bytes (word_at b 0) ++ x) (sym (word_there b 4 h (omega arith)))

pub two_words_back : (b : List ℕ) → IsBytes b → length b ≡ 8 → b ≡ word_bytes (word_at b 0) ++ word_bytes (word_at b 4)
two_words_back b h l = sym (take_all 8 b (omega arith)) ∙ two_words b h (omega arith)

pub two_words_then : (b rest : List ℕ) (x y : ℕ) → IsBytes b → 8 ≤ length b → word_at b 0 ≡ x → word_at b 4 ≡ y → drop 8 b ≡ rest →
    b ≡ word_bytes x ++ (word_bytes y ++ rest)
two_words_then b rest x y h l p q r =
    sym (take-append-drop 8 b) ∙ ap (λ z. z ++ drop 8 b) (two_words b h l) ∙ append_assoc (word_bytes (word_at b 0)) (word_bytes (word_at b 4)) (drop 8 b)
    ∙ ap (λ z. word_bytes z ++ (word_bytes (word_at b 4) ++ drop 8 b)) p ∙ ap (λ z. word_bytes x ++ (word_bytes z ++ drop 8 b)) q
    ∙ ap (λ z. word_bytes x ++ (word_bytes y ++ z)) r

pub behind_two_words : (b rest : List ℕ) (x y : ℕ) → b ≡ word_bytes x ++ (word_bytes y ++ rest) → drop 8 b ≡ rest
behind_two_words b rest x y e =
    ap (drop 8) (e ∙ sym (append_assoc (word_bytes x) (word_bytes y) rest)) ∙ drop_at (word_bytes x ++ word_bytes y) rest 8 (two_words_length x y)

truth : (n : ℕ) → n < 2 → (if nat_lt 0 n then 1 else 0) ≡ n
truth n h = grind arith

-- what a body of fixed size says is written as that body, but a truth value other than 0 and 1
pub content_kept : (k : Kind) (b : List ℕ) → IsBytes b → length b ≡ body_size k → (k ≡ bool_kind → word_at b 0 < 2) → b ≡ fixed_body (content k b)
content_kept none_kind b h l t = nil_from_length b l
content_kept bool_kind b h l t = sym (ap word_bytes (truth (word_at b 0) (t refl)) ∙ word_back b h l)
content_kept id_kind b h l t = sym (word_back b h l)
content_kept int_kind b h l t = sym (ap word_bytes (of_z-to_z w32 (word_at b 0) (word_fits b 0 h)) ∙ word_back b h l)
content_kept long_kind b h l t = sym (ap wide_bytes (of_z-to_z w64 (wide_at b 0) (wide_fits b 0 h)) ∙ wide_back b h l)
content_kept float_kind b h l t = sym (word_back b h l)
content_kept double_kind b h l t = sym (wide_back b h l)
content_kept rectangle_kind b h l t = two_words_back b h l
content_kept fraction_kind b h l t = two_words_back b h l
content_kept fd_kind b h l t = sym (ap wide_bytes (of_z-to_z w64 (wide_at b 0) (wide_fits b 0 h)) ∙ wide_back b h l)

-- a number is below a power of 256 exactly where it is written with zeros at its end
pub zeros_behind : (v r : ℕ) → r < 8 → v < 2 ^ 64 → (v / 2 ^ (8 * r) ≡ 0) ↔ (drop r (wide_bytes v) ≡ replicate (8 - r) 0)
unfolding wide_bytes
zeros_behind v zero h l = (λ z. grind arith, λ z. grind arith)
zeros_behind v (suc zero) h l = (λ z. grind arith, λ z. grind arith)
zeros_behind v (suc (suc zero)) h l = (λ z. grind arith, λ z. grind arith)
zeros_behind v (suc (suc (suc zero))) h l = (λ z. grind arith, λ z. grind arith)
zeros_behind v (suc (suc (suc (suc zero)))) h l = (λ z. grind arith, λ z. grind arith)
zeros_behind v (suc (suc (suc (suc (suc zero))))) h l = (λ z. grind arith, λ z. grind arith)
zeros_behind v (suc (suc (suc (suc (suc (suc zero)))))) h l = (λ z. grind arith, λ z. grind arith)
zeros_behind v (suc (suc (suc (suc (suc (suc (suc zero))))))) h l = (λ z. grind arith, λ z. grind arith)
zeros_behind v (suc (suc (suc (suc (suc (suc (suc (suc r)))))))) h l = absurd (omega arith)

pub wide_of_take : (c : List ℕ) → wide_at (take 8 c) 0 ≡ wide_at c 0
unfolding wide_at
wide_of_take c = grind (arith, get_or-take {A = ℕ})

-- the last eight bytes at their place
pub last_bytes : (b : List ℕ) (n at : ℕ) → at ≡ n / 8 * 8 → drop (n % 8) (take 8 (drop at b)) ≡ take (8 - n % 8) (drop n b)
last_bytes b n at e =
    let r = n % 8 in
    let eight : r + (8 - r) ≡ 8 = omega arith in
    ap (λ m. drop r (take m (drop at b))) (sym eight) ∙ drop-take r (8 - r) (drop at b)
    ∙ ap (take (8 - r)) (drop-drop r at b ∙ ap (λ m. drop m b) (let y : at + r ≡ n = omega arith in y))

pub last_word : (b : List ℕ) (at : ℕ) → wide_at (take 8 (drop at b)) 0 ≡ wide_at b at
last_word b at = wide_of_take (drop at b) ∙ wide_at-drop at 0 b ∙ ap (wide_at b) (let y : at + 0 ≡ at = omega arith in y)

-- the last eight bytes at their place end in zeros exactly where they are so small a number
pub last_zeros : (b : List ℕ) (n at : ℕ) → IsBytes b → at + 8 ≤ length b → at ≡ n / 8 * 8 → (wide_at b at / 2 ^ (8 * (n % 8)) ≡ 0) ↔ EndsInZeros b n
last_zeros b n at h l e =
    let r = n % 8 in
    let c = drop at b in
    let long : 8 ≤ length c = let d = length-drop at b in omega arith in
    let bytes = IsBytes-take 8 c (IsBytes-drop at b h) in
    let same : drop r (wide_bytes (wide_at b at)) ≡ take (8 - r) (drop n b) =
    ap (λ v. drop r (wide_bytes v)) (sym (last_word b at)) ∙ ap (drop r) (wide_back (take 8 c) bytes (length-take-le 8 c long)) ∙ last_bytes b n at e in
    let zeros = zeros_behind (wide_at b at) r (omega arith) (wide_fits b at h) in
    (λ z. sym same ∙ zeros.0 z, λ z. zeros.1 (same ∙ z))

-- four zeros behind a body of four bytes
pub zeros_of_word : (b : List ℕ) → IsBytes b → 16 ≤ length b → word_at b 12 ≡ 0 → HasZeros (drop 8 b) 4
unfolding word_bytes
zeros_of_word b h l z =
    ap (take 4) (drop-drop 4 8 b) ∙ sym (word_there b 12 h (omega arith)) ∙ ap word_bytes z
