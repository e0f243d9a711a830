-- Numbers, read from the texts that are printed of them.
use Rattle.std.proofs.Common.{◌≡◌, ◌≢◌, ℕ, suc, ◌<◌, ◌^◌, List, [], ◌∷◌, ◌++◌, length, get_or, drop, true, false, cond, refl, sym, ap, subst, ◌∙◌, arith, rules, T, not}
use Rattle.std.specs.Prelude.{ℤ, pos, negsuc, neg_ℤ, Option, Some, None, codes, decimal, if◌then◌else◌, option_map, option_and_then}
use Rattle.std.specs.Fmt.{signed_decimal}
use Rattle.std.specs.Int.{w32, w64, from_be_bytes, to_be_bytes}
use Rattle.std.specs.Int.Signed.{mag}
use Rattle.std.specs.Int.RustNames.{from_bits, is_nan, to_bits}
use Rattle.std.specs.Float.{Float, Format, binary32, binary64, float_is_finite, nan, inf, fin}
use Rattle.std.specs.Float.Parse.{parse_float}
use Rattle.std.specs.Str.Parse.{IsNumeral, digits_value, signed_digits_value, starts_with_minus, without_leading_plus, without_leading_sign}
use Rattle.std.proofs.lemmas.Fmt.{decimal_is_IsNumeral}
use Rattle.std.proofs.lemmas.Nat.{from_be_bytes-to_be_bytes_4, from_be_bytes-to_be_bytes_8}
use Rattle.std.proofs.lemmas.Str.Parse.{digit_from_value, without_leading_plus_none}
use lib.Ieee.Bits.{to_bits-of_bits}
use Rattle.hex.specs.Hex.{IsBytes, decode_of, encode_lower, lower_digits}
use Rattle.hex.proofs.HexLemmas.{decode_of-encode_lower, decode_sized-twice, length-encode_with}
use Rattle.spa_text_read.specs.Numerals.{behind_0x, double_digits, finite_bits, float_digits, ok_of, signed_number, digit_bytes, unsigned_number, wide_bits, word_bits}
use Rattle.spa_text_read.proofs.Digits.{signed_some, unsigned_some}

first_is : (ds : List ℕ) → IsNumeral 10 ds → (get_or ds 0 0 ≢ 43) × (get_or ds 0 0 ≢ 45)
first_is [] h = absurd (omega (arith, h.0))
first_is (c ∷ cs) h = let d = digit_from_value c h.1.0 in (λ e. omega (arith, d), λ e. omega (arith, d))

-- ---- Digits

pub unsigned_number-decimal : (n : ℕ) → n < 2 ^ 32 → unsigned_number (decimal n) ≡ Some n
unsigned_number-decimal n h =
    let d = decimal_is_IsNumeral n (omega arith) in
    let same = without_leading_plus_none (decimal n) (first_is (decimal n) d.0).0 in
    unsigned_some (decimal n) n (subst (IsNumeral 10) (sym same) d.0) (sym (ap (digits_value 10) same ∙ d.1)) h

no_minus : (ds : List ℕ) → IsNumeral 10 ds → starts_with_minus ds ≡ false
no_minus ds h = let n = (first_is ds h).1 in grind (arith, n)

pub signed_number-decimal : (k : ℕ) (z : ℤ) → mag z < 2 ^ 63 → mag z < 2 ^ k → signed_number k (signed_decimal z) ≡ Some z
signed_number-decimal k (pos n) wide h =
    let ds = decimal n in
    let d = decimal_is_IsNumeral n (omega (arith, wide)) in
    let m = no_minus ds d.0 in
    let plain : without_leading_sign ds ≡ ds =
    ap (λ b. cond b (drop 1 ds) (without_leading_plus ds)) m ∙ without_leading_plus_none ds (first_is ds d.0).0 in
    let value : signed_digits_value 10 ds ≡ pos n =
    ap (λ b. cond b (neg_ℤ (pos (digits_value 10 (without_leading_sign ds)))) (pos (digits_value 10 (without_leading_sign ds)))) m
    ∙ ap (λ l. pos (digits_value 10 l)) plain ∙ ap pos d.1 in
    signed_some k ds (pos n) (subst (IsNumeral 10) (sym plain) d.0) (sym value) h
signed_number-decimal k (negsuc n) wide h =
    let d = decimal_is_IsNumeral (suc n) (omega (arith, wide)) in
    signed_some k (45 ∷ decimal (suc n)) (negsuc n) d.0 (sym (ap (λ m. neg_ℤ (pos m)) d.1)) h

-- ---- Floats

not_nan : (x : Float) → float_is_finite x ≡ true → T (not (is_nan x))
unfolding float_is_finite is_nan
not_nan nan h = cc
not_nan (inf s) h = tt
not_nan (fin s m e) h = tt

finite-bits : (f : Format) (x : Float) (b : ℕ) (o : Option Float) → o ≡ Some x → float_is_finite x ≡ true → to_bits f x ≡ b →
    option_and_then (finite_bits f) o ≡ Some b
finite-bits f x b o e h d =
    ap (option_and_then (finite_bits f)) e ∙ ap (λ t. if t then Some (to_bits f x) else None) h ∙ ap Some d

pub float_digits-bits : (s : List ℕ) (b : ℕ) → b < 2 ^ 32 → parse_float binary32 s ≡ Some (from_bits binary32 b) →
    float_is_finite (from_bits binary32 b) ≡ true → float_digits s ≡ Some b
unfolding float_digits from_bits
float_digits-bits s b l e h =
    finite-bits binary32 (from_bits binary32 b) b (parse_float binary32 s) e h (to_bits-of_bits binary32 b l (not_nan (from_bits binary32 b) h))

pub double_digits-bits : (s : List ℕ) (b : ℕ) → b < 2 ^ 64 → parse_float binary64 s ≡ Some (from_bits binary64 b) →
    float_is_finite (from_bits binary64 b) ≡ true → double_digits s ≡ Some b
unfolding double_digits from_bits
double_digits-bits s b l e h =
    finite-bits binary64 (from_bits binary64 b) b (parse_float binary64 s) e h (to_bits-of_bits binary64 b l (not_nan (from_bits binary64 b) h))

-- ---- Bits

digit_bytes-encode : (bs : List ℕ) (n : ℕ) → length bs ≡ n → IsBytes bs → digit_bytes n (Some (encode_lower bs)) ≡ Some bs
digit_bytes-encode bs n l h =
    let len = length-encode_with lower_digits bs in
    ap ok_of (decode_sized-twice (encode_lower bs) n (omega (arith, len, l)) ∙ decode_of-encode_lower bs h)

pub word_bits-text : (n : ℕ) → n < 2 ^ 32 → word_bits (codes "0x" ++ encode_lower (to_be_bytes w32 n)) ≡ Some n
unfolding word_bits behind_0x
word_bits-text n h =
    ap (option_map (from_be_bytes w32)) (digit_bytes-encode (to_be_bytes w32 n) 4 refl cells) ∙ ap Some (from_be_bytes-to_be_bytes_4 n h)
  where
    cells : IsBytes (to_be_bytes w32 n)
    cells i = search rules

pub wide_bits-text : (n : ℕ) → n < 2 ^ 64 → wide_bits (codes "0x" ++ encode_lower (to_be_bytes w64 n)) ≡ Some n
unfolding wide_bits behind_0x
wide_bits-text n h =
    ap (option_map (from_be_bytes w64)) (digit_bytes-encode (to_be_bytes w64 n) 8 refl cells) ∙ ap Some (from_be_bytes-to_be_bytes_8 n h)
  where
    cells : IsBytes (to_be_bytes w64 n)
    cells i = search rules

pub hex-bytes : (bs : List ℕ) → IsBytes bs → ok_of (decode_of (encode_lower bs)) ≡ Some bs
hex-bytes bs h = ap ok_of (decode_of-encode_lower bs h)
