-- What a numeral says.
use Rattle.std.proofs.Common.{◌≡◌, ℕ, ◌<◌, ◌≤◌, ◌^◌, List, [], ◌∷◌, get_or, length, Bool, true, false, refl, arith, subst}
use Rattle.std.specs.Prelude.{ℤ, Some, None, nat_lt}
use Rattle.std.specs.Int.Signed.{mag}
use Rattle.std.specs.Str.{all_ascii_digits}
use Rattle.std.specs.Str.Parse.{IsNumeral, digits_value, signed_digits_value, without_leading_plus, without_leading_sign}
use Rattle.std.specs.Cmp.{first_so, second_so}
use Rattle.std.proofs.lemmas.Str.Parse.{IsNumeralModel, numerals_by_value, tells_all_ascii_digits, without_leading_plus_none}
use Rattle.std.proofs.lemmas.Bool.{ltb-true}
use Rattle.spa_text_read.specs.Numerals.{are_digits, number_where, unsigned_number, signed_number}

own : IsNumeralModel (λ ds. all_ascii_digits ds ≡ true) (digits_value 10)
own = numerals_by_value _ tells_all_ascii_digits

abbrev where_not : {A : Type 0} (b : Bool) (n : A) → (b ≡ true → ⊥) → number_where b n ≡ None
where_not true n h = absurd (h refl)
where_not false n h = refl

are_digits-numeral : (s : List ℕ) → are_digits s ≡ true → IsNumeral 10 s
are_digits-numeral s h =
    (ltb-true 0 (length s) (first_so (nat_lt 0 (length s)) (all_ascii_digits s) h), own.to s (second_so (nat_lt 0 (length s)) (all_ascii_digits s) h))

numeral-are_digits : (s : List ℕ) → IsNumeral 10 s → are_digits s ≡ true
numeral-are_digits s h =
    let d = own.from s h.1 in
    let l : nat_lt 0 (length s) ≡ true = grind (arith, h.0) in
    grind (arith, d, l)

pub unsigned_some : (s : List ℕ) (n : ℕ) → IsNumeral 10 (without_leading_plus s) → n ≡ digits_value 10 (without_leading_plus s) → n < 2 ^ 32 → unsigned_number s ≡ Some n
unfolding unsigned_number
unsigned_some s n h e l =
    let d = numeral-are_digits (without_leading_plus s) h in
    let b : nat_lt (digits_value 10 (without_leading_plus s)) (2 ^ 32) ≡ true = grind (arith, l, e) in
    rw (d, b, e)

pub unsigned_none : (s : List ℕ) → (IsNumeral 10 (without_leading_plus s) → digits_value 10 (without_leading_plus s) < 2 ^ 32 → ⊥) → unsigned_number s ≡ None
unfolding unsigned_number
unsigned_none s h =
    where_not _ _ (λ b. h (are_digits-numeral _ (first_so _ _ b)) (ltb-true _ _ (second_so (are_digits (without_leading_plus s)) _ b)))

above_digits : (x : ℕ) (xs : List ℕ) → 57 < x → IsNumeral 10 (x ∷ xs) → ⊥
above_digits x xs above h =
    let p = tells_all_ascii_digits.parts x xs (own.from (x ∷ xs) h.1) in
    let below = p.0.1 in omega (arith, above, below)

-- a text that begins with a byte above the digits is no number
pub no_number : (s : List ℕ) → 1 ≤ length s → 57 < get_or s 0 0 → unsigned_number s ≡ None
no_number [] some above = absurd (omega (arith, some))
no_number (x ∷ xs) some above =
    let w = without_leading_plus_none (x ∷ xs) (λ e. omega (arith, above, e)) in
    unsigned_none (x ∷ xs) (λ h l. above_digits x xs above (subst (IsNumeral 10) w h))

pub signed_some : (k : ℕ) (s : List ℕ) (z : ℤ) → IsNumeral 10 (without_leading_sign s) → z ≡ signed_digits_value 10 s → mag z < 2 ^ k → signed_number k s ≡ Some z
unfolding signed_number
signed_some k s z h e l =
    let d = numeral-are_digits (without_leading_sign s) h in
    let m = subst (λ y. mag y < 2 ^ k) e l in
    let b : nat_lt (mag (signed_digits_value 10 s)) (2 ^ k) ≡ true = grind (arith, m) in
    rw (d, b, e)

pub signed_none : (k : ℕ) (s : List ℕ) → (IsNumeral 10 (without_leading_sign s) → mag (signed_digits_value 10 s) < 2 ^ k → ⊥) → signed_number k s ≡ None
unfolding signed_number
signed_none k s h =
    where_not _ _ (λ b. h (are_digits-numeral _ (first_so _ _ b)) (ltb-true _ _ (second_so (are_digits (without_leading_sign s)) _ b)))
