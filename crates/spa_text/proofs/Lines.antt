-- What is printed of tokens has no line feed.
use Rattle.std.proofs.Common.{◌≡◌, ◌≢◌, ℕ, zero, suc, ◌+◌, ◌<◌, Bool, true, false, cond, ◌&&◌, ◌||◌, ◌==◌, List, [], ◌∷◌, ◌++◌, drop, Option, Some, None, option_and_then, inl, inr, refl, sym, subst, ◌∙◌, arith, true≢false}
use Rattle.std.proofs.lemmas.Bool.{and_parts, cases_lt, cases_eq, eqb-true}
use Rattle.std.specs.Char.{is_ascii_digit}
use Rattle.std.specs.List.{prefix_len}
use Rattle.json.specs.Token.{Token}
use Rattle.json.specs.Word.{head, after_minus, after_digits, after_whole, after_fraction, after_sign, after_exponent, after_number}
use Rattle.json.specs.Print.{ArePrintableOrBad, IsNumber, IsPrintableOrBad, begins, ends, escape, escape_byte, print, print_from, quoted, separator, token_text}
use Rattle.json.proofs.Printed.Strings.{escape_byte_plain}
use Rattle.spa_text.specs.Line.{HasNoEnd}

no_end-append : (xs ys : List ℕ) → HasNoEnd xs → HasNoEnd ys → HasNoEnd (xs ++ ys)
no_end-append [] ys h k = k
no_end-append (x ∷ xs) ys h k = (h.0, no_end-append xs ys h.1 k)

-- ---- Numbers: each part that is taken has none

other_byte : (x c : ℕ) → c ≢ 10 → (x == c) ≡ true → x ≢ 10
other_byte x c d e f = d (sym (eqb-true x c e) ∙ f)

digit : (x : ℕ) → is_ascii_digit x ≡ true → x ≢ 10
digit x e f = true≢false (sym (subst (λ y. is_ascii_digit y ≡ true) f e))

one_digit : (b : Bool) (x n : ℕ) (xs : List ℕ) → (b ≡ true → x ≢ 10) → (HasNoEnd (drop n xs) → HasNoEnd xs) →
    HasNoEnd (drop (cond b (1 + n) 0) (x ∷ xs)) → HasNoEnd (x ∷ xs)
one_digit true x n xs d more h =
    let next : 1 + n ≡ suc n = omega arith in
    (d refl, more (subst (λ k. HasNoEnd (drop k (x ∷ xs))) next h))
one_digit false x n xs d more h = h

digits : (t : List ℕ) → HasNoEnd (drop (prefix_len is_ascii_digit t) t) → HasNoEnd t
digits [] h = tt
digits (x ∷ xs) h = one_digit (is_ascii_digit x) x (prefix_len is_ascii_digit xs) xs (digit x) (digits xs) h

given : (b : Bool) (l r : List ℕ) → cond b None (Some l) ≡ Some r → l ≡ r
given true l r e = cc
given false l r e = cc

before_digits : (t r : List ℕ) → after_digits t ≡ Some r → HasNoEnd r → HasNoEnd t
before_digits t r e h =
    digits t (subst HasNoEnd (sym (given (prefix_len is_ascii_digit t == 0) (drop (prefix_len is_ascii_digit t) t) r e)) h)

taken : (b : Bool) (t : List ℕ) → (b ≡ true → head t ≢ 10) → HasNoEnd (cond b (drop 1 t) t) → HasNoEnd t
taken true [] d h = tt
taken true (x ∷ xs) d h = (d refl, h)
taken false t d h = h

either_byte : (a b : Bool) (x : ℕ) → (a ≡ true → x ≢ 10) → (b ≡ true → x ≢ 10) → (a || b) ≡ true → x ≢ 10
either_byte true b x f g e = f refl
either_byte false b x f g e = g e

minus : (t : List ℕ) → HasNoEnd (after_minus t) → HasNoEnd t
minus t h = taken (head t == 45) t (other_byte (head t) 45 (λ e. omega (arith, e))) h

sign : (t : List ℕ) → HasNoEnd (after_sign t) → HasNoEnd t
sign t h =
    taken ((head t == 45) || (head t == 43)) t
    (either_byte (head t == 45) (head t == 43) (head t) (other_byte (head t) 45 (λ e. omega (arith, e))) (other_byte (head t) 43 (λ e. omega (arith, e)))) h

-- one byte, and what is read behind it; or another reading of the whole
marked : (b : Bool) (t r : List ℕ) (f g : Option (List ℕ)) → (b ≡ true → head t ≢ 10) → (f ≡ Some r → HasNoEnd (drop 1 t)) →
    (g ≡ Some r → HasNoEnd t) → cond b f g ≡ Some r → HasNoEnd t
marked true t r f g d here there e = taken true t d (here e)
marked false t r f g d here there e = there e

same : (l r : List ℕ) → Some l ≡ Some r → HasNoEnd r → HasNoEnd l
same l r e h = subst HasNoEnd (sym (given false l r e)) h

whole : (t r : List ℕ) → after_whole t ≡ Some r → HasNoEnd r → HasNoEnd t
whole t r e h =
    marked (head t == 48) t r (Some (drop 1 t)) (after_digits t) (other_byte (head t) 48 (λ e. omega (arith, e)))
    (λ f. same (drop 1 t) r f h) (λ f. before_digits t r f h) e

fraction : (t r : List ℕ) → after_fraction t ≡ Some r → HasNoEnd r → HasNoEnd t
fraction t r e h =
    marked (head t == 46) t r (after_digits (drop 1 t)) (Some t) (other_byte (head t) 46 (λ e. omega (arith, e)))
    (λ f. before_digits (drop 1 t) r f h) (λ f. same t r f h) e

exponent : (t r : List ℕ) → after_exponent t ≡ Some r → HasNoEnd r → HasNoEnd t
exponent t r e h =
    marked ((head t == 101) || (head t == 69)) t r (after_digits (after_sign (drop 1 t))) (Some t)
    (either_byte (head t == 101) (head t == 69) (head t) (other_byte (head t) 101 (λ e. omega (arith, e))) (other_byte (head t) 69 (λ e. omega (arith, e))))
    (λ f. sign (drop 1 t) (before_digits (after_sign (drop 1 t)) r f h)) (λ f. same t r f h) e

first_part : (f : List ℕ → Option (List ℕ)) (o : Option (List ℕ)) (r : List ℕ) → option_and_then f o ≡ Some r →
    (y : List ℕ) × (o ≡ Some y) × (f y ≡ Some r)
first_part f None r e = cc
first_part f (Some y) r e = (y, refl, e)

number : (s : List ℕ) → IsNumber s → HasNoEnd s
unfolding after_number
number s n =
    let p = first_part after_exponent (option_and_then after_fraction (after_whole (after_minus s))) [] n in
    let q = first_part after_fraction (after_whole (after_minus s)) p.0 p.1 in
    minus s (whole (after_minus s) q.0 q.1 (fraction q.0 p.0 q.2 (exponent p.0 [] p.2 tt)))

-- ---- Texts

abbrev no_end : List ℕ → Bool
no_end [] = true
no_end (x ∷ xs) = cond (x == 10) false (no_end xs)

one_byte : (b : Bool) (x : ℕ) (xs : List ℕ) → (x ≡ 10 → b ≡ true) → (no_end xs ≡ true → HasNoEnd xs) → cond b false (no_end xs) ≡ true → HasNoEnd (x ∷ xs)
one_byte true x xs d f e = absurd (true≢false (sym e))
one_byte false x xs d f e = (λ z. true≢false (sym (d z)), f e)

line_feed : (x : ℕ) → x ≡ 10 → (x == 10) ≡ true
line_feed x e = rw e refl

tested : (xs : List ℕ) → no_end xs ≡ true → HasNoEnd xs
tested [] e = tt
tested (x ∷ xs) e = one_byte (x == 10) x xs (line_feed x) (tested xs) e

-- the escapes of the bytes below n
abbrev escapes_below : ℕ → Bool
escapes_below zero = true
escapes_below (suc n) = no_end (escape_byte n) && escapes_below n

escape_below : (n : ℕ) → escapes_below n ≡ true → (x : ℕ) → x < n → no_end (escape_byte x) ≡ true
escape_below zero e x h = absurd (omega arith)
escape_below (suc n) e x h =
    let p = and_parts _ _ e in
    elim (cases_eq x n) [ inl here ↦ rw here p.0 | inr other ↦ escape_below n p.1 x (omega arith) ]

none_below : escapes_below 93 ≡ true
unfolding escape_byte
none_below = refl

escaped : (x : ℕ) → HasNoEnd (escape_byte x)
escaped x = elim (cases_lt x 93) [
  | inl small ↦ tested (escape_byte x) (escape_below 93 none_below x small)
  | inr big ↦ subst HasNoEnd (sym (escape_byte_plain x (λ e. omega arith) (λ e. omega arith) (omega arith))) (λ e. omega arith, tt)
]

text : (s : List ℕ) → HasNoEnd (escape s)
text [] = tt
text (x ∷ xs) = no_end-append (escape_byte x) (escape xs) (escaped x) (text xs)

between_quotes : (s : List ℕ) → HasNoEnd (quoted s)
between_quotes s = (λ e. omega (arith, e), no_end-append (escape s) (34 ∷ []) (text s) (tested (34 ∷ []) refl))

-- ---- Tokens

token : (t : Token) → IsPrintableOrBad t → HasNoEnd (token_text t)
token Token.begin_object h = tested (123 ∷ []) refl
token Token.end_object h = tested (125 ∷ []) refl
token Token.begin_array h = tested (91 ∷ []) refl
token Token.end_array h = tested (93 ∷ []) refl
token (Token.key s) h = no_end-append (quoted s) (58 ∷ []) (between_quotes s) (tested (58 ∷ []) refl)
token (Token.string s) h = between_quotes s
token (Token.number s) h = number s h
token (Token.boolean true) h = tested (116 ∷ 114 ∷ 117 ∷ 101 ∷ []) refl
token (Token.boolean false) h = tested (102 ∷ 97 ∷ 108 ∷ 115 ∷ 101 ∷ []) refl
token Token.null h = tested (110 ∷ 117 ∷ 108 ∷ 108 ∷ []) refl
token Token.bad h = tt

comma : (b : Bool) → HasNoEnd (cond b (44 ∷ []) [])
comma true = tested (44 ∷ []) refl
comma false = tt

from : (b : Bool) (ts : List Token) → ArePrintableOrBad ts → HasNoEnd (print_from b ts)
unfolding print_from
from b [] h = tt
from b (t ∷ ts) h =
    no_end-append (separator b t) (token_text t ++ print_from (ends t) ts) (comma (b && begins t))
    (no_end-append (token_text t) (print_from (ends t) ts) (token t h.0) (from (ends t) ts h.1))

pub no_end-print : (ts : List Token) → ArePrintableOrBad ts → HasNoEnd (print ts)
no_end-print ts h = from false ts h
