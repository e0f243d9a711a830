-- The kinds that have a fixed size: each fact once, for all of them.
use Rattle.std.proofs.Common.{◌≡◌, ℕ, ◌<◌, ◌^◌, ◌⊎◌, inl, inr, List, ◌++◌, length, Bool, true, false, refl, sym, ap, ◌∙◌, subst, arith}
use Rattle.std.proofs.lemmas.Int.{to_z-of_z, ints}
use Rattle.std.specs.Prelude.{if◌then◌else◌, ℤ, nat_lt, FitsSigned}
use Rattle.std.specs.Int.{w32, w64, cast_unsigned, cast_signed}
use borrow.Author.Gap.{read_sfits}
use Rattle.spa_format.specs.Words.{word_at, word_bytes, wide_at, wide_bytes}
use Rattle.spa_format.specs.Kind.{Kind, none_kind, bool_kind, id_kind, int_kind, long_kind, float_kind, double_kind, rectangle_kind, fraction_kind, fd_kind, type_number, body_size, Fixed, none, bool, id, int, long, float, double, rectangle, fraction, fd, kind_of, content, IsFixedBody, fixed_body}
use Rattle.spa_format.specs.Typed.{IsBytes, IsTypedFixed}
use Rattle.spa_format.proofs.WordLemmas.{length-word_bytes, length-wide_bytes, word_at-word_bytes, wide_at-word_bytes, word_last, word_at-append, word_fits, wide_fits}
use Rattle.spa_format.proofs.Encodings.{two_words_length}

-- no two kinds have one number
pub same_kind : (k l : Kind) → type_number k ≡ type_number l → k ≡ l
same_kind none_kind none_kind e = refl
same_kind bool_kind bool_kind e = refl
same_kind id_kind id_kind e = refl
same_kind int_kind int_kind e = refl
same_kind long_kind long_kind e = refl
same_kind float_kind float_kind e = refl
same_kind double_kind double_kind e = refl
same_kind rectangle_kind rectangle_kind e = refl
same_kind fraction_kind fraction_kind e = refl
same_kind fd_kind fd_kind e = refl
same_kind _ _ e = absurd (omega arith)

-- which numbers they have
pub number_is : (k : Kind) → (0 < type_number k) × (type_number k < 8) ⊎ ((9 < type_number k) × (type_number k < 12)) ⊎ (type_number k ≡ 18)
number_is none_kind = inl (omega arith, omega arith)
number_is bool_kind = inl (omega arith, omega arith)
number_is id_kind = inl (omega arith, omega arith)
number_is int_kind = inl (omega arith, omega arith)
number_is long_kind = inl (omega arith, omega arith)
number_is float_kind = inl (omega arith, omega arith)
number_is double_kind = inl (omega arith, omega arith)
number_is rectangle_kind = inr (inl (omega arith, omega arith))
number_is fraction_kind = inr (inl (omega arith, omega arith))
number_is fd_kind = inr (inr refl)

pub kind_of_content : (k : Kind) (b : List ℕ) → kind_of (content k b) ≡ k
kind_of_content none_kind b = refl
kind_of_content bool_kind b = refl
kind_of_content id_kind b = refl
kind_of_content int_kind b = refl
kind_of_content long_kind b = refl
kind_of_content float_kind b = refl
kind_of_content double_kind b = refl
kind_of_content rectangle_kind b = refl
kind_of_content fraction_kind b = refl
kind_of_content fd_kind b = refl

pub length-fixed_body : (x : Fixed) → length (fixed_body x) ≡ body_size (kind_of x)
length-fixed_body none = refl
length-fixed_body (bool x) = length-word_bytes (if x then 1 else 0)
length-fixed_body (id x) = length-word_bytes x
length-fixed_body (int x) = length-word_bytes (cast_unsigned w32 x)
length-fixed_body (long x) = length-wide_bytes (cast_unsigned w64 x)
length-fixed_body (float x) = length-word_bytes x
length-fixed_body (double x) = length-wide_bytes x
length-fixed_body (rectangle w h) = two_words_length w h
length-fixed_body (fraction n d) = two_words_length n d
length-fixed_body (fd x) = length-wide_bytes (cast_unsigned w64 x)

bool_back : (x : Bool) → x ≡ nat_lt 0 (word_at (word_bytes (if x then 1 else 0)) 0)
bool_back true = ap (nat_lt 0) (sym (word_at-word_bytes 1 (omega arith)))
bool_back false = ap (nat_lt 0) (sym (word_at-word_bytes 0 (omega arith)))

of_z_fits : (x : ℤ) → FitsSigned w32 x → cast_unsigned w32 x < 2 ^ 32
of_z_fits x h = omega (arith, ints)

of_z_fits_wide : (x : ℤ) → FitsSigned w64 x → cast_unsigned w64 x < 2 ^ 64
of_z_fits_wide x h = omega (arith, ints)

int_back : (x : ℤ) → FitsSigned w32 x → x ≡ cast_signed w32 (word_at (word_bytes (cast_unsigned w32 x)) 0)
int_back x h = sym (ap (cast_signed w32) (word_at-word_bytes (cast_unsigned w32 x) (of_z_fits x h)) ∙ to_z-of_z w32 x h)

long_back : (x : ℤ) → FitsSigned w64 x → x ≡ cast_signed w64 (wide_at (wide_bytes (cast_unsigned w64 x)) 0)
long_back x h = sym (ap (cast_signed w64) (wide_at-word_bytes (cast_unsigned w64 x) (of_z_fits_wide x h)) ∙ to_z-of_z w64 x h)

first_back : (m n : ℕ) → m < 2 ^ 32 → m ≡ word_at (word_bytes m ++ word_bytes n) 0
first_back m n h = sym (word_at-append (word_bytes m) (word_bytes n) 0 (let e = length-word_bytes m in omega arith) ∙ word_at-word_bytes m h)

second_back : (m n : ℕ) → n < 2 ^ 32 → n ≡ word_at (word_bytes m ++ word_bytes n) 4
second_back m n h = sym (word_last (word_bytes m) n 4 (length-word_bytes m) h)

-- what is written says the value
pub content_back : (x : Fixed) → IsTypedFixed x → x ≡ content (kind_of x) (fixed_body x)
content_back none h = refl
content_back (bool x) h = ap bool (bool_back x)
content_back (id x) h = ap id (sym (word_at-word_bytes x h))
content_back (int x) h = ap int (int_back x h)
content_back (long x) h = ap long (long_back x h)
content_back (float x) h = ap float (sym (word_at-word_bytes x h))
content_back (double x) h = ap double (sym (wide_at-word_bytes x h))
content_back (rectangle w l) h = let e = first_back w l h.0 in let f = second_back w l h.1 in cc
content_back (fraction n d) h = let e = first_back n d h.0 in let f = second_back n d h.1 in cc
content_back (fd x) h = ap fd (long_back x h)

-- bytes say values of the types
pub typed_content : (k : Kind) (b : List ℕ) → IsBytes b → IsTypedFixed (content k b)
typed_content none_kind b f = tt
typed_content bool_kind b f = tt
typed_content id_kind b f = word_fits b 0 f
typed_content int_kind b f = read_sfits w32 (word_at b 0)
typed_content long_kind b f = read_sfits w64 (wide_at b 0)
typed_content float_kind b f = word_fits b 0 f
typed_content double_kind b f = wide_fits b 0 f
typed_content rectangle_kind b f = (word_fits b 0 f, word_fits b 4 f)
typed_content fraction_kind b f = (word_fits b 0 f, word_fits b 4 f)
typed_content fd_kind b f = read_sfits w64 (wide_at b 0)

pub size_fits : (k : Kind) → body_size k < 9
size_fits none_kind = omega arith
size_fits bool_kind = omega arith
size_fits id_kind = omega arith
size_fits int_kind = omega arith
size_fits long_kind = omega arith
size_fits float_kind = omega arith
size_fits double_kind = omega arith
size_fits rectangle_kind = omega arith
size_fits fraction_kind = omega arith
size_fits fd_kind = omega arith

-- The facts that the other proofs use.

pub kind_of_body : (k : Kind) (b : List ℕ) (x : Fixed) → IsFixedBody k b x → kind_of x ≡ k
kind_of_body k b x h = ap kind_of h.says ∙ kind_of_content k b

pub same_fixed : (k : Kind) (b : List ℕ) (x y : Fixed) → IsFixedBody k b x → IsFixedBody k b y → x ≡ y
same_fixed k b x y h i = h.says ∙ sym i.says

pub fixed_back : (x : Fixed) → IsTypedFixed x → IsFixedBody (kind_of x) (fixed_body x) x
fixed_back x h = record { whole = length-fixed_body x; says = content_back x h }

pub typed_fixed : (k : Kind) (b : List ℕ) (x : Fixed) → IsBytes b → IsFixedBody k b x → IsTypedFixed x
typed_fixed k b x f h = subst IsTypedFixed (sym h.says) (typed_content k b f)

-- a body as it is written is as long as any of the value
pub fixed_length : (k : Kind) (b : List ℕ) (x : Fixed) → IsFixedBody k b x → length (fixed_body x) ≡ length b
fixed_length k b x h = length-fixed_body x ∙ ap body_size (kind_of_body k b x h) ∙ sym h.whole
