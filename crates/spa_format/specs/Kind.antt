-- The kinds of fixed size: their type numbers, their sizes, and what their bodies say: docs/FORMAT.md, "Kinds of fixed size".
use Rattle.std.specs.Prelude.{◌≡◌, ℕ, List, [], ◌++◌, length, Bool, if◌then◌else◌, nat_lt, ℤ}
use Rattle.std.specs.Int.{w32, w64, cast_signed, cast_unsigned}
use Rattle.spa_format.specs.Words.{word_at, word_bytes, wide_at, wide_bytes}

pub data Kind : Type 0 where
  none_kind : Kind
  bool_kind : Kind
  id_kind : Kind
  int_kind : Kind
  long_kind : Kind
  float_kind : Kind
  double_kind : Kind
  rectangle_kind : Kind
  fraction_kind : Kind
  fd_kind : Kind

-- the type number of the kind
abbrev pub type_number : Kind → ℕ
type_number none_kind = 1
type_number bool_kind = 2
type_number id_kind = 3
type_number int_kind = 4
type_number long_kind = 5
type_number float_kind = 6
type_number double_kind = 7
type_number rectangle_kind = 10
type_number fraction_kind = 11
type_number fd_kind = 18

-- how many bytes a body of the kind has
abbrev pub body_size : Kind → ℕ
body_size none_kind = 0
body_size bool_kind = 4
body_size id_kind = 4
body_size int_kind = 4
body_size long_kind = 8
body_size float_kind = 4
body_size double_kind = 8
body_size rectangle_kind = 8
body_size fraction_kind = 8
body_size fd_kind = 8

-- a value of one of these kinds; a float or a double is its bits
pub data Fixed : Type 0 where
  none : Fixed
  bool : Bool → Fixed
  id : ℕ → Fixed
  int : ℤ → Fixed
  long : ℤ → Fixed
  float : ℕ → Fixed
  double : ℕ → Fixed
  rectangle : (width height : ℕ) → Fixed
  fraction : (num denom : ℕ) → Fixed
  fd : ℤ → Fixed

abbrev pub kind_of : Fixed → Kind
kind_of none = none_kind
kind_of (bool x) = bool_kind
kind_of (id x) = id_kind
kind_of (int x) = int_kind
kind_of (long x) = long_kind
kind_of (float x) = float_kind
kind_of (double x) = double_kind
kind_of (rectangle w h) = rectangle_kind
kind_of (fraction n d) = fraction_kind
kind_of (fd x) = fd_kind

-- the value that a body of the kind says; of a Bool, that any word but 0 is true
abbrev pub content : Kind → List ℕ → Fixed
content none_kind b = none
content bool_kind b = bool (nat_lt 0 (word_at b 0))
content id_kind b = id (word_at b 0)
content int_kind b = int (cast_signed w32 (word_at b 0))
content long_kind b = long (cast_signed w64 (wide_at b 0))
content float_kind b = float (word_at b 0)
content double_kind b = double (wide_at b 0)
content rectangle_kind b = rectangle (word_at b 0) (word_at b 4)
content fraction_kind b = fraction (word_at b 0) (word_at b 4)
content fd_kind b = fd (cast_signed w64 (wide_at b 0))

-- these bytes are a body of the kind and say this value
pub record IsFixedBody (k : Kind) (b : List ℕ) (x : Fixed) : Type 0 where
  pub whole : length b ≡ body_size k
  pub says : x ≡ content k b

-- the body as which a value of fixed size is written: true is the word 1
abbrev pub fixed_body : Fixed → List ℕ
fixed_body none = []
fixed_body (bool x) = word_bytes (if x then 1 else 0)
fixed_body (id x) = word_bytes x
fixed_body (int x) = word_bytes (cast_unsigned w32 x)
fixed_body (long x) = wide_bytes (cast_unsigned w64 x)
fixed_body (float x) = word_bytes x
fixed_body (double x) = wide_bytes x
fixed_body (rectangle w h) = word_bytes w ++ word_bytes h
fixed_body (fraction n d) = word_bytes n ++ word_bytes d
fixed_body (fd x) = wide_bytes (cast_unsigned w64 x)
