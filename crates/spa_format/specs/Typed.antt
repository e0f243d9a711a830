-- Which trees are the meaning of a value of the Rust types, where numbers are within their types, texts in UTF-8,
-- elements of one kind, and as many values there as a choice needs: docs/FORMAT.md, "Values".
use Rattle.std.specs.Prelude.{◌≡◌, ℕ, ◌<◌, ◌^◌, List, [], ◌∷◌, length, slice_index, IsUtf8, ⊤, FitsSigned}
use Rattle.std.specs.Int.{w32, w64}
use Rattle.spa_format.specs.Kind.{Kind, body_size, Fixed, none, bool, id, int, long, float, double, rectangle, fraction, fd, kind_of}
use Rattle.spa_format.specs.Tree.{Shape, none_choice, range_choice, step_choice, enum_choice, flags_choice, Tree, fixed, string, bytes, bitmap, array, choice, pointer, struct, object, Trees, no_trees, member, Properties, no_properties, property}

-- every number in the list is a byte
abbrev pub IsBytes : List ℕ → Type 0
IsBytes b = (i : ℕ) → slice_index b i < 256

-- a value of fixed size whose numbers are within their types
abbrev pub IsTypedFixed : Fixed → Type 0
IsTypedFixed none = ⊤
IsTypedFixed (bool x) = ⊤
IsTypedFixed (id x) = x < 2 ^ 32
IsTypedFixed (int x) = FitsSigned w32 x
IsTypedFixed (long x) = FitsSigned w64 x
IsTypedFixed (float x) = x < 2 ^ 32
IsTypedFixed (double x) = x < 2 ^ 64
IsTypedFixed (rectangle w h) = (w < 2 ^ 32) × (h < 2 ^ 32)
IsTypedFixed (fraction n d) = (n < 2 ^ 32) × (d < 2 ^ 32)
IsTypedFixed (fd x) = FitsSigned w64 x

-- each of the elements is of this kind, with its numbers within their types
abbrev pub AreOf : Kind → List Fixed → Type 0
AreOf k [] = ⊤
AreOf k (x ∷ xs) = (kind_of x ≡ k) × IsTypedFixed x × AreOf k xs

-- a choice of this shape may have this many values behind its default
abbrev pub IsCount : Shape → ℕ → Type 0
IsCount none_choice n = n ≡ 0
IsCount range_choice n = n ≡ 2
IsCount step_choice n = n ≡ 3
IsCount enum_choice n = ⊤
IsCount flags_choice n = ⊤

abbrev mutual
  pub IsTyped : Tree → Type 0
  IsTyped (fixed x) = IsTypedFixed x
  IsTyped (string s) = IsUtf8 s
  IsTyped (bytes s) = ⊤
  IsTyped (bitmap s) = ⊤
  IsTyped (array k xs) = AreOf k xs
  IsTyped (choice s f k x xs) = (f < 2 ^ 32) × (0 < body_size k) × AreOf k (x ∷ xs) × IsCount s (length xs)
  IsTyped (pointer t a) = (t < 2 ^ 32) × (a < 2 ^ 64)
  IsTyped (struct vs) = AllTyped vs
  IsTyped (object t i ps) = (t < 2 ^ 32) × (i < 2 ^ 32) × AllPropertiesTyped ps

  pub AllTyped : Trees → Type 0
  AllTyped no_trees = ⊤
  AllTyped (member v vs) = IsTyped v × AllTyped vs

  pub AllPropertiesTyped : Properties → Type 0
  AllPropertiesTyped no_properties = ⊤
  AllPropertiesTyped (property key flags v ps) = (key < 2 ^ 32) × (flags < 2 ^ 32) × IsTyped v × AllPropertiesTyped ps
