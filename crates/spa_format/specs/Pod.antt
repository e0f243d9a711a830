-- The grammar, which bytes are a pod of which value, as a relation on whole lists of bytes: docs/FORMAT.md, "A pod".
use Rattle.std.specs.Prelude.{◌≡◌, ℕ, ◌<◌, ◌≤◌, ◌⊎◌, List, [], ◌∷◌, ◌++◌, length, take, drop, IsUtf8, Contains}
use Rattle.spa_format.specs.Words.{word_at, wide_at, header_size, extent, body_of}
use Rattle.spa_format.specs.Kind.{Kind, type_number, body_size, Fixed, kind_of, IsFixedBody}
use Rattle.spa_format.specs.Tree.{Shape, none_choice, range_choice, step_choice, enum_choice, flags_choice, shape_number, Tree, fixed, string, bytes, bitmap, array, choice, pointer, struct, object, Trees, no_trees, member, Properties, no_properties, property, type_of}
use Rattle.spa_format.specs.Normal.{kept_flags}

-- a text: UTF-8 without NUL
pub record IsText (s : List ℕ) : Type 0 where
  pub utf8 : IsUtf8 s
  pub no_nul : ¬ (Contains s 0)

-- The elements of an array or choice: bodies of these values one after another, without padding, and nothing else. Of None, whose bodies are
-- empty, there are no elements.
abbrev pub AreElements : Kind → List Fixed → List ℕ → Type 0
AreElements k [] b = b ≡ []
AreElements k (x ∷ xs) b = (0 < body_size k) × IsFixedBody k (take (body_size k) b) x × AreElements k xs (drop (body_size k) b)

-- the body of an array of these values: the size word and the type word of one element, then the elements
pub record IsArray (k : Kind) (xs : List Fixed) (b : List ℕ) : Type 0 where
  pub header : header_size ≤ length b
  pub child_size : word_at b 0 ≡ body_size k
  pub child_type : word_at b 4 ≡ type_number k
  pub elements : AreElements k xs (drop header_size b)

-- how many values a choice has to hold, its default among them
abbrev pub least_count : Shape → ℕ
least_count none_choice = 1
least_count range_choice = 3
least_count step_choice = 4
least_count enum_choice = 1
least_count flags_choice = 1

-- the values behind the default that a choice of this shape takes; it ignores what follows them
abbrev pub values_taken : Shape → List Fixed → List Fixed
values_taken none_choice xs = []
values_taken range_choice xs = take 2 xs
values_taken step_choice xs = take 3 xs
values_taken enum_choice xs = xs
values_taken flags_choice xs = xs

-- The body of a choice: its shape word, its flags word, and then, laid out as an array's body, the default and the values behind it. Since the
-- default is one of the elements, their kind isn't None.
pub record IsChoice (s : Shape) (f : ℕ) (k : Kind) (x : Fixed) (xs : List Fixed) (b : List ℕ) : Type 0 where
  pub header : header_size ≤ length b
  pub shape : word_at b 0 ≡ shape_number s
  pub flags : f ≡ kept_flags s (word_at b 4)
  pub all : List Fixed
  pub values : IsArray k (x ∷ all) (drop header_size b)
  pub enough : least_count s ≤ length (x ∷ all)
  pub first : xs ≡ values_taken s all

-- The body of a pointer: a type word, a free word, and the address in four or eight bytes.
abbrev pub IsPointer : ℕ → ℕ → List ℕ → Type 0
IsPointer t a b = (t ≡ word_at b 0) × (((length b ≡ 12) × (a ≡ word_at b 8)) ⊎ ((length b ≡ 16) × (a ≡ wide_at b 8)))

-- Whole bytes: as many as the size word says, with this type number and a body of which the fact holds. The padding behind the body is free.
pub record IsWhole (b : List ℕ) (type : ℕ) (IsBodyOf : List ℕ → Type 0) : Type 0 where
  pub whole : length b ≡ extent (word_at b 0)
  pub its_type : word_at b 4 ≡ type
  pub content : IsBodyOf (body_of b)

abbrev mutual
  -- these bytes are a body of this value, in a pod of the value's type
  pub IsBody : Tree → List ℕ → Type 0
  IsBody (fixed x) b = IsFixedBody (kind_of x) b x
  IsBody (string s) b = IsText s × (b ≡ s ++ 0 ∷ [])
  IsBody (bytes s) b = b ≡ s
  IsBody (bitmap s) b = b ≡ s
  IsBody (array k xs) b = IsArray k xs b
  IsBody (choice s f k x xs) b = IsChoice s f k x xs b
  IsBody (pointer t a) b = IsPointer t a b
  IsBody (struct vs) b = AreMembers vs b
  IsBody (object t i ps) b = (header_size ≤ length b) × (t ≡ word_at b 0) × (i ≡ word_at b 4) × AreProperties ps (drop header_size b)

  -- a struct's body: the pods of these members one after another, and nothing else
  pub AreMembers : Trees → List ℕ → Type 0
  AreMembers no_trees b = b ≡ []
  AreMembers (member v vs) b = (first : List ℕ) × (others : List ℕ) × (b ≡ first ++ others) × IsWhole first (type_of v) (IsBody v) × AreMembers vs others

  -- an object's properties: each is a key word, a flags word and the pod of its value, one after another, and nothing else follows
  pub AreProperties : Properties → List ℕ → Type 0
  AreProperties no_properties b = b ≡ []
  AreProperties (property key flags v ps) b =
      (header_size ≤ length b) × (key ≡ word_at b 0) × (flags ≡ word_at b 4)
      × (first : List ℕ) × (others : List ℕ) × (drop header_size b ≡ first ++ others) × IsWhole first (type_of v) (IsBody v) × AreProperties ps others

-- these bytes are a pod of this value
abbrev pub IsPod : List ℕ → Tree → Type 0
IsPod b v = IsWhole b (type_of v) (IsBody v)
