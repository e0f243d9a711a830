-- The lenient reading, which finds a value also in what other programs leave in place of a pod: docs/FORMAT.md, "The lenient reading".
use Rattle.std.specs.Prelude.{◌≡◌, ℕ, ◌+◌, ◌<◌, ◌≤◌, ◌⊎◌, ⊤, List, [], ◌∷◌, ◌++◌, length, drop}
use Rattle.spa_format.specs.Words.{word_at, header_size, extent, body_of}
use Rattle.spa_format.specs.Kind.{Kind, type_number, body_size, Fixed, kind_of, IsFixedBody}
use Rattle.spa_format.specs.Tree.{Shape, none_choice, shape_number, Tree, fixed, string, bytes, bitmap, array, choice, pointer, struct, object, Trees, no_trees, member, Properties, no_properties, property, type_of, choice_type}
use Rattle.spa_format.specs.Pod.{IsText, IsArray, IsChoice, IsPointer}

-- A string's body in the lenient reading: the text ends at the first NUL, and the last byte of the body is NUL. The bytes between the two are
-- free.
pub record ConveysText (s b : List ℕ) : Type 0 where
  pub text : IsText s
  pub surplus : List ℕ
  pub parts : b ≡ s ++ 0 ∷ surplus
  pub before : List ℕ
  pub last : b ≡ before ++ 0 ∷ []

-- The child of the None choice with the body `b`: a pod of this type number whose body `child` is all there. The bytes behind it are free.
pub record HasChild (type : ℕ) (child b : List ℕ) : Type 0 where
  pub headers : header_size + header_size ≤ length b
  pub shape : word_at b 0 ≡ shape_number none_choice
  pub its_type : word_at (drop header_size b) 4 ≡ type
  pub whole : word_at (drop header_size b) 0 ≤ length (drop header_size (drop header_size b))
  pub body : child ≡ body_of (drop header_size b)

-- the child of the None choice with the body `b` is this value, of one of the nine kinds whose bodies aren't empty
pub record HasFixedChild (k : Kind) (x : Fixed) (b : List ℕ) : Type 0 where
  pub sized : 0 < body_size k
  pub child : List ℕ
  pub there : HasChild (type_number k) child b
  pub says : IsFixedBody k child x

-- A choice's body in the lenient reading. Of a None choice only the child counts: its flags word and the bytes behind the child are free.
abbrev pub ConveysChoice : Shape → ℕ → Kind → Fixed → List Fixed → List ℕ → Type 0
ConveysChoice none_choice f k x xs b = (f ≡ 0) × (xs ≡ []) × HasFixedChild k x b
ConveysChoice s f k x xs b = IsChoice s f k x xs b

-- A None choice whose child is of this value's type conveys the value itself: so for each type but choices and the nine kinds whose bodies
-- aren't empty, over which the None choice is a value of its own.
abbrev pub ReplacesNoneChoice : Tree → Type 0
ReplacesNoneChoice (fixed x) = body_size (kind_of x) ≡ 0
ReplacesNoneChoice (string s) = ⊤
ReplacesNoneChoice (bytes s) = ⊤
ReplacesNoneChoice (bitmap s) = ⊤
ReplacesNoneChoice (array k xs) = ⊤
ReplacesNoneChoice (choice s f k x xs) = ⊥
ReplacesNoneChoice (pointer t a) = ⊤
ReplacesNoneChoice (struct vs) = ⊤
ReplacesNoneChoice (object t i ps) = ⊤

-- Whole bytes, as many as the size word says, of one of two forms: they are of this type and the fact holds of their body; or, where a None
-- choice may replace the value, they are a None choice with a child of this type, and the fact holds of the child's body.
pub record ConveysIn (b : List ℕ) (type : ℕ) (Replaces : Type 0) (Conveys : List ℕ → Type 0) : Type 0 where
  pub whole : length b ≡ extent (word_at b 0)
  pub content : ((word_at b 4 ≡ type) × Conveys (body_of b)) ⊎ ((word_at b 4 ≡ choice_type) × Replaces × (child : List ℕ) × HasChild type child (body_of b) × Conveys child)

abbrev mutual
  -- this body of a pod of the value's type conveys the value
  pub ConveysBody : Tree → List ℕ → Type 0
  ConveysBody (fixed x) b = IsFixedBody (kind_of x) b x
  ConveysBody (string s) b = ConveysText s b
  ConveysBody (bytes s) b = b ≡ s
  ConveysBody (bitmap s) b = b ≡ s
  ConveysBody (array k xs) b = IsArray k xs b
  ConveysBody (choice s f k x xs) b = ConveysChoice s f k x xs b
  ConveysBody (pointer t a) b = IsPointer t a b
  ConveysBody (struct vs) b = ConveyMembers vs b
  ConveysBody (object t i ps) b = (header_size ≤ length b) × (t ≡ word_at b 0) × (i ≡ word_at b 4) × ConveyProperties ps (drop header_size b)

  -- a struct's body conveys these members: one after another, and nothing else
  pub ConveyMembers : Trees → List ℕ → Type 0
  ConveyMembers no_trees b = b ≡ []
  ConveyMembers (member v vs) b =
      (first : List ℕ) × (others : List ℕ) × (b ≡ first ++ others)
      × ConveysIn first (type_of v) (ReplacesNoneChoice v) (ConveysBody v) × ConveyMembers vs others

  -- an object's properties convey these: a key word and a flags word before each value, one after another, and nothing else
  pub ConveyProperties : Properties → List ℕ → Type 0
  ConveyProperties no_properties b = b ≡ []
  ConveyProperties (property key flags v ps) b =
      (header_size ≤ length b) × (key ≡ word_at b 0) × (flags ≡ word_at b 4)
      × (first : List ℕ) × (others : List ℕ) × (drop header_size b ≡ first ++ others)
      × ConveysIn first (type_of v) (ReplacesNoneChoice v) (ConveysBody v) × ConveyProperties ps others

-- these bytes convey this value: it is what they say in the lenient reading
abbrev pub Conveys : List ℕ → Tree → Type 0
Conveys b v = ConveysIn b (type_of v) (ReplacesNoneChoice v) (ConveysBody v)
