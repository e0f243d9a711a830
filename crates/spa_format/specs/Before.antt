-- The grammar of the version before, which had no bitmaps, beside the one of today: docs/FORMAT.md, "The version before".
use Rattle.std.specs.Prelude.{◌≡◌, ℕ, ◌≤◌, ◌⊎◌, ⊤, List, [], ◌∷◌, ◌++◌, length, drop}
use Rattle.spa_format.specs.Words.{word_at, header_size}
use Rattle.spa_format.specs.Kind.{kind_of, IsFixedBody}
use Rattle.spa_format.specs.Tree.{Tree, fixed, string, bytes, bitmap, array, choice, pointer, struct, object, Trees, no_trees, member, Properties, no_properties, property, type_of}
use Rattle.spa_format.specs.Pod.{IsText, IsArray, IsChoice, IsPointer, IsWhole}

abbrev mutual
  -- this was a body of this value before bitmaps: the same as `IsBody` today, but that no body is a bitmap's
  pub WasBody : Tree → List ℕ → Type 0
  WasBody (fixed x) b = IsFixedBody (kind_of x) b x
  WasBody (string s) b = IsText s × (b ≡ s ++ 0 ∷ [])
  WasBody (bytes s) b = b ≡ s
  WasBody (bitmap s) b = ⊥
  WasBody (array k xs) b = IsArray k xs b
  WasBody (choice s f k x xs) b = IsChoice s f k x xs b
  WasBody (pointer t a) b = IsPointer t a b
  WasBody (struct vs) b = WereMembers vs b
  WasBody (object t i ps) b = (header_size ≤ length b) × (t ≡ word_at b 0) × (i ≡ word_at b 4) × WereProperties ps (drop header_size b)

  -- a struct's body before bitmaps: the pods of these members one after another, and nothing else
  pub WereMembers : Trees → List ℕ → Type 0
  WereMembers no_trees b = b ≡ []
  WereMembers (member v vs) b = (first : List ℕ) × (others : List ℕ) × (b ≡ first ++ others) × IsWhole first (type_of v) (WasBody v) × WereMembers vs others

  -- an object's properties before bitmaps: each is a key word, a flags word and the pod of its value, and nothing else follows
  pub WereProperties : Properties → List ℕ → Type 0
  WereProperties no_properties b = b ≡ []
  WereProperties (property key flags v ps) b =
      (header_size ≤ length b) × (key ≡ word_at b 0) × (flags ≡ word_at b 4)
      × (first : List ℕ) × (others : List ℕ) × (drop header_size b ≡ first ++ others) × IsWhole first (type_of v) (WasBody v) × WereProperties ps others

-- these bytes were a pod of this value before there were bitmaps
abbrev pub WasPod : List ℕ → Tree → Type 0
WasPod b v = IsWhole b (type_of v) (WasBody v)

-- the value is a bitmap, or holds one at any nesting depth
abbrev mutual
  pub HasBitmap : Tree → Type 0
  HasBitmap (fixed x) = ⊥
  HasBitmap (string s) = ⊥
  HasBitmap (bytes s) = ⊥
  HasBitmap (bitmap s) = ⊤
  HasBitmap (array k xs) = ⊥
  HasBitmap (choice s f k x xs) = ⊥
  HasBitmap (pointer t a) = ⊥
  HasBitmap (struct vs) = SomeHasBitmap vs
  HasBitmap (object t i ps) = SomeValueHasBitmap ps

  pub SomeHasBitmap : Trees → Type 0
  SomeHasBitmap no_trees = ⊥
  SomeHasBitmap (member v vs) = HasBitmap v ⊎ SomeHasBitmap vs

  pub SomeValueHasBitmap : Properties → Type 0
  SomeValueHasBitmap no_properties = ⊥
  SomeValueHasBitmap (property key flags v ps) = HasBitmap v ⊎ SomeValueHasBitmap ps
