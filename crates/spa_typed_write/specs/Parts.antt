-- What was written of a value whose write was refused: docs/FORMAT.md, "The encoding of a value". The size word of a struct or an object is 0
-- until all in it is written.
use Rattle.std.specs.Prelude.{◌≡◌, ℕ, List, [], ◌++◌}
use Rattle.spa_format.specs.Words.{word_bytes}
use Rattle.spa_format.specs.Tree.{Tree, struct, struct_type, object, object_type, Trees, member, Properties, property}
use Rattle.spa_format.specs.Encoding.{encoding_of}

mutual
  -- a beginning of the value's encoding, or of a header with the size word 0 and what was written behind it
  pub data IsPart : Tree → List ℕ → Type 0 where
    beginning : (v : Tree) (first left : List ℕ) → encoding_of v ≡ first ++ left → IsPart v first
    open_struct : (vs : Trees) (inside first left : List ℕ) → AreParts vs inside →
        (word_bytes 0 ++ word_bytes struct_type) ++ inside ≡ first ++ left → IsPart (struct vs) first
    open_object : (t i : ℕ) (ps : Properties) (inside first left : List ℕ) → ArePropertyParts ps inside →
        (word_bytes 0 ++ word_bytes object_type) ++ ((word_bytes t ++ word_bytes i) ++ inside) ≡ first ++ left → IsPart (object t i ps) first

  -- the encodings of the first members, and what was written of the next one
  pub data AreParts : Trees → List ℕ → Type 0 where
    no_member : (vs : Trees) → AreParts vs []
    last_member : (v : Tree) (vs : Trees) (b : List ℕ) → IsPart v b → AreParts (member v vs) b
    whole_member : (v : Tree) (vs : Trees) (b : List ℕ) → AreParts vs b → AreParts (member v vs) (encoding_of v ++ b)

  -- the first properties, and what was written of the next one: its key and flags, or a beginning of them, and of its value
  pub data ArePropertyParts : Properties → List ℕ → Type 0 where
    no_property : (ps : Properties) → ArePropertyParts ps []
    last_key : (key flags : ℕ) (v : Tree) (ps : Properties) (first left : List ℕ) → word_bytes key ++ word_bytes flags ≡ first ++ left →
        ArePropertyParts (property key flags v ps) first
    last_value : (key flags : ℕ) (v : Tree) (ps : Properties) (b : List ℕ) → IsPart v b →
        ArePropertyParts (property key flags v ps) ((word_bytes key ++ word_bytes flags) ++ b)
    whole_property : (key flags : ℕ) (v : Tree) (ps : Properties) (b : List ℕ) → ArePropertyParts ps b →
        ArePropertyParts (property key flags v ps) (((word_bytes key ++ word_bytes flags) ++ encoding_of v) ++ b)
