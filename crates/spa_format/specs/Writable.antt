-- Which values have an encoding that fits the format: docs/FORMAT.md, "Values that can be written".
use Rattle.std.specs.Prelude.{◌≤◌, ◌⊎◌, length, Contains}
use Rattle.spa_format.specs.Words.{size_limit}
use Rattle.spa_format.specs.Tree.{Tree, fixed, string, bytes, bitmap, array, choice, pointer, struct, object, Trees, no_trees, member, Properties, no_properties, property}
use Rattle.spa_format.specs.Encoding.{encoded_body}

-- the value is a text that holds NUL, or holds such a text at any nesting depth
abbrev mutual
  pub HasNul : Tree → Type 0
  HasNul (fixed x) = ⊥
  HasNul (string s) = Contains s 0
  HasNul (bytes s) = ⊥
  HasNul (bitmap s) = ⊥
  HasNul (array k xs) = ⊥
  HasNul (choice s f k x xs) = ⊥
  HasNul (pointer t a) = ⊥
  HasNul (struct vs) = SomeHasNul vs
  HasNul (object t i ps) = SomeValueHasNul ps

  pub SomeHasNul : Trees → Type 0
  SomeHasNul no_trees = ⊥
  SomeHasNul (member v vs) = HasNul v ⊎ SomeHasNul vs

  pub SomeValueHasNul : Properties → Type 0
  SomeValueHasNul no_properties = ⊥
  SomeValueHasNul (property key flags v ps) = HasNul v ⊎ SomeValueHasNul ps

-- the size of a body in the value's encoding, its own or one at any nesting depth, doesn't fit a word of 32 bits
abbrev mutual
  pub IsTooLarge : Tree → Type 0
  IsTooLarge (fixed x) = ⊥
  IsTooLarge (string s) = size_limit ≤ length (encoded_body (string s))
  IsTooLarge (bytes s) = size_limit ≤ length (encoded_body (bytes s))
  IsTooLarge (bitmap s) = size_limit ≤ length (encoded_body (bitmap s))
  IsTooLarge (array k xs) = size_limit ≤ length (encoded_body (array k xs))
  IsTooLarge (choice s f k x xs) = size_limit ≤ length (encoded_body (choice s f k x xs))
  IsTooLarge (pointer t a) = ⊥
  IsTooLarge (struct vs) = (size_limit ≤ length (encoded_body (struct vs))) ⊎ SomeTooLarge vs
  IsTooLarge (object t i ps) = (size_limit ≤ length (encoded_body (object t i ps))) ⊎ SomeValueTooLarge ps

  pub SomeTooLarge : Trees → Type 0
  SomeTooLarge no_trees = ⊥
  SomeTooLarge (member v vs) = IsTooLarge v ⊎ SomeTooLarge vs

  pub SomeValueTooLarge : Properties → Type 0
  SomeValueTooLarge no_properties = ⊥
  SomeValueTooLarge (property key flags v ps) = IsTooLarge v ⊎ SomeValueTooLarge ps

-- the value can be written: no text in it holds NUL, and every size fits a word of 32 bits
pub record IsWritable (v : Tree) : Type 0 where
  pub no_nul : ¬ (HasNul v)
  pub fits : ¬ (IsTooLarge v)
