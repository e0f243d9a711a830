-- The answer of a successful write: docs/FORMAT.md, "The encoding of a value".
use Rattle.std.specs.Prelude.{ℕ}

-- the output, and how many bytes were written to it
pub record Success (O : Type 0) : Type 0 where
  pub output : O
  pub count : ℕ
