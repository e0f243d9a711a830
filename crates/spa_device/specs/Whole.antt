-- What is read of an input.
use Rattle.std.specs.Prelude.{◌≡◌, ℕ, List, Option, IfSome}

-- all that a reader had left is read, where that is known
abbrev pub IsAllOf : Option (List ℕ) → List ℕ → Type 0
IsAllOf remaining bytes = IfSome remaining (λ xs. bytes ≡ xs)
