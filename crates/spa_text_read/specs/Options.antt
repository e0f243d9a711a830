-- Steps of a reading, each of which gives a value or none.
use Rattle.std.specs.Prelude.{Option, Some, None, List}
use Rattle.json.specs.Token.{Token}

-- the second step, where the first gave a value
infixl 10 ◌>>=◌
abbrev pub ◌>>=◌ : {A B : Type 0} → Option A → (A → Option B) → Option B
None >>= f = None
Some x >>= f = f x

-- what a reading of the tokens gives, and the tokens behind it
abbrev pub Reading : Type 0 → Type 0
Reading A = List Token → Option (A × List Token)

-- a value with what follows it, where there is one
abbrev pub and_then : {A : Type 0} → List Token → Option A → Option (A × List Token)
and_then ts None = None
and_then ts (Some x) = Some (x, ts)
