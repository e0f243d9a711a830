-- When the objects at the fronts of two inputs are filtered, and why they aren't: docs/NEGOTIATION.md, "From bytes to bytes".
use Rattle.std.specs.Prelude.{⊤, ◌≡◌, ◌⊎◌, ℕ, List, Option}
use Rattle.spa_format.specs.Tree.{Tree}
use Rattle.spa_format.specs.Front.{IsRefused}
use Rattle.spa_format.specs.Encoding.{encoding_of}
use Rattle.spa_format.specs.Pod.{IsPod}
use Rattle.spa_format.specs.Writable.{IsTooLarge}
use Rattle.spa_bodies.specs.Reading.{MayLackMemory}
pub use Rattle.spa_object_view.specs.Fronts.{BeginBoth, BeginsObject, BeginsOther}
pub use Rattle.spa_object_view.specs.Meeting.{OfViewed}
use Rattle.spa_filter.specs.Filtering.{Agree, Filters, IsFilter}
use Rattle.spa_filter.specs.Refusals.{AreRefused}
use Rattle.spa_keyed_objects.specs.Keys.{Offered}
use Rattle.spa_keyed_objects.specs.declared.side.Side.TheVariants.{First, Second}
use Rattle.spa_filter.specs.declared.error.FilterError.{FilterError}
use Rattle.spa_filter.specs.declared.error.FilterError.TheVariants.{Unread, NotObject, TooLarge, OutOfMemory}

-- the two sides agree under a key, and these are the flags and the value to which they filter there
abbrev pub FiltersAt : Option Offered → Option Offered → ℕ → Tree → Type 0
FiltersAt ours theirs flags x = Agree ours theirs × Filters ours theirs flags x

-- the two values filter to a third, whose encoding these bytes are
pub record FilterIn (bytes : List ℕ) (ours theirs : Tree) : Type 0 where
  pub met : Tree
  pub filter : IsFilter ours theirs met
  pub encoding : bytes ≡ encoding_of met
  pub pod : IsPod bytes met

-- the two values filter to a third, in whose encoding a size doesn't fit a word of 32 bits
pub record FilterTooLarge (ours theirs : Tree) : Type 0 where
  pub met : Tree
  pub filter : IsFilter ours theirs met
  pub large : IsTooLarge met

-- the refusal is one of the two inputs: one of the first comes before one of the second, and both before any other
abbrev pub AreFrontsRefused : (a b : List ℕ) → FilterError → Type 0
AreFrontsRefused a b (Unread First) = IsRefused a
AreFrontsRefused a b (Unread Second) = BeginsObject a × IsRefused b
AreFrontsRefused a b (NotObject First) = BeginsOther a
AreFrontsRefused a b (NotObject Second) = BeginsObject a × BeginsOther b
AreFrontsRefused a b TooLarge = BeginBoth a b FilterTooLarge
AreFrontsRefused a b OutOfMemory =
    MayLackMemory a ⊎ (BeginsObject a × MayLackMemory b)
    ⊎ BeginBoth a b (λ v w. AreRefused v w OutOfMemory)
AreFrontsRefused a b e = BeginBoth a b (λ v w. AreRefused v w e)

-- the fact holds unless the refusal is for want of memory or for the size of the answer
abbrev pub OnNoFilter : Type 0 → FilterError → Type 0
OnNoFilter fact OutOfMemory = ⊤
OnNoFilter fact TooLarge = ⊤
OnNoFilter fact _ = fact
