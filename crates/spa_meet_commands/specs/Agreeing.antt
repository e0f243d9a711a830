-- When the work on two objects succeeds, and its refusals: docs/NEGOTIATION.md.
use Rattle.std.specs.Prelude.{◌≡◌, ⊤, ℕ, List}
use Rattle.spa_format.specs.Encoding.{encoding_of}
use Rattle.spa_format.specs.Tree.{Tree}
use Rattle.spa_format.specs.Writable.{IsTooLarge}
use Rattle.spa_filter.specs.Filtering.{CanFilter, IsFilter}
use Rattle.spa_filter.specs.Settling.{IsFixedFor, settled_of}
use Rattle.spa_filter.specs.declared.error.FilterError.{FilterError}
use Rattle.spa_filter.specs.declared.error.FilterError.TheVariants.{TooLarge, OutOfMemory}
use Rattle.spa_filter_pods.specs.Fronts.{AreFrontsRefused, BeginBoth, FilterIn, OnNoFilter}
use Rattle.spa_meet_commands.specs.declared.pair.Work.{Work}
use Rattle.spa_meet_commands.specs.declared.pair.Work.TheVariants.{Negotiate, Filter}

-- the fronts of two inputs are pods of objects that can be filtered
abbrev pub Agree : (a b : List ℕ) → Type 0
Agree a b = BeginBoth a b CanFilter

-- The two values are objects that filter to one which, with each choice at its default, has this encoding. That is a fixed object that
-- both admit.
pub record SettleIn (out : List ℕ) (ours theirs : Tree) : Type 0 where
  pub met : Tree
  pub filter : IsFilter ours theirs met
  pub encoding : out ≡ encoding_of (settled_of met)
  pub fixed : IsFixedFor ours theirs (settled_of met)

-- they filter to an object in whose encoding, with each choice at its default, a size doesn't fit a word of 32 bits
pub record SettleTooLarge (ours theirs : Tree) : Type 0 where
  pub met : Tree
  pub filter : IsFilter ours theirs met
  pub large : IsTooLarge (settled_of met)

-- the fronts of two inputs are pods of objects that meet, or filter, to one whose encoding this is
abbrev pub AgreeIn : Work → (a b out : List ℕ) → Type 0
AgreeIn Negotiate a b out = BeginBoth a b (SettleIn out)
AgreeIn Filter a b out = BeginBoth a b (FilterIn out)

-- the fronts of two inputs are pods of objects that filter to one
abbrev pub AreFiltered : (a b : List ℕ) → Type 0
AreFiltered a b = BeginBoth a b (λ ours theirs. (met : Tree) × IsFilter ours theirs met)

-- The refusal of two inputs: that of filtering them; or, where they filter to an object that is to be settled, TooLarge for the settled
-- object or OutOfMemory.
pub data Stands (a b : List ℕ) (e : FilterError) : Work → Type 0 where
  unfiltered : (work : Work) → AreFrontsRefused a b e → Stands a b e work
  unsettled : BeginBoth a b SettleTooLarge → e ≡ TooLarge → Stands a b e Negotiate
  no_memory : AreFiltered a b → e ≡ OutOfMemory → Stands a b e Negotiate

-- the refusal is one of the two inputs, and unless it is for want of memory or for the size of the answer, the two don't agree
pub record ArentAgreed (work : Work) (a b : List ℕ) (e : FilterError) : Type 0 where
  pub stands : Stands a b e work
  pub apart : OnNoFilter (¬ (Agree a b)) e

-- ---- Steps. Only private clauses cite them.

-- why a value isn't written
abbrev pub IsUnwritten : Tree → FilterError → Type 0
IsUnwritten v TooLarge = IsTooLarge v
IsUnwritten v OutOfMemory = ⊤
IsUnwritten v _ = ⊥

-- why an object isn't written with its choices settled
abbrev pub IsUnsettled : Tree → FilterError → Type 0
IsUnsettled v e = IsUnwritten (settled_of v) e
