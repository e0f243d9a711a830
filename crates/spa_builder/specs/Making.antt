-- Values that are built call by call: docs/FORMAT.md, "Making pods call by call".
use Rattle.std.specs.Prelude.{◌≡◌, ℕ, ◌+◌, ◌-◌, List, [], ◌∷◌, ◌++◌, length, Some, Result, MatchResult}
use Rattle.spa_format.specs.Tree.{Tree, fixed, struct, object, Trees, no_trees, member, Properties, no_properties, property}
use Rattle.spa_builder.specs.State.{State}
use Rattle.spa_builder.specs.Step.{Call, abandon, add, add_prop, pop, push_object, push_struct}
use Rattle.spa_builder.specs.Fields.{BuilderFields, IsAt}
use Rattle.spa_builder.specs.Replay.{state_from}
use Rattle.spa_utils.specs.declared.errno.Errno.{Errno}
use Rattle.spa_utils.specs.declared.errno.TheConstants.Errno.{NOMEM}

-- the state with this value closed, no other value, and no open tree
abbrev pub state_of_value : Tree → State
state_of_value v = record { closed = member v no_trees; opened = [] }

-- the calls that build a value where `n` trees are open: a struct or an object is opened, gets its members or properties, and is closed
abbrev mutual
  pub calls_for : ℕ → Tree → List Call
  calls_for n (struct vs) = push_struct ∷ (member_calls (n + 1) vs ++ pop (n + 1) ∷ [])
  calls_for n (object t i ps) = push_object t i ∷ (property_calls (n + 1) ps ++ pop (n + 1) ∷ [])
  calls_for n v = add v ∷ []

  pub member_calls : ℕ → Trees → List Call
  member_calls n no_trees = []
  member_calls n (member v vs) = calls_for n v ++ member_calls n vs

  pub property_calls : ℕ → Properties → List Call
  property_calls n no_properties = []
  property_calls n (property k f v ps) = add_prop k f ∷ (calls_for n v ++ property_calls n ps)

-- how many trees are open after such a call, where `n` were before
abbrev pub open_behind : ℕ → Call → ℕ
open_behind n (add v) = n
open_behind n (add_prop k f) = n
open_behind n (pop frame) = n - 1
open_behind n (abandon frame) = n - 1
open_behind n _ = n + 1

-- with `n` trees open, these calls, each of which the model accepts, bring the builder to this state
pub record ComesTo (n : ℕ) (t : State) (calls : List Call) (builder : BuilderFields) : Type 0 where
  pub state : State
  pub at : IsAt builder state
  pub depth : length state.opened ≡ n
  pub run : state_from state calls ≡ Some t

-- after `Ok` the calls behind this one bring the builder to this state; a refusal is for want of memory, and changes nothing
abbrev pub GoesOn : {A : Type 0} → ℕ → State → Call → List Call → BuilderFields → BuilderFields → Result A Errno → Type 0
GoesOn n t c cs old new r = MatchResult r (λ _. ComesTo (open_behind n c) t cs new) (λ e. (e ≡ NOMEM) × (new ≡ old))

-- each value is of fixed size
abbrev pub AreFixed : Properties → Type 0
AreFixed no_properties = Unit {0}
AreFixed (property k f (fixed x) ps) = AreFixed ps
AreFixed (property k f v ps) = ⊥
