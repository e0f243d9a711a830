-- What is read of a stream's format.
use Rattle.std.proofs.Common.{◌≡◌, List, ℕ, Some, None, Option, sym, ap, ◌∙◌}
use Rattle.std.specs.Borrow.{Bor}
use Rattle.libspa.specs.DeserializeError.{DeserializeError}
use Rattle.libspa.specs.Exactly.{IsUnread, RefusesExactly}
use Rattle.libspa.specs.ExactlyLaws.{fault_to}
use Rattle.libspa.specs.Kind.{Fixed, Kind}
use Rattle.libspa.specs.Lookup.{HasFirst, value_under}
use Rattle.libspa.specs.Reading.{IsRead}
use Rattle.libspa.specs.Settled.{settled_of}
use Rattle.libspa.specs.Tree.{Properties, Tree, choice, fixed, range_choice}
use Rattle.std.specs.Prelude.{MatchOption}

-- a read that is refused exactly is refused exactly as a read of what implies it
pub refused_as : {X : Type 0} (reads says : Tree → X → Type 0) (m : Type 0) (b : List ℕ) (e : DeserializeError (Bor (List ℕ))) →
    ((v : Tree) (x : X) → says v x → reads v x) → RefusesExactly reads m b e → RefusesExactly says m b e
refused_as {X = X} reads says m b e to r = record {
  unread = fault_to (IsUnread reads b) (IsUnread says b) e (λ n v x g s. n v x g (to v x s)) r.unread;
  short_first = r.short_first;
  memory = r.memory;
}

-- a read that gives what implies this gives this
pub read_as : (P Q : Tree → Type 0) (b rest : List ℕ) → ((v : Tree) → P v → Q v) → IsRead b rest P → IsRead b rest Q
read_as P Q b rest to r = record { value = r.value; begins = r.begins; follows = r.follows; holds = to r.value r.holds }

both_of : (o : Option Tree) (P Q : Tree → Type 0) → MatchOption o ⊥ P → MatchOption o ⊥ Q → (v : Tree) × P v × Q v
both_of (Some v) P Q p q = (v, p, q)
both_of None P Q p q = absurd p

-- there is one first property under a key
pub one_first : (key : ℕ) (P Q : Tree → Type 0) (ps : Properties) → HasFirst key P ps → HasFirst key Q ps → (v : Tree) × P v × Q v
one_first key P Q ps p q = both_of (value_under key ps) P Q p q

-- a range is no value, settled
pub range_differs : (f : ℕ) (k : Kind) (x y : Fixed) (xs : List Fixed) (v : Tree) → v ≡ choice range_choice f k x xs → settled_of v ≡ fixed y → ⊥
range_differs f k x y xs v e h = let differs = sym (ap settled_of e) ∙ h in absurd (cc differs)
