-- Two inputs that begin with values of which a fact holds, or can't hold.
use Rattle.std.proofs.Common.{◌≡◌, ℕ, List, subst}
use Rattle.spa_format.specs.Front.{Begins, front_of}
use Rattle.spa_format.specs.Pod.{IsPod}
use Rattle.spa_format.specs.Tree.{Tree, object}
use Rattle.spa_object_view.specs.Fronts.{BeginBoth, BeginsOther, IsObject}
use Rattle.spa_object_view.specs.Written.{BeginsWritten}

-- two objects
pub begin_both : {a b ours theirs : List ℕ} {t i u j : ℕ} {Holds : Tree → Tree → Type 0} (h : BeginsWritten a t i ours) (k : BeginsWritten b u j theirs) →
    Holds (object t i h.values) (object u j k.values) → BeginBoth a b Holds
begin_both {t = t} {i = i} {u = u} {j = j} h k p =
    record { ours = object t i h.values; theirs = object u j k.values; first = h.begins; second = k.begins; holds = p }

-- the law that a pod is of one value
module _ (one : (b : List ℕ) (v w : Tree) → IsPod b v → IsPod b w → v ≡ w) (a b : List ℕ) (Holds : Tree → Tree → Type 0) where
  same : (input : List ℕ) (v w : Tree) → Begins input v → Begins input w → v ≡ w
  same input v w h k = one (front_of input) v w h.pod k.pod

  -- the fact doesn't hold of the two values that are there
  pub never_both : (v w : Tree) → Begins a v → Begins b w → ¬ (Holds v w) → ¬ (BeginBoth a b Holds)
  never_both v w h k n m =
      n (subst (λ x. Holds x w) (same a m.ours v m.first h) (subst (Holds m.ours) (same b m.theirs w m.second k) m.holds))

  -- the value of a side is no object, but the fact is one of objects
  pub other_first : ((v w : Tree) → Holds v w → IsObject v) → BeginsOther a → ¬ (BeginBoth a b Holds)
  other_first objects h m = h.no_object (subst IsObject (same a m.ours h.value m.first h.begins) (objects m.ours m.theirs m.holds))

  pub other_second : ((v w : Tree) → Holds v w → IsObject w) → BeginsOther b → ¬ (BeginBoth a b Holds)
  other_second objects h m = h.no_object (subst IsObject (same b m.theirs h.value m.second h.begins) (objects m.ours m.theirs m.holds))
