-- Values that are read through None choices.
use Rattle.std.proofs.Common.{◌≡◌, List, ℕ, inl, inr, subst, arith}
use Rattle.std.specs.Borrow.{Bor}
use Rattle.spa_format.specs.Kind.{Kind}
use Rattle.spa_format.specs.Faults.{Stands}
use Rattle.spa_fixed_sized.specs.declared.fault.Refusal.{Refusal}
use Rattle.spa_format.specs.Tree.{Tree}
use Rattle.spa_format.specs.Pod.{IsPod}
use Rattle.spa_format.specs.Front.{Begins, front_of}
use Rattle.spa_format.proofs.Conveyed.{one_value, pod_conveys}
use Rattle.spa_canonical.specs.Depth.{NestsDeeper, levels_looked_into}
use Rattle.spa_canonical.proofs.Deeper.{its_container}
use Rattle.spa_bodies.specs.Refusing as refusing
use Rattle.spa_bodies.specs.Refusing.{error_of}
use Rattle.spa_typed_read.specs.Exactly.{BeginsChoice, RefusesSettled, malformed}
use Rattle.spa_typed_read.specs.ExactlyLaws.{memory_to}
use Rattle.spa_typed_read.proofs.Looked.{fault_refused}
use Rattle.spa_view.specs.Settled.{Says, settled_bytes, settled_of}
use Rattle.spa_view.proofs.FoundValues.{pod_says}
use Rattle.spa_view.proofs.SettledPods.{settled_pod}

-- what the settled view of a pod says, its value is, settled
pub says_settled : (b : List ℕ) (v w : Tree) → Begins b v → Says w (settled_bytes (front_of b)) → settled_of v ≡ w
says_settled b v w g s =
    one_value (settled_bytes (front_of b)) (settled_of v) w (pod_conveys (settled_bytes (front_of b)) (settled_of v) (settled_pod v (front_of b) g.pod))
    (record { whole = s.whole; content = inl (s.its_type, s.content) })

-- and what it doesn't say, it isn't
pub settled_says : (b : List ℕ) (v w : Tree) → Begins b v → settled_of v ≡ w → Says w (settled_bytes (front_of b))
settled_says b v w g h =
    pod_says w (settled_bytes (front_of b)) (subst (IsPod (settled_bytes (front_of b))) h (settled_pod v (front_of b) g.pod))

-- no choice nests
pub choices_are_flat : (b : List ℕ) → BeginsChoice b → ¬ (NestsDeeper levels_looked_into b)
choices_are_flat b c d = elim (its_container levels_looked_into b d) [
  | inl s ↦ omega (arith, c.1, s)
  | inr o ↦ omega (arith, c.1, o)
]

-- a choice in which a fault stands is refused for it
pub fault_settled : {X : Type 0} (k : Kind) (reads : Tree → X → Type 0) (b : List ℕ) (place : Bor (List ℕ)) (why : Refusal) → BeginsChoice b →
    refusing.Says (λ j. Stands j place.now b) ⊥ why → RefusesSettled k reads b (error_of place why)
fault_settled k reads b place why c s =
    let r = fault_refused b place why s in
    malformed c r.0 (memory_to (NestsDeeper levels_looked_into b) ⊥ (error_of place why) (choices_are_flat b c) r.1)
