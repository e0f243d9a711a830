-- What the refusal of a part says of the whole, and what the public refusal says.
use Rattle.std.proofs.Common.{ℕ, List}
use Rattle.std.specs.Borrow.{Bor}
use Rattle.spa_fixed_sized.specs.declared.fault.Refusal.{Refusal}
use Rattle.spa_fixed_sized.specs.declared.fault.Refusal.TheVariants as refusal
use Rattle.spa_bodies.specs.Refusing.{Says, error_of}
use Rattle.spa_format.specs.Faults.{Stands}
use Rattle.spa_format.specs.Front.{HasFront}
use Rattle.spa_bodies.proofs.Refusals.{refused_as}
use Rattle.spa_canonical.specs.Rewriting.{RefusesFront}

-- The public refusal that is made of one at a place.
pub front_refused : (input : List ℕ) (place : Bor (List ℕ)) (why : Refusal) →
    Says (λ k. Stands k place.now input) (HasFront input) why → RefusesFront input (error_of place why)
front_refused input place refusal.OutOfMemory h = record { refused = tt; named = tt; short_first = λ n. absurd (n h); memory = h }
front_refused input place why h =
    let r = refused_as input place why h in
    record { refused = r.refused; named = r.named; short_first = r.short_first; memory = tt }
