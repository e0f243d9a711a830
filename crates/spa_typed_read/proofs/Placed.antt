-- The public refusal that is made of one at a place: what that one says, this one says.
use Rattle.std.proofs.Common.{ℕ, List}
use Rattle.std.specs.Borrow.{Bor}
use Rattle.spa_format.specs.Faults.{Stands}
use Rattle.spa_format.specs.Opened as headers
use Rattle.spa_fixed_sized.specs.declared.fault.Refusal.{Refusal}
use Rattle.spa_fixed_sized.specs.declared.fault.Refusal.TheVariants as refusal
use Rattle.spa_bodies.specs.Reading.{MayLackMemory, OnFault}
use Rattle.spa_bodies.specs.Refusing.{RefusesPod, error_of}
use Rattle.spa_read.specs.Nesting.{RefusesAt}
use Rattle.spa_bodies.proofs.Refusals.{says_through, said_so}

-- without the headers opened
pub without_count : (input place : List ℕ) (n : ℕ) (why : Refusal) →
    RefusesAt input place n why → RefusesPod input place why
without_count input place n why h =
    says_through (λ k. Stands k place input × headers.OpensHeaders input n) (λ k. Stands k place input)
    (MayLackMemory input) (MayLackMemory input) (λ k s. s.0) (λ m. m) why h

-- with the headers opened
pub opened_as : (input : List ℕ) (place : Bor (List ℕ)) (n : ℕ) (why : Refusal) → RefusesAt input place.now n why →
    OnFault (headers.OpensHeaders input n) (error_of place why)
opened_as input place n =
    said_so (λ k at. Stands k at input × headers.OpensHeaders input n) (MayLackMemory input) place (headers.OpensHeaders input n) (λ k h. h.1)
