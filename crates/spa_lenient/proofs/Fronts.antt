-- The front of an input, rewritten leniently.
use Rattle.std.proofs.Common.{◌≡◌, ℕ, List, ap, subst, sym}
use Rattle.std.specs.Borrow.{Bor}
use Rattle.spa_fixed_sized.specs.declared.fault.DeserializeError.{DeserializeError}
use Rattle.spa_fixed_sized.specs.declared.fault.DeserializeError.TheVariants as error
use Rattle.spa_fixed_sized.specs.declared.fault.Refusal.{Refusal}
use Rattle.spa_fixed_sized.specs.declared.fault.Refusal.TheVariants as refusal
use Rattle.spa_format.specs.Front.{HasFront}
use Rattle.spa_bodies.specs.Reading.{MayLackMemory, OnMemory}
use Rattle.spa_bodies.specs.Refusing.{error_of}
use Rattle.spa_read.specs.Reading.{RefusesInput}
use Rattle.spa_read.proofs.Conveying.{conveys_pod}
use Rattle.spa_canonical.specs.Rewriting.{IsRewriting}
use Rattle.spa_lenient.specs.Rewriting.{IsLenientRewriting, RefusesFront}

-- what is rewritten exactly
pub exactly : (input out : List ℕ) → IsRewriting input out → IsLenientRewriting input out
exactly input out h = (h.value, conveys_pod input h.value h.begins, h.written)

-- a refusal of the read is one of the rewriting
only_there : (input : List ℕ) (e : DeserializeError (Bor (List ℕ))) → OnMemory (MayLackMemory input) e → OnMemory (HasFront input) e
only_there input error.OutOfMemory m = m.0
only_there input _ m = tt

pub refused_read : (input : List ℕ) (e : DeserializeError (Bor (List ℕ))) → RefusesInput input e → RefusesFront input e
refused_read input e h = record {
  refused = h.refused;
  named = h.named;
  short_first = h.short_first;
  memory = only_there input e h.memory;
}

-- where memory ran out
pub lacks_memory : (input : List ℕ) → HasFront input → RefusesFront input error.OutOfMemory
lacks_memory input h = record { refused = tt; named = tt; short_first = λ n. absurd (n h); memory = h }

-- what holds of the refusal for want of memory
pub of_memory : (P : DeserializeError (Bor (List ℕ)) → Type 0) (place : Bor (List ℕ)) (why : Refusal) → why ≡ refusal.OutOfMemory →
    P error.OutOfMemory → P (error_of place why)
of_memory P place why e h = subst P (sym (ap (error_of place) e)) h
