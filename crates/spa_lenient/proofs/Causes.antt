-- Causes of refusals, and their names.
use Rattle.std.proofs.Common.{◌≡◌, ◌≢◌, ℕ, List, refl, ap, arith}
use Rattle.std.specs.Prelude.{codes, slice_index}
use Rattle.spa_fixed_sized.specs.declared.fault.DeserializeError.{DeserializeError}
use Rattle.spa_fixed_sized.specs.declared.fault.DeserializeError.TheVariants as error
use Rattle.spa_fixed_sized.specs.declared.fault.FaultKind.{FaultKind}
use Rattle.spa_fixed_sized.specs.declared.fault.FaultKind.TheVariants as fault_kind
use Rattle.spa_fixed_sized.specs.declared.fault.Refusal.{Refusal}
use Rattle.spa_fixed_sized.specs.declared.fault.Refusal.TheVariants as refusal
use Rattle.spa_bodies.specs.Refusing.{error_of}
use Rattle.spa_fixed_sized.specs.Faults.{fault_kind_text, kind_text}

-- a text that begins otherwise is another
other : (text : List ℕ) → slice_index text 0 ≢ slice_index (codes "OutOfMemory") 0 → text ≡ codes "OutOfMemory" → ⊥
other text n e = n (ap (λ l. slice_index l 0) e)

of_fault : (k : FaultKind) → fault_kind_text k ≡ codes "OutOfMemory" → ⊥
of_fault fault_kind.Short e = other (codes "Short") (λ h. omega (arith, h)) e
of_fault fault_kind.Tag e = other (codes "Tag") (λ h. omega (arith, h)) e
of_fault fault_kind.Text e = other (codes "Text") (λ h. omega (arith, h)) e

-- a refusal with the name of the one for lack of memory is that one
pub named_memory : {I : Type 0} (e : DeserializeError I) → kind_text e ≡ codes "OutOfMemory" → e ≡ error.OutOfMemory
named_memory (error.Nom f) e = absurd (of_fault f.kind e)
named_memory error.UnsupportedType e = absurd (other (codes "UnsupportedType") (λ h. omega (arith, h)) e)
named_memory error.InvalidType e = absurd (other (codes "InvalidType") (λ h. omega (arith, h)) e)
named_memory error.PropertyMissing e = absurd (other (codes "PropertyMissing") (λ h. omega (arith, h)) e)
named_memory (error.PropertyWrongKey k) e = absurd (other (codes "PropertyWrongKey") (λ h. omega (arith, h)) e)
named_memory error.InvalidChoiceType e = absurd (other (codes "InvalidChoiceType") (λ h. omega (arith, h)) e)
named_memory error.MissingChoiceValues e = absurd (other (codes "MissingChoiceValues") (λ h. omega (arith, h)) e)
named_memory error.WrongSize e = absurd (other (codes "WrongSize") (λ h. omega (arith, h)) e)
named_memory error.UnreadMembers e = absurd (other (codes "UnreadMembers") (λ h. omega (arith, h)) e)
named_memory error.NoElementLeft e = absurd (other (codes "NoElementLeft") (λ h. omega (arith, h)) e)
named_memory error.FailedReader e = absurd (other (codes "FailedReader") (λ h. omega (arith, h)) e)
named_memory error.OutOfMemory e = refl

-- a refusal has the same name at any place
pub same_cause : {I J : Type 0} (place : I) (other : J) (why : Refusal) → kind_text (error_of place why) ≡ kind_text (error_of other why)
same_cause place other refusal.Short = refl
same_cause place other _ = refl
