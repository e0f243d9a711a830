-- What a refusal says, cause by cause.
use Rattle.std.proofs.Common.{ℕ, List, sym, subst}
use Rattle.std.specs.Borrow.{Bor}
use Rattle.spa_format.specs.Faults.{Fault, Short, Text, InvalidType, InvalidChoiceType, MissingChoiceValues, WrongSize}
use Rattle.spa_fixed_sized.specs.declared.fault.FaultKind.{FaultKind}
use Rattle.spa_fixed_sized.specs.declared.fault.FaultKind.TheVariants as fault_kind
use Rattle.spa_fixed_sized.specs.declared.fault.DeserializeError.{DeserializeError}
use Rattle.spa_fixed_sized.specs.declared.fault.DeserializeError.TheVariants as error
use Rattle.spa_bodies.specs.Reading.{IsShortAt, Names, NamesFaultKind, OnMemory}

-- the fault that is named stands in what is around it, too
pub names_to : (P Q : Fault → List ℕ → Type 0) (e : DeserializeError (Bor (List ℕ))) →
    ((k : Fault) (place : List ℕ) → P k place → Q k place) → Names P e → Names Q e
names_to P Q (error.Nom f) to h = kind_to f.kind h
  where
    kind_to : (n : FaultKind) → NamesFaultKind (λ k. P k f.input.now) n → NamesFaultKind (λ k. Q k f.input.now) n
    kind_to fault_kind.Short h = to Short f.input.now h
    kind_to fault_kind.Tag h = h
    kind_to fault_kind.Text h = to Text f.input.now h
names_to P Q error.InvalidType to h = (h.0, to InvalidType h.0 h.1)
names_to P Q error.InvalidChoiceType to h = (h.0, to InvalidChoiceType h.0 h.1)
names_to P Q error.MissingChoiceValues to h = (h.0, to MissingChoiceValues h.0 h.1)
names_to P Q error.WrongSize to h = (h.0, to WrongSize h.0 h.1)
names_to P Q error.OutOfMemory to h = tt
names_to P Q _ to h = absurd h

-- what is short is named so
pub short_named : (P : Fault → List ℕ → Type 0) (place : List ℕ) (e : DeserializeError (Bor (List ℕ))) → IsShortAt place e →
    P Short place → Names P e
short_named P place (error.Nom f) s h =
    subst (NamesFaultKind (λ k. P k f.input.now)) (sym s.0) (subst (P Short) (sym s.1) h)
short_named P place _ s h = absurd s

-- what is short is no lack of memory
pub short_no_memory : (A : Type 0) (place : List ℕ) (e : DeserializeError (Bor (List ℕ))) → IsShortAt place e → OnMemory A e
short_no_memory A place (error.Nom f) s = tt
short_no_memory A place _ s = absurd s
