-- Why bytes aren't read.
use Rattle.std.proofs.Common.{◌≡◌, ℕ, List, refl}
use Rattle.std.specs.Borrow.{Bor}
use Rattle.spa_fixed_sized.specs.declared.fault.DeserializeError.{DeserializeError}
use Rattle.spa_fixed_sized.specs.declared.fault.DeserializeError.TheVariants as error
use Rattle.spa_fixed_sized.specs.Faults.{kind_text}
use Rattle.spa_format.specs.Front.{IsRefused}
use Rattle.spa_bodies.specs.Reading.{OnFault, OnMemory}
use Rattle.spa_read.specs.Reading.{ConveysNothing}
use Rattle.spa_recordings.specs.Reading.{IsAccepted, IsUnreadAt, RefusesList}
use Rattle.spa_recordings.specs.declared.reading.Reading.{Reading}
use Rattle.spa_recordings.specs.declared.reading.Reading.TheVariants.{Exact, Lenient}

-- a refusal for another cause than memory
pub not_memory : {I : Type 0} (e : DeserializeError I) → ¬ (e ≡ error.OutOfMemory) → OnMemory ⊥ e
not_memory error.OutOfMemory n = absurd (n refl)
not_memory _ n = tt

pub fault_of : {I : Type 0} (Fact : Type 0) (e : DeserializeError I) → ¬ (e ≡ error.OutOfMemory) → OnFault Fact e → Fact
fault_of Fact error.OutOfMemory n h = absurd (n refl)
fault_of Fact (error.Nom f) n h = h
fault_of Fact (error.PropertyWrongKey k) n h = h
fault_of Fact error.UnsupportedType n h = h
fault_of Fact error.InvalidType n h = h
fault_of Fact error.PropertyMissing n h = h
fault_of Fact error.InvalidChoiceType n h = h
fault_of Fact error.MissingChoiceValues n h = h
fault_of Fact error.WrongSize n h = h
fault_of Fact error.UnreadMembers n h = h
fault_of Fact error.NoElementLeft n h = h
fault_of Fact error.FailedReader n h = h

-- what is left of an input begins with no pod
pub unread_at : (reading : Reading) (input left : List ℕ) (e : DeserializeError (Bor (List ℕ))) (kind : List ℕ) → RefusesList reading input left e →
    ¬ (e ≡ error.OutOfMemory) → kind ≡ kind_text e → IsUnreadAt reading input left kind
unread_at Exact input left e kind r n k = (r.behind, (fault_of (IsRefused left) e n r.front.refused, (e, not_memory e n, r.front.named, k)))
unread_at Lenient input left e kind r n k = (r.behind, (fault_of (ConveysNothing left) e n r.front.refused, (e, not_memory e n, r.front.named, k)))

-- and not all of it is read
pub not_accepted : (reading : Reading) (input left : List ℕ) (e : DeserializeError (Bor (List ℕ))) → RefusesList reading input left e →
    ¬ (e ≡ error.OutOfMemory) → ¬ (IsAccepted reading input)
not_accepted Exact input left e r n h = fault_of _ e n r.refused h.0 h.1
not_accepted Lenient input left e r n h = fault_of _ e n r.refused h.0 h.1
