-- The pods as which inputs are read.
use Rattle.std.proofs.Common.{inl, inr, List, ℕ, Option}
use Rattle.spa_recordings.specs.declared.reading.Reading.{Reading}
use Rattle.spa_recordings.specs.declared.reading.Reading.TheVariants.{Exact}
use Rattle.pod_commands.specs.Answers.{IsOneUnread}
use Rattle.pod_commands.specs.Inputs.{AreBoth, IsKnown, IsRead, OfOne, OfTwo, content_of}
use Rattle.pod_commands.specs.declared.answer.Failure.{Failure}
use Rattle.pod_commands.proofs.Known.{known_all}

-- what is known of an input is known of one of which less is known
pub known_read : (reading : Reading) (expected now : Option (List ℕ)) (holds : List ℕ → Option (List ℕ)) (n pods : List ℕ) → IsKnown expected now →
    IsRead reading (content_of now holds n) pods → IsRead reading (content_of expected holds n) pods
known_read reading expected now holds n pods k r =
    record { input = r.input; its = known_all expected now holds n r.input k r.its; read = r.read }

pub known_unread : (reading : Reading) (expected now : Option (List ℕ)) (holds : List ℕ → Option (List ℕ)) (n : List ℕ) (why : Failure) →
    IsKnown expected now → IsOneUnread reading now holds n why → IsOneUnread reading expected holds n why
known_unread reading expected now holds n why k (inl u) = inl u
known_unread reading expected now holds n why k (inr o) =
    inr (record { pods = o.pods; read = known_read Exact expected now holds n o.pods k o.read; fact = o.fact })

-- what holds of the pods as which inputs are read
pub of_both : (reading : Reading) (remaining : Option (List ℕ)) (holds : List ℕ → Option (List ℕ)) (n m first second : List ℕ)
    (Holds : List ℕ → List ℕ → Type 0) → AreBoth reading remaining holds n m first second → Holds first second →
    OfTwo reading remaining holds n m Holds
of_both reading remaining holds n m first second Holds both h =
    record { first = first; second = second; first_read = both.0; second_read = both.1; fact = h }

pub of_one : (reading : Reading) (remaining : Option (List ℕ)) (holds : List ℕ → Option (List ℕ)) (n pods : List ℕ) (Holds : List ℕ → Type 0) →
    IsRead reading (content_of remaining holds n) pods → Holds pods → OfOne reading remaining holds n Holds
of_one reading remaining holds n pods Holds read h = record { pods = pods; read = read; fact = h }
