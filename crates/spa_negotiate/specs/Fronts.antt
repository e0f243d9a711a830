-- When the objects at the fronts of two inputs meet, and why they don't: docs/NEGOTIATION.md, "From bytes to bytes".
use Rattle.std.specs.Prelude.{⊤, ◌≡◌, ◌⊎◌, ℕ, List}
use Rattle.spa_format.specs.Tree.{Tree}
use Rattle.spa_format.specs.Front.{IsRefused}
use Rattle.spa_bodies.specs.Reading.{MayLackMemory}
pub use Rattle.spa_object_view.specs.Fronts.{BeginBoth, BeginsObject, BeginsOther, IsObject}
use Rattle.spa_object_view.specs.Meeting.{MeetsIn, MeetsTooLarge}
use Rattle.spa_negotiate.specs.Meeting.{IsMetAt}
use Rattle.spa_negotiate.specs.Refusals.{AreRefused}
use Rattle.spa_keyed_objects.specs.declared.side.Side.{Side}
use Rattle.spa_keyed_objects.specs.declared.side.Side.TheVariants.{First, Second}
use Rattle.spa_negotiate.specs.declared.error.NegotiateError.{NegotiateError}
use Rattle.spa_negotiate.specs.declared.error.NegotiateError.TheVariants.{Unread, NotObject, TooLarge, OutOfMemory}

-- the two values meet in a third, whose encoding these bytes are
abbrev pub MeetIn : List ℕ → Tree → Tree → Type 0
MeetIn = MeetsIn IsMetAt

-- the two values meet in a third, in whose encoding a size doesn't fit a word of 32 bits
abbrev pub MeetTooLarge : Tree → Tree → Type 0
MeetTooLarge = MeetsTooLarge IsMetAt

-- the refusal is one of the two inputs: one of the first comes before one of the second, and both before any other
abbrev pub AreFrontsRefused : (a b : List ℕ) → NegotiateError → Type 0
AreFrontsRefused a b (Unread First) = IsRefused a
AreFrontsRefused a b (Unread Second) = BeginsObject a × IsRefused b
AreFrontsRefused a b (NotObject First) = BeginsOther a
AreFrontsRefused a b (NotObject Second) = BeginsObject a × BeginsOther b
AreFrontsRefused a b TooLarge = BeginBoth a b MeetTooLarge
AreFrontsRefused a b OutOfMemory =
    MayLackMemory a ⊎ (BeginsObject a × MayLackMemory b)
    ⊎ BeginBoth a b (λ v w. AreRefused v w OutOfMemory)
AreFrontsRefused a b e = BeginBoth a b (λ v w. AreRefused v w e)

-- the fact holds unless the refusal is for want of memory or for the size of the answer
abbrev pub OnNoMeeting : Type 0 → NegotiateError → Type 0
OnNoMeeting fact OutOfMemory = ⊤
OnNoMeeting fact TooLarge = ⊤
OnNoMeeting fact _ = fact

-- the refusal is one of this side's front
abbrev pub IsFrontRefused : Side → List ℕ → NegotiateError → Type 0
IsFrontRefused side input (Unread s) = (s ≡ side) × IsRefused input
IsFrontRefused side input (NotObject s) = (s ≡ side) × BeginsOther input
IsFrontRefused side input OutOfMemory = MayLackMemory input
IsFrontRefused side input _ = ⊥
