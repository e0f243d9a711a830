-- What two objects are refused for, and that such objects can't meet.
use Rattle.std.proofs.Common.{◌≡◌, ℕ, Option, Some, None}
use Rattle.spa_format.specs.Tree.{Tree, object, Properties}
use Rattle.spa_negotiate.specs.declared.error.NegotiateError.{NegotiateError}
use Rattle.spa_negotiate.specs.declared.error.NegotiateError.TheVariants.{TypeMismatch, Unsupported, Disjoint, OutOfMemory}
use Rattle.spa_keyed_objects.specs.Keys.{Offered, keys_of}
use Rattle.spa_keyed_objects.proofs.Holding.{none_agree}
use Rattle.spa_negotiate.specs.Meeting.{Agree, CanMeet}
use Rattle.spa_negotiate.specs.Refusals.{AreUnsupported, AreDisjoint, IsRefusal, AreRefused, OnDisagreement}

-- a refusal of the properties of two objects of one type is one of the objects
pub AreRefused-properties : (t i u j : ℕ) (ps qs : Properties) (e : NegotiateError) → u ≡ t →
    IsRefusal ps qs e → AreRefused (object t i ps) (object u j qs) e
AreRefused-properties t i u j ps qs TypeMismatch same h = absurd h
AreRefused-properties t i u j ps qs _ same h = (same, h)

-- what agrees isn't unsupported,
Agree-unsupported : (o p : Option Offered) → Agree o p → ¬ (AreUnsupported o p)
Agree-unsupported (Some a) (Some b) agree n = n agree.0
Agree-unsupported (Some a) None agree n = n
Agree-unsupported None p agree n = n

-- nor disjoint
Agree-disjoint : (o p : Option Offered) → Agree o p → ¬ (AreDisjoint o p)
Agree-disjoint (Some a) (Some b) agree n = n.1 agree.1
Agree-disjoint (Some a) None agree n = n
Agree-disjoint None p agree n = n

-- two objects that are refused for another cause than memory can't meet
pub cannot_meet : (v w : Tree) (e : NegotiateError) → AreRefused v w e →
    OnDisagreement (¬ (CanMeet v w)) e
cannot_meet (object t i ps) (object u j qs) TypeMismatch h = λ can. h can.0
cannot_meet (object t i ps) (object u j qs) (Unsupported k) h =
    λ can. none_agree Agree AreUnsupported ps qs Agree-unsupported (keys_of ps) k h.1 can.1
cannot_meet (object t i ps) (object u j qs) (Disjoint k) h =
    λ can. none_agree Agree AreDisjoint ps qs Agree-disjoint (keys_of ps) k h.1 can.1
cannot_meet (object t i ps) (object u j qs) OutOfMemory h = tt
cannot_meet (object t i ps) (object u j qs) _ h = absurd h.1
cannot_meet (object t i ps) _ e h = absurd h
cannot_meet _ w e h = absurd h
