-- The objects at the fronts of two inputs, and the bytes of that in which they meet.
use Rattle.std.proofs.Common.{◌≡◌, ◌⊎◌, ℕ, List, ◌∙◌, refl, subst, true, inl, inr, None}
use Rattle.std.specs.Bool.{IsTrue}
use Rattle.spa_format.specs.Fixation.{all_settled, are_settled}
use Rattle.spa_format.specs.Pod.{IsPod}
use Rattle.spa_format.specs.Tree.{Tree, object, Properties, no_properties, property, join_properties}
use Rattle.spa_format.specs.Walk.{ArePropertiesOf, property_walk, properties_of}
use Rattle.spa_keyed_objects.specs.Keys.{offered_at}
use Rattle.spa_keyed_objects.proofs.Holding.{HoldsAtKeys-none}
use Rattle.spa_keyed_objects.proofs.Lookups.{offered_at-absent, offered_at-joined}
use Rattle.spa_keyed_objects.specs.declared.side.Side.TheVariants.{First, Second}
use Rattle.spa_negotiate.specs.declared.error.NegotiateError.{NegotiateError}
use Rattle.spa_negotiate.specs.declared.error.NegotiateError.TheVariants.{TypeMismatch, Unsupported, Disjoint, Unread, NotObject, TooLarge, OutOfMemory}
use Rattle.spa_negotiate.specs.Fronts.{MeetIn, OnNoMeeting, AreFrontsRefused}
use Rattle.spa_negotiate.specs.Meeting.{CanMeet, IsMetAt, Meet}
use Rattle.spa_negotiate.specs.Refusals.{AreRefused, IsKeyRefusal, IsRefusal, OnDisagreement}
use Rattle.spa_negotiate.proofs.Putting.{plain_differ}
use Rattle.spa_filter.proofs.CommonPods.{plain_typed}
use Rattle.spa_negotiate.proofs.Refusing.{AreRefused-properties, cannot_meet}
use Rattle.spa_negotiate.proofs.Settlements.{IsRefusal-first}
use Rattle.spa_object_view.specs.Fronts.{BeginBoth, IsObject}
use Rattle.spa_object_view.specs.Meeting.{AreOfOneType, IsRefusedNext}
use Rattle.spa_object_view.specs.Written.{AreApartAtFirst}
use Rattle.spa_object_view.proofs.Both.{never_both, other_first, other_second}
use Rattle.spa_object_view.proofs.Rules.{both, never_one_type}

-- the first key of all, under which both sides have values that are apart, is refused,
apart_refused : (ps qs : Properties) (key : ℕ) → AreApartAtFirst ps qs key → IsRefusal ps qs (Disjoint key)
apart_refused ps qs key a =
    let v = a.our.value in
    let disjoint = plain_differ v a.their.value key (plain_typed v a.apart.first) (plain_typed a.their.value a.apart.second) a.apart.differ in
    IsRefusal-first ps qs no_properties no_properties a.behind key a.our.flags v a.first (HoldsAtKeys-none IsMetAt ps qs) refl (Disjoint key)
    (refl, rw a.found (disjoint.1, disjoint.2))

-- and a key at which the rule refuses: the first side has it
alone_refused : (ps qs : Properties) (key : ℕ) (e : NegotiateError) → IsKeyRefusal key None (offered_at key qs) e → IsRefusal ps qs e
alone_refused ps qs key (Unsupported k) h = absurd h.1
alone_refused ps qs key (Disjoint k) h = absurd h.1
alone_refused ps qs key OutOfMemory h = tt
alone_refused ps qs key _ h = absurd h

next_refused : (ps qs : Properties) (e : NegotiateError) → IsRefusedNext IsMetAt IsKeyRefusal ps qs e → IsRefusal ps qs e
next_refused ps qs e r = by_place r.place
  where
    by_place : ((ps ≡ join_properties r.done (property r.key r.flags r.value r.behind))
        ⊎ ((offered_at r.key ps ≡ None) × (join_properties ps qs ≡ join_properties r.done (property r.key r.flags r.value r.behind)))) → IsRefusal ps qs e
    by_place (inl all) =
        let first = offered_at-joined r.key r.flags r.value r.done r.behind ps all (offered_at-absent r.key r.done r.fresh) in
        IsRefusal-first ps qs r.done r.met r.behind r.key r.flags r.value all r.holds r.fresh e
        (subst (λ o. IsKeyRefusal r.key o (offered_at r.key qs) e) first r.refused)
    by_place (inr p) = alone_refused ps qs r.key e (subst (λ o. IsKeyRefusal r.key o (offered_at r.key qs) e) p.0 r.refused)

one_type : {Fact : Properties → Properties → Type 0} (e : NegotiateError) → ((ps qs : Properties) → Fact ps qs → IsRefusal ps qs e) → (v w : Tree) → AreOfOneType Fact v w → AreRefused v w e
one_type e f (object t i ps) (object u j qs) h = AreRefused-properties t i u j ps qs e h.0 (f ps qs h.1)
one_type e f (object t i ps) w h = absurd h
one_type e f v w h = absurd h

-- why two inputs don't meet is a refusal of theirs
module _ (a b : List ℕ) where
  pub apart : (key : ℕ) → BeginBoth a b (AreOfOneType (λ ps qs. AreApartAtFirst ps qs key)) → BeginBoth a b (λ v w. AreRefused v w (Disjoint key))
  apart key h = both (one_type (Disjoint key) (λ ps qs. apart_refused ps qs key)) h

  at_key : (e : NegotiateError) → BeginBoth a b (AreOfOneType (λ ps qs. IsRefusedNext IsMetAt IsKeyRefusal ps qs e)) → BeginBoth a b (λ v w. AreRefused v w e)
  at_key e h = both (one_type e (λ ps qs. next_refused ps qs e)) h

  pub refused : (e : NegotiateError) → BeginBoth a b (AreOfOneType (λ ps qs. IsRefusedNext IsMetAt IsKeyRefusal ps qs e)) → AreFrontsRefused a b e
  refused (Unsupported k) h = at_key (Unsupported k) h
  refused (Disjoint k) h = at_key (Disjoint k) h
  refused OutOfMemory h = inr (inr (at_key OutOfMemory h))
  refused _ h = absurd (never_one_type (λ ps qs r. r.refused) h.ours h.theirs h.holds)

-- the law of walks over properties, and that of those that need no fixation
abbrev WalksFindProperties : Type 0
WalksFindProperties =
    (t i : ℕ) (ps : Properties) (b : List ℕ) → IsPod b (object t i ps) →
    ArePropertiesOf ps (property_walk (properties_of b))

abbrev SettledAreSettled : Type 0
SettledAreSettled =
    (ps : Properties) (bs : List (List ℕ)) → ArePropertiesOf ps bs → all_settled bs ≡ are_settled ps

-- the law of objects in which two meet
abbrev MeetingsAreSettled : Type 0
MeetingsAreSettled = (v w : Tree) (t i : ℕ) (ps : Properties) → Meet v w (object t i ps) → are_settled ps ≡ true

-- a pod of an object in which two meet needs no fixation
settled-met : MeetingsAreSettled → WalksFindProperties → SettledAreSettled → (v w x : Tree) (b : List ℕ) → Meet v w x →
    IsPod b x → all_settled (property_walk (properties_of b)) ≡ true
settled-met plain walks settled (object t i ps) (object u j qs) (object c d rs) b h p =
    settled rs _ (walks c d rs b p) ∙ plain (object t i ps) (object u j qs) c d rs h
settled-met plain walks settled (object t i ps) (object u j qs) _ b h p = absurd h
settled-met plain walks settled (object t i ps) _ x b h p = absurd h
settled-met plain walks settled _ w x b h p = absurd h

-- bytes in which the objects at two fronts meet need none
pub settled-both : (a b bytes : List ℕ) → MeetingsAreSettled → WalksFindProperties → SettledAreSettled →
    BeginBoth a b (MeetIn bytes) → IsTrue (all_settled (property_walk (properties_of bytes)))
settled-both a b bytes plain walks settled m =
    settled-met plain walks settled m.ours m.theirs m.holds.met bytes m.holds.meet m.holds.pod

first_object : (v w : Tree) → CanMeet v w → IsObject v
first_object (object t i ps) w h = tt
first_object v w h = absurd h

second_object : (v w : Tree) → CanMeet v w → IsObject w
second_object (object t i ps) (object u j qs) h = tt
second_object (object t i ps) w h = absurd h
second_object v w h = absurd h

-- the law that a pod is of one value
module _ (one : (b : List ℕ) (v w : Tree) → IsPod b v → IsPod b w → v ≡ w) (a b : List ℕ) where
  no_pair : (e : NegotiateError) → BeginBoth a b (λ v w. AreRefused v w e) → OnNoMeeting (¬ (BeginBoth a b CanMeet)) e
  no_pair e h = of_error e (cannot_meet h.ours h.theirs e h.holds)
    where
      of_error : (x : NegotiateError) → OnDisagreement (¬ (CanMeet h.ours h.theirs)) x → OnNoMeeting (¬ (BeginBoth a b CanMeet)) x
      of_error OutOfMemory n = tt
      of_error TooLarge n = tt
      of_error _ n = never_both one a b CanMeet h.ours h.theirs h.first h.second n

  -- what is refused can't meet, where memory and size aren't the cause
  pub no_meeting : (e : NegotiateError) → AreFrontsRefused a b e → OnNoMeeting (¬ (BeginBoth a b CanMeet)) e
  no_meeting (Unread First) h = λ k. h k.ours k.first
  no_meeting (Unread Second) h = λ k. h.1 k.theirs k.second
  no_meeting (NotObject First) h = other_first one a b CanMeet first_object h
  no_meeting (NotObject Second) h = other_second one a b CanMeet second_object h.1
  no_meeting TooLarge h = tt
  no_meeting OutOfMemory h = tt
  no_meeting TypeMismatch h = no_pair TypeMismatch h
  no_meeting (Unsupported k) h = no_pair (Unsupported k) h
  no_meeting (Disjoint k) h = no_pair (Disjoint k) h
