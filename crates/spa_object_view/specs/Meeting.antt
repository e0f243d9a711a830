-- The object in which two objects meet by a rule, of which `Holds` says what may stand under a key, and `Refuses` why nothing does.
use Rattle.std.specs.Prelude.{⊤, ◌≡◌, ◌⊎◌, ◌≢◌, ℕ, List, Option, None, false}
use Rattle.spa_format.specs.Encoding.{encoding_of}
use Rattle.spa_format.specs.Front.{IsRefused}
use Rattle.spa_format.specs.Pod.{IsPod}
use Rattle.spa_format.specs.Tree.{Tree, object, Properties, property, join_properties}
use Rattle.spa_format.specs.Writable.{IsTooLarge}
use Rattle.spa_bodies.specs.Reading.{MayLackMemory}
use Rattle.spa_keyed_objects.specs.Keys.{HoldsAtKeys, Offered, has_key, offered_at}
use Rattle.spa_keyed_objects.specs.declared.side.Side.{Side}
use Rattle.spa_keyed_objects.specs.declared.side.Side.TheVariants.{First, Second}
use Rattle.spa_object_view.specs.Fronts.{BeginBoth, BeginsObject, BeginsObjectOf, BeginsOther}
use Rattle.spa_object_view.specs.Written.{AreApartAtFirst}
use Rattle.spa_object_view.specs.declared.front.ObjectPod.{ObjectPod}
use Rattle.spa_object_view.specs.declared.rule.Stop.{Stop}
use Rattle.spa_object_view.specs.declared.rule.Stop.TheVariants.{Unread, NotObject, TypeMismatch, Apart, Refused, TooLarge, OutOfMemory}

-- The two objects, of one type, meet in the third, which has that type and the first's id. It has the keys of the first and then
-- those that only the second has, each once, and the relation holds of what it has under each.
abbrev pub Meets : (Option Offered → Option Offered → ℕ → Tree → Type 0) → Tree → Tree → Tree → Type 0
Meets Holds (object type our_id ours) (object its_type its_id theirs) (object met_type met_id met) =
    (its_type ≡ type) × (met_type ≡ type) × (met_id ≡ our_id)
    × HoldsAtKeys Holds ours theirs (join_properties ours theirs) met
Meets Holds _ _ _ = ⊥

-- the two values meet in a third, whose encoding these bytes are
pub record MeetsIn (Holds : Option Offered → Option Offered → ℕ → Tree → Type 0) (bytes : List ℕ) (ours theirs : Tree) : Type 0 where
  pub met : Tree
  pub meet : Meets Holds ours theirs met
  pub encoding : bytes ≡ encoding_of met
  pub pod : IsPod bytes met

-- the two values meet in a third, in whose encoding a size doesn't fit a word of 32 bits
pub record MeetsTooLarge (Holds : Option Offered → Option Offered → ℕ → Tree → Type 0) (ours theirs : Tree) : Type 0 where
  pub met : Tree
  pub meet : Meets Holds ours theirs met
  pub large : IsTooLarge met

-- the two values are objects of one type, and the fact holds of their properties
abbrev pub AreOfOneType : (Properties → Properties → Type 0) → Tree → Tree → Type 0
AreOfOneType Fact (object type our_id ours) (object its_type its_id theirs) = (its_type ≡ type) × Fact ours theirs
AreOfOneType Fact _ _ = ⊥

-- the two values are objects of two types
abbrev pub AreOfTwoTypes : Tree → Tree → Type 0
AreOfTwoTypes (object type our_id ours) (object its_type its_id theirs) = its_type ≢ type
AreOfTwoTypes _ _ = ⊥

-- at this property, the first of a new key behind `done`, the rule refuses, where the first side's properties have it, or else those
-- of both behind one another
pub record IsRefusedNext {E : Type 0} (Holds : Option Offered → Option Offered → ℕ → Tree → Type 0)
    (Refuses : ℕ → Option Offered → Option Offered → E → Type 0) (ours theirs : Properties) (e : E) : Type 0 where
  pub done : Properties
  pub behind : Properties
  pub met : Properties
  pub key : ℕ
  pub flags : ℕ
  pub value : Tree
  pub place :
      (ours ≡ join_properties done (property key flags value behind))
      ⊎ ((offered_at key ours ≡ None) × (join_properties ours theirs ≡ join_properties done (property key flags value behind)))
  pub fresh : has_key key done ≡ false
  pub holds : HoldsAtKeys Holds ours theirs done met
  pub refused : Refuses key (offered_at key ours) (offered_at key theirs) e

-- this is why the two inputs don't meet: a cause of the first comes before one of the second, and both before any other
abbrev pub AreStopped : {E : Type 0} → (Option Offered → Option Offered → ℕ → Tree → Type 0) →
    (ℕ → Option Offered → Option Offered → E → Type 0) → (a b : List ℕ) → Stop E → Type 0
AreStopped Holds Refuses a b (Unread First) = IsRefused a
AreStopped Holds Refuses a b (Unread Second) = BeginsObject a × IsRefused b
AreStopped Holds Refuses a b (NotObject First) = BeginsOther a
AreStopped Holds Refuses a b (NotObject Second) = BeginsObject a × BeginsOther b
AreStopped Holds Refuses a b TypeMismatch = BeginBoth a b AreOfTwoTypes
AreStopped Holds Refuses a b (Apart key) = BeginBoth a b (AreOfOneType (λ ps qs. AreApartAtFirst ps qs key))
AreStopped Holds Refuses a b (Refused e) = BeginBoth a b (AreOfOneType (λ ps qs. IsRefusedNext Holds Refuses ps qs e))
AreStopped Holds Refuses a b TooLarge = BeginBoth a b (MeetsTooLarge Holds)
AreStopped Holds Refuses a b OutOfMemory =
    MayLackMemory a ⊎ (BeginsObject a × MayLackMemory b) ⊎ BeginBoth a b (AreOfOneType (λ ps qs. ⊤))

-- this is why there is no object at the front of a side
abbrev pub IsFrontStopped : {E : Type 0} → Side → List ℕ → Stop E → Type 0
IsFrontStopped side input (Unread s) = (s ≡ side) × IsRefused input
IsFrontStopped side input (NotObject s) = (s ≡ side) × BeginsOther input
IsFrontStopped side input OutOfMemory = MayLackMemory input
IsFrontStopped side input _ = ⊥

-- the fact holds of any two inputs with the pods of these objects at their fronts
abbrev pub OfViewed : (ours theirs : ObjectPod) → (List ℕ → List ℕ → Type 0) → Type 0
OfViewed ours theirs Holds = (a b : List ℕ) → BeginsObjectOf a ours → BeginsObjectOf b theirs → Holds a b
