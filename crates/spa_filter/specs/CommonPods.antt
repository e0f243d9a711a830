-- The value to which two filter, from their pods to its pod.
use Rattle.std.specs.Prelude.{⊤, ◌≡◌, ◌≢◌, ◌↔◌, ℕ, Bool, Contains, IsTrue, List, [], ◌∷◌, ◌++◌, map}
use Rattle.spa_format.specs.Words.{word_at}
use Rattle.spa_format.specs.Kind.{Kind, Fixed, content}
use Rattle.spa_format.specs.Tree.{Tree, choice, choice_type, enum_choice, range_choice, type_of}
use Rattle.spa_format.specs.Pod.{IsBody}
use Rattle.spa_format.specs.Writable.{IsTooLarge}
use Rattle.spa_filter_offers.specs.Admits.{Admits, AreSupported, IsMeeting, IsPlain, IsSupported}
use Rattle.spa_filter_offers.specs.Offers.{MeetsIn, OfferAdmits, default_of}
use Rattle.spa_keyed_objects.specs.CanonicalPods.{IsCanonicalPod}
use Rattle.spa_filter.specs.Refusals.{IsValueRefusal}
use Rattle.spa_filter.specs.Values.{AreApart}
use Rattle.spa_filter.specs.declared.error.FilterError.{FilterError}
use Rattle.spa_filter.specs.declared.error.FilterError.TheVariants as error
use Rattle.spa_filter.specs.declared.enums.Side.{Side}
use Rattle.spa_filter.specs.declared.enums.Side.TheVariants.{Values, Offered}
use Rattle.spa_filter.specs.declared.refused.Refused.{Refused}
use Rattle.spa_filter.specs.declared.refused.Refused.TheVariants.{Apart, TooLarge, OutOfMemory}

-- the value is of this type, and these bytes are a body of it
pub record HasBody (v : Tree) (type : ℕ) (body : List ℕ) : Type 0 where
  pub its_type : type_of v ≡ type
  pub content : IsBody v body

-- the canonical pod of the value was appended
pub record IsAppended (y : Tree) (old new : List ℕ) : Type 0 where
  pub pod : List ℕ
  pub written : IsCanonicalPod y pod
  pub parts : new ≡ old ++ pod

-- the two values are supported, and the canonical pod of a value to which they filter was appended
pub record IsCommonAppended (v w : Tree) (old new : List ℕ) : Type 0 where
  pub value : Tree
  pub supported : AreSupported v w
  pub meeting : IsMeeting v w value
  pub appended : IsAppended value old new

-- the value v is plain, and the choice w is supported and admits it
pub record IsOffered (v w : Tree) : Type 0 where
  pub plain : IsPlain v
  pub supported : IsSupported w
  pub admitted : Admits w v

-- the Enum with this body has this default, and these are the bodies of its values, the default's first
pub record AreEnumValues (k : Kind) (default : Fixed) (values : List (List ℕ)) (body : List ℕ) : Type 0 where
  pub flags : ℕ
  pub others : List Fixed
  pub contents : map (content k) values ≡ default ∷ others
  pub its_body : IsBody (choice enum_choice flags k default others) body

-- the body is that of an Enum, and the element is one of its values, or isn't
pub record IsValueOf (k : Kind) (x : Fixed) (body : List ℕ) (is : Bool) : Type 0 where
  pub default : Fixed
  pub values : List (List ℕ)
  pub are_values : AreEnumValues k default values body
  pub is_one : IsTrue is ↔ Contains (map (content k) values) x

-- one choice of a pair admits the element x, where `f` gives the element of a value of the type
abbrev pub SideAdmits : {T : Type 0} → Kind → (T → Fixed) → Side T (List ℕ) → Fixed → Type 0
SideAdmits k f (Values default values) x = Contains (map (content k) values.now) x
SideAdmits k f (Offered offer) x = OfferAdmits f offer x

-- its default
abbrev pub side_default : {T : Type 0} → (T → Fixed) → Side T (List ℕ) → Fixed
side_default f (Values default values) = f default
side_default f (Offered offer) = default_of f offer

-- both of the facts L and R hold of exactly the elements of which both P and Q hold
pub record AreBoth (L R P Q : Fixed → Type 0) : Type 0 where
  pub each : (x : Fixed) → (L x × R x) ↔ (P x × Q x)

-- the canonical pod was appended of a value that admits exactly the elements of which both facts hold, with the first of the defaults d and e that
-- it may have
pub record IsMetAppended (P Q : Fixed → Type 0) (d e : Fixed) (old new : List ℕ) : Type 0 where
  pub value : Tree
  pub meets : MeetsIn P Q d e value
  pub appended : IsAppended value old new

-- why no pod of such a value was appended
abbrev pub IsMetRefused : (P Q : Fixed → Type 0) → (d e : Fixed) → Refused → Type 0
IsMetRefused P Q d e Apart = (x : Fixed) → ¬ (P x × Q x)
IsMetRefused P Q d e TooLarge = (value : Tree) × MeetsIn P Q d e value × IsTooLarge value
IsMetRefused P Q d e OutOfMemory = ⊤

-- the Range with this body has this default and these bounds
pub record IsRangeBody (k : Kind) (default low high : Fixed) (body : List ℕ) : Type 0 where
  pub flags : ℕ
  pub its_body : IsBody (choice range_choice flags k default (low ∷ high ∷ [])) body

-- the two are supported and filter to a value in whose encoding a size doesn't fit a word of 32 bits
pub record IsCommonTooLarge (v w : Tree) : Type 0 where
  pub value : Tree
  pub supported : AreSupported v w
  pub meeting : IsMeeting v w value
  pub large : IsTooLarge value

-- why no pod of a value to which the two filter was appended
abbrev pub IsCommonRefused : Tree → Tree → Refused → Type 0
IsCommonRefused v w Apart = AreApart v w
IsCommonRefused v w TooLarge = IsCommonTooLarge v w
IsCommonRefused v w OutOfMemory = ⊤

-- why the plain value v isn't one that the choice w admits
abbrev pub IsOfferRefused : Tree → Tree → Refused → Type 0
IsOfferRefused v w Apart = AreApart v w
IsOfferRefused v w TooLarge = ⊥
IsOfferRefused v w OutOfMemory = ⊤

-- the refusal of two values under a key, for which no pod was appended
abbrev pub IsPodRefusal : ℕ → Tree → Tree → FilterError → Type 0
IsPodRefusal key v w error.TooLarge = IsCommonTooLarge v w
IsPodRefusal key v w e = IsValueRefusal key v w e

-- why the choice with this body isn't read as one over this type: its child type, the word at byte 12 of the body, is another, or memory ran out
abbrev pub IsOfOtherType : ℕ → List ℕ → Refused → Type 0
IsOfOtherType type body Apart = (w : Tree) → HasBody w choice_type body → word_at body 12 ≢ type
IsOfOtherType type body TooLarge = ⊥
IsOfOtherType type body OutOfMemory = ⊤

-- why a value isn't written
abbrev pub IsUnwritten : Tree → Refused → Type 0
IsUnwritten y Apart = ⊥
IsUnwritten y TooLarge = IsTooLarge y
IsUnwritten y OutOfMemory = ⊤
