-- The offer of a value, which elements of one type it admits, as the search for a common value uses it.
use Rattle.std.specs.Prelude.{⊤, ◌≡◌, ◌↔◌, ◌⊎◌, List, ◌∷◌, map, Contains, Option, Some, None, Bool, true, false, ◌&&◌}
use Rattle.std.specs.BTreeSet.{BTreeSet}
use Rattle.spa_format.specs.Kind.{Fixed}
use Rattle.spa_format.specs.Tree.{Tree, fixed}
use Rattle.spa_value.specs.View.{view}
use Rattle.spa_value.specs.declared.value.Value.{Value}
use Rattle.spa_filter_elements.specs.Order.{IsWithin}
use Rattle.spa_filter_elements.specs.Flags.{AreAmong}
use Rattle.spa_filter_elements.specs.Narrowing.{IsInStepsOf}
use Rattle.spa_filter_elements.specs.declared.stepped.Steps.{Steps}
use Rattle.spa_filter_offers.specs.Admits.{Admits, plain_of, choice_flags_of}
use Rattle.spa_filter_offers.specs.Numbering.{HasAll}
use Rattle.spa_filter_offers.specs.declared.numbers.Numbers.{Numbers}
use Rattle.spa_filter_offers.specs.declared.offer.Offer.{Offer}
use Rattle.spa_filter_offers.specs.declared.offer.Offer.TheVariants.{Only, Among, Between, Stepped, Masked}

-- the tree is that of an element: of fixed size
abbrev pub IsContent : Tree → Type 0
IsContent (fixed x) = ⊤
IsContent _ = ⊥

-- the offer admits the element x, where `f` gives the element of a value of the type
abbrev pub OfferAdmits : {T : Type 0} → (T → Fixed) → Offer T → Fixed → Type 0
OfferAdmits f (Only default) x = x ≡ f default
OfferAdmits f (Among default others) x = Contains (f default ∷ map f others.now) x
OfferAdmits f (Between default low high) x = IsWithin (f low) (f high) x
OfferAdmits f (Stepped default steps) x = IsInStepsOf f steps x
OfferAdmits f (Masked default) x = AreAmong x (f default)

-- the offer is that of a Flags choice
abbrev pub is_masked : {T : Type 0} → Offer T → Bool
is_masked (Masked default) = true
is_masked _ = false

-- the offer is that of a Range or a Step choice
abbrev pub has_bounds : {T : Type 0} → Offer T → Bool
has_bounds (Between default low high) = true
has_bounds (Stepped default steps) = true
has_bounds _ = false

-- there is a shape of choices for what both offers admit: not so of Flags and a Range or a Step
abbrev pub AreOffersSayable : {T : Type 0} → Offer T → Offer T → Type 0
AreOffersSayable a b = ((is_masked a && has_bounds b) ≡ false) × ((has_bounds a && is_masked b) ≡ false)

-- the default of the offer
abbrev pub default_of : {T : Type 0} → (T → Fixed) → Offer T → Fixed
default_of f (Only default) = f default
default_of f (Among default others) = f default
default_of f (Between default low high) = f default
default_of f (Stepped default steps) = f default
default_of f (Masked default) = f default

-- a value with this tree admits exactly the elements of which the fact holds, and has this default
pub record IsOffer (value : Tree) (Admitted : Fixed → Type 0) (default : Fixed) : Type 0 where
  pub each : (x : Fixed) → Admits value (fixed x) ↔ Admitted x
  pub only : (x : Tree) → Admits value x → IsContent x
  pub default_is : plain_of value ≡ fixed default

-- the offer is one of a value with this tree
abbrev pub IsOfferOf : {T : Type 0} → (T → Fixed) → Tree → Offer T → Type 0
IsOfferOf f value offer = IsOffer value (OfferAdmits f offer) (default_of f offer)

-- x is the first of the defaults d and e of which both facts hold, and both hold of x in any case
pub record IsDefault (P Q : Fixed → Type 0) (d e x : Fixed) : Type 0 where
  pub admitted : P x × Q x
  pub first : P d × Q d → x ≡ d
  pub second : ¬ (P d × Q d) → P e × Q e → x ≡ e

-- a value with this tree admits exactly the elements of which both facts hold, its default is the first of d and e that it may be, and it
-- has the flags 0
pub record MeetsIn (P Q : Fixed → Type 0) (d e : Fixed) (value : Tree) : Type 0 where
  pub default : Fixed
  pub is_default : IsDefault P Q d e default
  pub offers : IsOffer value (λ x. P x × Q x) default
  pub no_flags : choice_flags_of value ≡ 0

-- None answers that there is no element of which both facts hold; a value that is answered admits exactly those
abbrev pub Outcome : (P Q : Fixed → Type 0) (d e : Fixed) → Option Value → Type 0
Outcome P Q d e None = (x : Fixed) → ¬ (P x × Q x)
Outcome P Q d e (Some value) = MeetsIn P Q d e (view value)

-- the answer is that of two offers: None where no element is admitted by both, or a value that admits exactly what both admit
abbrev pub OffersMeet : {T : Type 0} → (T → Fixed) → Offer T → Offer T → Option Value → Type 0
OffersMeet f a b met = Outcome (OfferAdmits f a) (OfferAdmits f b) (default_of f a) (default_of f b) met

-- the index fits the offer: for an Enum it has the search keys of the default and of the alternatives
abbrev pub IsIndexed : {T : Type 0} → (T → Fixed) → Offer T → BTreeSet Numbers → Type 0
IsIndexed f (Among default others) index = HasAll index (f default ∷ map f others.now)
IsIndexed f _ index = ⊤

-- `kept` has exactly those elements of the list that are admitted
pub record IsKept (Admitted : Fixed → Type 0) (contents kept : List Fixed) : Type 0 where
  pub each : (x : Fixed) → Contains kept x ↔ (Contains contents x × Admitted x)

-- `new` has the elements of `old`, and one more element where it is admitted
pub record IsOneMoreKept (Admitted : Fixed → Type 0) (content : Fixed) (old new : List Fixed) : Type 0 where
  pub each : (x : Fixed) → Contains new x ↔ (Contains old x ⊎ ((x ≡ content) × Admitted x))

-- both offers admit no element but this one
abbrev pub IsOnly : {T : Type 0} → (T → Fixed) → Offer T → Offer T → Fixed → Type 0
IsOnly f a b x = (c : Fixed) → OfferAdmits f a c → OfferAdmits f b c → c ≡ x

-- these are exactly the elements that both offers admit
pub record AreKept {T : Type 0} (f : T → Fixed) (a b : Offer T) (contents : List Fixed) : Type 0 where
  pub each : (x : Fixed) → Contains contents x ↔ (OfferAdmits f a x × OfferAdmits f b x)

-- both offers admit exactly the elements from low to high
pub record AreBetween {T : Type 0} (f : T → Fixed) (a b : Offer T) (low high : Fixed) : Type 0 where
  pub each : (x : Fixed) → IsWithin low high x ↔ (OfferAdmits f a x × OfferAdmits f b x)

-- both offers admit exactly these multiples
pub record AreStepped {T : Type 0} (f : T → Fixed) (a b : Offer T) (steps : Steps T) : Type 0 where
  pub each : (x : Fixed) → IsInStepsOf f steps x ↔ (OfferAdmits f a x × OfferAdmits f b x)

-- the offer isn't one of a plain value or a None choice, nor of an Enum
abbrev pub IsWide : {T : Type 0} → Offer T → Type 0
IsWide (Only default) = ⊥
IsWide (Among default others) = ⊥
IsWide _ = ⊤

-- r has exactly the bits that m and n share, and is the first of the two that has no other bits, where there is one
pub record IsSharedMask (m n r : Fixed) : Type 0 where
  pub each : (x : Fixed) → AreAmong x r ↔ (AreAmong x m × AreAmong x n)
  pub first : AreAmong m n → r ≡ m
  pub second : ¬ (AreAmong m n) → AreAmong n m → r ≡ n

-- the answer is that of two Flags choices with these masks
abbrev pub MaskedMeet : {T : Type 0} → (T → Fixed) → T → T → Option Value → Type 0
MaskedMeet f m n met = Outcome (λ x. AreAmong x (f m)) (λ x. AreAmong x (f n)) (f m) (f n) met
