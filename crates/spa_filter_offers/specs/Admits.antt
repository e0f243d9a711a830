-- Which plain values a value admits to filter, and which values are supported: docs/NEGOTIATION.md, "What a
-- value admits to filter".
use Rattle.std.specs.Prelude.{⊤, ◌≡◌, ◌↔◌, ℕ, List, ◌∷◌, Contains, Bool, true, false, ◌&&◌}
use Rattle.spa_format.specs.Kind.{Kind, Fixed, kind_of}
use Rattle.spa_format.specs.Tree.{Shape, none_choice, range_choice, step_choice, enum_choice, flags_choice, Tree, fixed, choice}
use Rattle.spa_filter_elements.specs.Order.{IsWithin, IsOrderedKind}
use Rattle.spa_filter_elements.specs.Flags.{AreAmong, IsFlagKind}
use Rattle.spa_filter_elements.specs.Steps.{IsInSteps, IsStepKind}

-- the value isn't a choice
abbrev pub IsPlain : Tree → Type 0
IsPlain (choice shape flags kind default values) = ⊥
IsPlain _ = ⊤

-- the value itself where it is plain, and the default of a choice of any shape
abbrev pub plain_of : Tree → Tree
plain_of (choice shape flags kind default values) = fixed default
plain_of value = value

-- the flags of a choice itself; a plain value has none
abbrev pub choice_flags_of : Tree → ℕ
choice_flags_of (choice shape flags kind default values) = flags
choice_flags_of _ = 0

-- The element x is admitted by a choice of this shape, default and further values: by a None choice where it is the
-- default; by an Enum where it is the default or an alternative; by a Range where it is from the minimum to the maximum,
-- whatever the default is; by a Step where it is also a multiple of the step; by Flags where it has at least one bit, and
-- only bits of the default.
abbrev pub AdmitsContent : Shape → Fixed → List Fixed → Fixed → Type 0
AdmitsContent none_choice default values x = x ≡ default
AdmitsContent enum_choice default values x = Contains (default ∷ values) x
AdmitsContent range_choice default (low ∷ high ∷ values) x = IsWithin low high x
AdmitsContent step_choice default (low ∷ high ∷ step ∷ values) x = IsInSteps low high step x
AdmitsContent flags_choice default values x = AreAmong x default
AdmitsContent _ default values x = ⊥

-- the plain value x is admitted: by a plain value where it is the same, by a choice where it is an element that the choice admits
abbrev pub Admits : Tree → Tree → Type 0
Admits (choice shape flags kind default values) (fixed x) = AdmitsContent shape default values x
Admits (choice shape flags kind default values) x = ⊥
Admits value x = x ≡ value

-- the value admits no element of this kind
abbrev pub AdmitsNone : Kind → Tree → Type 0
AdmitsNone kind value = (x : Fixed) → Admits value (fixed x) → ¬ (kind_of x ≡ kind)

-- a plain value, a None choice, an Enum, a Range over an ordered kind, a Step over a kind that has steps, or
-- Flags over a kind of flags
abbrev pub IsSupported : Tree → Type 0
IsSupported (choice none_choice flags kind default values) = ⊤
IsSupported (choice enum_choice flags kind default values) = ⊤
IsSupported (choice range_choice flags kind default values) = IsOrderedKind kind
IsSupported (choice step_choice flags kind default values) = IsStepKind kind
IsSupported (choice flags_choice flags kind default values) = IsFlagKind kind
IsSupported _ = ⊤

-- the value is a Flags choice
abbrev pub is_flags : Tree → Bool
is_flags (choice flags_choice flags kind default values) = true
is_flags _ = false

-- the value is a Range or a Step choice
abbrev pub is_bounded : Tree → Bool
is_bounded (choice range_choice flags kind default values) = true
is_bounded (choice step_choice flags kind default values) = true
is_bounded _ = false

-- there is a shape of choices for what both values admit: not so of Flags and a Range or a Step
abbrev pub AreSayable : Tree → Tree → Type 0
AreSayable v w = ((is_flags v && is_bounded w) ≡ false) × ((is_bounded v && is_flags w) ≡ false)

-- both values are supported, and the pair is
abbrev pub AreSupported : Tree → Tree → Type 0
AreSupported v w = IsSupported v × IsSupported w × AreSayable v w

-- the value is admitted by both
abbrev pub IsCommon : Tree → Tree → Tree → Type 0
IsCommon v w x = Admits v x × Admits w x

-- there is a value that both admit
abbrev pub HasCommon : Tree → Tree → Type 0
HasCommon v w = (x : Tree) × IsCommon v w x

-- y admits exactly what both v and w admit. Its default, or itself where it is plain, is the first of their defaults that both
-- admit, and admitted by both in any case. A choice has the flags 0.
pub record IsMeeting (v w y : Tree) : Type 0 where
  pub each : (x : Tree) → Admits y x ↔ IsCommon v w x
  pub admitted : IsCommon v w (plain_of y)
  pub first : IsCommon v w (plain_of v) → plain_of y ≡ plain_of v
  pub second : ¬ (IsCommon v w (plain_of v)) → IsCommon v w (plain_of w) → plain_of y ≡ plain_of w
  pub no_flags : choice_flags_of y ≡ 0
