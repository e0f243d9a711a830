-- Which values are supported: docs/NEGOTIATION.md, "Values". What a value admits is what it admits to filter.
use Rattle.std.specs.Prelude.{⊤}
use Rattle.spa_format.specs.Kind.{Kind, id_kind, int_kind, long_kind}
use Rattle.spa_format.specs.Tree.{none_choice, range_choice, enum_choice, Tree, choice}
pub use Rattle.spa_filter_offers.specs.Admits.{Admits, HasCommon, IsCommon, IsPlain, plain_of}

-- the kinds over which a Range is supported
abbrev pub IsRangeKind : Kind → Type 0
IsRangeKind id_kind = ⊤
IsRangeKind int_kind = ⊤
IsRangeKind long_kind = ⊤
IsRangeKind _ = ⊥

-- a plain value, a None choice, an Enum, or a Range over such a kind
abbrev pub IsSupported : Tree → Type 0
IsSupported (choice none_choice flags kind default values) = ⊤
IsSupported (choice enum_choice flags kind default values) = ⊤
IsSupported (choice range_choice flags kind default values) = IsRangeKind kind
IsSupported (choice _ flags kind default values) = ⊥
IsSupported _ = ⊤

-- both values are supported
abbrev pub AreSupported : Tree → Tree → Type 0
AreSupported v w = IsSupported v × IsSupported w
