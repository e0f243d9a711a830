-- Flags, as the bits of elements: docs/NEGOTIATION.md, "What a value admits to filter".
use Rattle.std.specs.Prelude.{⊤, ◌≡◌, ◌≢◌, ℕ, bit_and}
use Rattle.std.specs.Int.{w32, w64, cast_unsigned}
use Rattle.spa_format.specs.Kind.{Kind, id_kind, int_kind, long_kind, Fixed, id, int, long}

-- x has at least one bit, and no bits but those of m
abbrev pub AreSomeOf : (x m : ℕ) → Type 0
AreSomeOf x m = (x ≢ 0) × (bit_and x m ≡ x)

-- two elements of one kind of flags, of which the first has at least one bit, and no bits but those of the second
abbrev pub AreAmong : Fixed → Fixed → Type 0
AreAmong (id x) (id m) = AreSomeOf x m
AreAmong (int x) (int m) = AreSomeOf (cast_unsigned w32 x) (cast_unsigned w32 m)
AreAmong (long x) (long m) = AreSomeOf (cast_unsigned w64 x) (cast_unsigned w64 m)
AreAmong _ _ = ⊥

-- the kinds that may be flags
abbrev pub IsFlagKind : Kind → Type 0
IsFlagKind id_kind = ⊤
IsFlagKind int_kind = ⊤
IsFlagKind long_kind = ⊤
IsFlagKind _ = ⊥
