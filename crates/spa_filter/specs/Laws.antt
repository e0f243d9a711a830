-- Laws of the values to which two values filter: docs/NEGOTIATION.md, "To filter".
use Rattle.std.specs.Prelude.{◌↔◌}
use Rattle.spa_format.specs.Tree.{Tree}
use Rattle.spa_filter_offers.specs.Admits.{Admits, IsMeeting}

-- the two values admit the same
abbrev pub AdmitTheSame : Tree → Tree → Type 0
AdmitTheSame y z = (x : Tree) → Admits y x ↔ Admits z x

-- in either order two values filter to values that admit the same
abbrev pub MeetingsCommute : Type 0
MeetingsCommute = (v w y z : Tree) → IsMeeting v w y → IsMeeting w v z → AdmitTheSame y z

-- a value to which two filter, filtered again by the second, admits the same as before
abbrev pub MeetingsRepeat : Type 0
MeetingsRepeat = (v w y z : Tree) → IsMeeting v w y → IsMeeting y w z → AdmitTheSame y z

-- three values filter to values that admit the same, whether the first two or the last two are filtered first
abbrev pub MeetingsNarrow : Type 0
MeetingsNarrow =
    (u v w p q y z : Tree) → IsMeeting u v p → IsMeeting p w y → IsMeeting v w q → IsMeeting u q z →
    AdmitTheSame y z
