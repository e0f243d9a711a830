-- The greater and the lesser of two elements, and the bits that two flags share.
use Rattle.std.specs.Prelude.{⊤, ◌↔◌}
use Rattle.spa_format.specs.Kind.{Kind, rectangle_kind, Fixed}
use Rattle.spa_filter_elements.specs.Order.{IsAtMost}
use Rattle.spa_filter_elements.specs.Flags.{AreAmong}

-- z is the join of x and y: an element is at least z exactly where it is at least both
pub record IsJoin (x y z : Fixed) : Type 0 where
  pub each : (u : Fixed) → IsAtMost z u ↔ (IsAtMost x u × IsAtMost y u)

-- z is the meet of x and y: an element is at most z exactly where it is at most both
pub record IsMeet (x y z : Fixed) : Type 0 where
  pub each : (u : Fixed) → IsAtMost u z ↔ (IsAtMost u x × IsAtMost u y)

-- of any two elements of this kind that are comparable with themselves, one is no greater than the other
abbrev pub IsChain : Kind → Type 0
IsChain rectangle_kind = ⊥
IsChain _ = ⊤

-- r has exactly the bits that m and n share
pub record IsShared (m n r : Fixed) : Type 0 where
  pub each : (x : Fixed) → AreAmong x r ↔ (AreAmong x m × AreAmong x n)
