-- The answer of the search for the value to which two filter.
use Rattle.std.specs.Prelude.{Option, Some, None}
use Rattle.spa_format.specs.Tree.{Tree}
use Rattle.spa_value.specs.View.{view}
use Rattle.spa_value.specs.declared.value.Value.{Value}
use Rattle.spa_filter_offers.specs.Admits.{AreSupported, HasCommon, IsMeeting}

-- the two aren't supported, or no value is admitted by both
abbrev pub AreApart : Tree → Tree → Type 0
AreApart v w = AreSupported v w → ¬ (HasCommon v w)

-- None answers that the two are apart; a value that is answered admits exactly what both admit, which are supported
abbrev pub ValuesMeet : Tree → Tree → Option Value → Type 0
ValuesMeet v w None = AreApart v w
ValuesMeet v w (Some y) = AreSupported v w × IsMeeting v w (view y)
