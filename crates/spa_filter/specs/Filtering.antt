-- When two objects can be filtered, and what their filter is: docs/NEGOTIATION.md, "To filter".
use Rattle.std.specs.Prelude.{⊤, ◌≡◌, ℕ, Option, Some, None, bit_and}
use Rattle.std.specs.List.{All}
use Rattle.spa_format.specs.Tree.{Tree, object, join_properties}
use Rattle.spa_keyed_objects.specs.Keys.{AtKey, HoldsAtKeys, Offered, keys_of}
use Rattle.spa_filter_offers.specs.Admits.{AreSupported, HasCommon, IsMeeting}
use Rattle.spa_filter.specs.Keys.{IsMandatory}

-- The flags and the value x are those to which the two sides filter under one key: where both have it, the flags that
-- both have, and a value that admits exactly what both values admit; where one has it, the flags and the value of that one.
abbrev pub Filters : Option Offered → Option Offered → ℕ → Tree → Type 0
Filters (Some a) (Some b) flags x = (flags ≡ bit_and a.flags b.flags) × IsMeeting a.value b.value x
Filters (Some a) None flags x = (flags ≡ a.flags) × (x ≡ a.value)
Filters None (Some b) flags x = (flags ≡ b.flags) × (x ≡ b.value)
Filters None None flags x = ⊥

-- the two sides agree under a key: where both have it, both values are supported and some value is admitted by
-- both; where one has it, it isn't mandatory there
abbrev pub Agree : Option Offered → Option Offered → Type 0
Agree (Some a) (Some b) = AreSupported a.value b.value × HasCommon a.value b.value
Agree (Some a) None = ¬ (IsMandatory a.flags)
Agree None (Some b) = ¬ (IsMandatory b.flags)
Agree None None = ⊤

-- the two objects are of one type, and agree under each key of either
abbrev pub CanFilter : Tree → Tree → Type 0
CanFilter (object type our_id ours) (object its_type its_id theirs) =
    (its_type ≡ type) × All (AtKey Agree ours theirs) (keys_of (join_properties ours theirs))
CanFilter _ _ = ⊥

-- The two objects, of one type, filter to the third, which has that type and the first's id. It has the keys of the first and then
-- those that only the second has, each once, with the flags and the value to which the two filter under it.
abbrev pub IsFilter : Tree → Tree → Tree → Type 0
IsFilter (object type our_id ours) (object its_type its_id theirs) (object met_type met_id met) =
    (its_type ≡ type) × (met_type ≡ type) × (met_id ≡ our_id)
    × HoldsAtKeys Filters ours theirs (join_properties ours theirs) met
IsFilter _ _ _ = ⊥
