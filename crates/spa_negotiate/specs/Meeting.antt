-- When two objects can meet, and in which object they do: docs/NEGOTIATION.md, "The rules".
use Rattle.std.specs.Prelude.{⊤, ◌≡◌, ℕ, Option, Some}
use Rattle.std.specs.List.{All}
use Rattle.spa_format.specs.Tree.{Tree, object}
use Rattle.spa_keyed_objects.specs.Keys.{AtKey, Offered, keys_of}
pub use Rattle.spa_filter.specs.Settling.{Settles}
use Rattle.spa_object_view.specs.Meeting.{Meets}
use Rattle.spa_negotiate.specs.Admits.{AreSupported, HasCommon, IsPlain}

-- the two sides agree under a key: one of them lacks it, or both values are supported and there is a value that both admit
abbrev pub Agree : Option Offered → Option Offered → Type 0
Agree (Some a) (Some b) = AreSupported a.value b.value × HasCommon a.value b.value
Agree _ _ = ⊤

-- The flags and the value x are those in which the two sides meet under one key: the flags are 0, and x is a plain value that
-- settles the key, under which the sides agree.
abbrev pub IsMetAt : Option Offered → Option Offered → ℕ → Tree → Type 0
IsMetAt ours theirs flags x = (flags ≡ 0) × IsPlain x × Agree ours theirs × Settles ours theirs x

-- the two objects are of one type, and agree under each key: one that only the second has keeps no two apart here
abbrev pub CanMeet : Tree → Tree → Type 0
CanMeet (object type our_id ours) (object its_type its_id theirs) =
    (its_type ≡ type) × All (AtKey Agree ours theirs) (keys_of ours)
CanMeet _ _ = ⊥

-- The two objects, of one type, meet in the third, which has that type and the first's id. It has the keys of the first and then
-- those that only the second has, each once, with the flags and the value in which the two meet under it.
abbrev pub Meet : Tree → Tree → Tree → Type 0
Meet = Meets IsMetAt
