-- Two inputs that lack an object: docs/CAPI.md, "Negotiation".
use Rattle.std.specs.Prelude.{◌≡◌, ◌⊎◌, ℕ, List}
use Rattle.spa_format.specs.Front.{IsRefused}
use Rattle.spa_object_view.specs.Fronts.{BeginsObject, BeginsOther}
use Rattle.spa_keyed_objects.specs.declared.side.Side.{Side}
use Rattle.spa_keyed_objects.specs.declared.side.Side.TheVariants.{First, Second}

-- the number of an input
abbrev pub number_of : Side → ℕ
number_of First = 0
number_of Second = 1

-- no object is at the front: the front isn't there, is no pod, or is a pod of another type
abbrev pub LacksObject : List ℕ → Type 0
LacksObject input = IsRefused input ⊎ BeginsOther input

-- no object is at the front of the first input, or it is, and none is at the front of the second
abbrev pub HasNoObject : (a b : List ℕ) → ℕ → Type 0
HasNoObject a b side = ((side ≡ 0) × LacksObject a) ⊎ ((side ≡ 1) × BeginsObject a × LacksObject b)
