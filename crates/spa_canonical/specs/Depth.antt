-- How deep structs and objects stand in one another, in a value and in any bytes: docs/FORMAT.md, "Values", "Walks over views".
use Rattle.std.specs.Prelude.{ℕ, suc, zero, ◌+◌, ◌≤◌, ◌⊎◌, Bool, List, [], ◌∷◌, drop, max}
use Rattle.spa_format.specs.Words.{body_of, word_at}
use Rattle.spa_format.specs.Front.{HasFront}
use Rattle.spa_format.specs.Walk.{walk_behind}
use Rattle.spa_format.specs.Tree.{Tree, struct, object, Trees, no_trees, member, Properties, no_properties, property}
use Rattle.spa_events.specs.Inside.{IsContainer, IsInside, key_size}
use Rattle.spa_canonical.specs.Canonical.{AreCanonical}

-- One for a struct or an object, and what its deepest member or property has. No other value holds pods.
abbrev mutual
  pub depth_of : Tree → ℕ
  depth_of (struct vs) = 1 + member_depth vs
  depth_of (object t i ps) = 1 + property_depth ps
  depth_of _ = 0

  pub member_depth : Trees → ℕ
  member_depth no_trees = 0
  member_depth (member v vs) = max (depth_of v) (member_depth vs)

  pub property_depth : Properties → ℕ
  property_depth no_properties = 0
  property_depth (property key flags v ps) = max (depth_of v) (property_depth ps)

-- this holds of one of these lists of bytes, or more
abbrev pub SomeOf : (List ℕ → Type 0) → List (List ℕ) → Type 0
SomeOf P [] = ⊥
SomeOf P (b ∷ bs) = P b ⊎ SomeOf P bs

-- More than so many structs and objects stand in one another at the front of any bytes: the walk inside one finds the next.
unfoldable pub NestsDeeper : ℕ → List ℕ → Type 0
NestsDeeper zero b = HasFront b × IsContainer (word_at b 4)
NestsDeeper (suc n) b =
    HasFront b
    × (keyed : Bool) × (inside : List ℕ) × IsInside (word_at b 4) (body_of b) keyed inside
    × SomeOf (λ p. NestsDeeper n (drop (key_size keyed) p)) (walk_behind (key_size keyed) inside)

-- one of the pods inside a container nests deeper than so many levels
abbrev pub NestsDeeperInside : (levels : ℕ) → (keyed : Bool) → (inside : List ℕ) → Type 0
NestsDeeperInside n keyed inside = SomeOf (λ p. NestsDeeper n (drop (key_size keyed) p)) (walk_behind (key_size keyed) inside)

-- a pod of this type with this body nests deeper than so many levels
abbrev pub IsDeepBody : (levels type : ℕ) → (body : List ℕ) → Type 0
IsDeepBody zero type body = IsContainer type
IsDeepBody (suc n) type body = (keyed : Bool) × (inside : List ℕ) × IsInside type body keyed inside × NestsDeeperInside n keyed inside

-- how many levels of a pod are looked into
abbrev pub levels_looked_into : ℕ
levels_looked_into = 1000

-- canonical pods one after another that nest in so many levels at most
pub record AreShallow (levels : ℕ) (body : List ℕ) : Type 0 where
  pub pods : AreCanonical body
  pub shallow : member_depth pods.values ≤ levels
