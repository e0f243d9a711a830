-- Objects with plain values in place of choices: docs/TEXT.md, "Fixated objects with plain values".
use Rattle.std.specs.Prelude.{◌≡◌, ℕ, List, ◌++◌, if◌then◌else◌}
use Rattle.spa_format.specs.Encoding.{encoding_of, member_encodings}
use Rattle.spa_format.specs.Fixation.{may_fixate}
use Rattle.spa_format.specs.Front.{Begins}
use Rattle.spa_format.specs.Pod.{AreMembers}
use Rattle.spa_format.specs.Tree.{Tree, object, Trees, no_trees, member, Properties, no_properties, property}
use Rattle.spa_filter_offers.specs.Admits.{plain_of}

-- these properties, each choice as its plain default, but where the flags have DONT_FIXATE as it was
abbrev pub plain_properties : Properties → Properties
plain_properties no_properties = no_properties
plain_properties (property key flags v ps) = property key flags (if may_fixate flags then plain_of v else v) (plain_properties ps)

-- an object with its properties made plain; any other value as it was
abbrev pub plain_object : Tree → Tree
plain_object (object t i ps) = object t i (plain_properties ps)
plain_object v = v

abbrev pub plain_objects : Trees → Trees
plain_objects no_trees = no_trees
plain_objects (member v vs) = member (plain_object v) (plain_objects vs)

-- the encodings of the values of the input's pods, after `plain_object`
abbrev pub SettlesAll : (input out : List ℕ) → Type 0
SettlesAll input out = (vs : Trees) × AreMembers vs input × (out ≡ member_encodings (plain_objects vs))

-- the encoding of the value at the front, made plain, was added. Only private clauses cite it.
abbrev pub AddsPlain : (input old new : List ℕ) → Type 0
AddsPlain input old new = (v : Tree) × Begins input v × (new ≡ old ++ encoding_of (plain_object v))
