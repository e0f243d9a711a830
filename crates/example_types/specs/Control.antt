-- An object of which one property is known.
use Rattle.std.specs.Prelude.{◌≡◌, ◌≢◌, ℕ, List}
use Rattle.std.specs.List.{All}
use Rattle.libspa.specs.Kind as kind
use Rattle.libspa.specs.Encoding.{encoding_of}
use Rattle.libspa.specs.Front.{Begins}
use Rattle.libspa.specs.Tree.{Tree, fixed, object, join_properties, property}
use Rattle.libspa.specs.Writable.{IsWritable}
use Rattle.libspa.specs.Views.{property_views}
use Rattle.spa_names.specs.declared.keys.TheConstants.{PROP_VOLUME}
use Rattle.example_types.specs.declared.control.Control.{Control}

-- the object of a control with this volume, by its bits: the properties before it, the volume's, and those behind it
abbrev pub tree_with : Control → ℕ → Tree
tree_with c volume =
    object c.type_ c.id
    (join_properties (property_views c.before.properties.items)
    (property PROP_VOLUME c.flags.0 (fixed (kind.float volume)) (property_views c.behind.properties.items)))

-- the object of a control with its own volume
abbrev pub control_tree : Control → Tree
control_tree c = tree_with c c.volume.0

-- a value is read as this control: it is the control's object, and none of the properties before is a volume
pub record IsControl (c : Control) (v : Tree) : Type 0 where
  pub tree : v ≡ control_tree c
  pub first : All (λ p. p.key ≢ PROP_VOLUME) c.before.properties.items

-- the value is an object
abbrev pub IsObject : Tree → Type 0
IsObject (object type id ps) = Unit {0}
IsObject _ = ⊥

-- no control is read from this value, or from what an input begins with
abbrev pub IsNoControl : Tree → Type 0
IsNoControl v = (c : Control) → ¬ (IsControl c v)

-- the front of the bytes is a pod of no control, or of no value
abbrev pub BeginsNoControl : List ℕ → Type 0
BeginsNoControl b = (v : Tree) → Begins b v → IsNoControl v

-- an input begins with a control, which with this volume is written as these bytes
pub record IsChanged (input : List ℕ) (volume : ℕ) (bytes : List ℕ) : Type 0 where
  pub control : Control
  pub value : Tree
  pub begins : Begins input value
  pub is_read : IsControl control value
  pub encoding : bytes ≡ encoding_of (tree_with control volume)

-- an input begins with a control, which with this volume can't be written
pub record IsUnwritable (input : List ℕ) (volume : ℕ) : Type 0 where
  pub control : Control
  pub value : Tree
  pub begins : Begins input value
  pub is_read : IsControl control value
  pub unwritable : ¬ (IsWritable (tree_with control volume))
