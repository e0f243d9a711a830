-- A gain: which object says it, and why none is read.
use Rattle.std.specs.Prelude.{◌≡◌, ◌≢◌, ℕ, ◌⊎◌, List, false}
use Rattle.std.specs.Borrow.{Bor}
use Rattle.libspa.specs.Asking.{RefusesAsked, of_type}
use Rattle.libspa.specs.DeserializeError.{DeserializeError}
use Rattle.libspa.specs.DeserializeErrors as error
use Rattle.libspa.specs.Kind.{float, float_kind, type_number}
use Rattle.libspa.specs.Members.{ObjectReader, RefusesNext}
use Rattle.libspa.specs.Tree.{Tree, Properties, fixed, no_properties, object, property}
use Rattle.libspa.specs.Visiting.{DeclinesExactlyIn}
use Rattle.spa_names.specs.declared.keys.TheConstants.{PROP_VOLUME}
use Rattle.spa_names.specs.declared.types.TheConstants.{OBJECT_PROPS}
use Rattle.example_types.specs.declared.gain.Gain.{Gain}

-- the one property of a gain, with its flags, and the object of it
abbrev pub gain_properties : Gain → Properties
gain_properties g = property PROP_VOLUME g.flags.0 (fixed (float g.volume.0)) no_properties

-- the object as which a gain is written
abbrev pub gain_tree : Gain → Tree
gain_tree g = object OBJECT_PROPS g.id (gain_properties g)

-- an object of this type and id, with these properties, is that of the gain
pub record IsGain (type id : ℕ) (properties : Properties) (g : Gain) : Type 0 where
  pub its_type : type ≡ OBJECT_PROPS
  pub its_id : id ≡ g.id
  pub its_properties : properties ≡ gain_properties g

-- the object is of another type, or its first property is refused as a volume
abbrev pub RefusesGain : ℕ → List ℕ → DeserializeError (Bor (List ℕ)) → Type 0
RefusesGain type b e =
    ((type ≢ OBJECT_PROPS) × (e ≡ error.UnsupportedType)) ⊎ RefusesNext (RefusesAsked (of_type (type_number float_kind)) ⊥) PROP_VOLUME b e

-- an object's properties are declined only where they are no gain's, by the cause, and never for lack of memory
pub record DeclinesGain (lent now : ObjectReader) (e : DeserializeError (Bor (List ℕ))) : Type 0 where
  pub exactly : DeclinesExactlyIn IsGain ⊥ lent now e
  pub cause : lent.reader.failed ≡ false → RefusesGain lent.type lent.reader.left e
