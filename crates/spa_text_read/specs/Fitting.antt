-- Values of the types that belong under their keys: docs/TEXT.md, "Strict reading".
use Rattle.std.specs.Prelude.{◌≡◌, ⊤, ℕ, Bool, true, ◌==◌, ◌||◌, ◌&&◌, nat_lt, if◌then◌else◌}
use Rattle.spa_format.specs.Kind.{int_kind, none_kind, type_number}
use Rattle.spa_format.specs.Tree.{Tree, array, choice, struct, object, Trees, no_trees, member, Properties, no_properties, property, array_type, string_type, struct_type, type_of}
use Rattle.spa_names.specs.declared.entry.Expected.{Expected}
use Rattle.spa_names.specs.declared.keys.TheConstants.{PARAM_ROUTE_DEVICES, PARAM_ROUTE_PROFILES}
use Rattle.spa_names.specs.declared.types.TheConstants.{OBJECT_PARAM_ROUTE}
use Rattle.spa_utils.specs.declared.types.TheConstants.SpaTypes as types
use Rattle.spa_text_read.specs.Names.{keys_of, expected_under}
use Rattle.spa_text_read.specs.declared.fitting.FullType.{FullType}
use Rattle.spa_text_read.specs.declared.fitting.Strictness.{Strictness}
use Rattle.spa_text_read.specs.declared.fitting.Strictness.TheVariants.{Plain, Strict}

-- a type, and of an array also that of its elements
abbrev pub full : (type element : ℕ) → FullType
full type element = record { type_ = record { 0 = type }; element = record { 0 = element } }

-- the type of a value: of a choice that of its values, of an object the object's own
abbrev pub full_type : Tree → FullType
full_type (array k xs) = full array_type (type_number k)
full_type (choice s f k x xs) = full (type_number k) 0
full_type (object t i ps) = full t 0
full_type v = full (type_of v) 0

-- the keys of routes whose values are arrays of Ints, by the comments in PipeWire's header and in the routes that PipeWire makes: its table says Int
abbrev pub has_indexes : (type key : ℕ) → Bool
has_indexes type key = type == OBJECT_PARAM_ROUTE && (key == PARAM_ROUTE_PROFILES || key == PARAM_ROUTE_DEVICES)

abbrev pub of_expected : Expected → FullType
of_expected e = full e.type_.0 e.element.0

-- the type that belongs under a key of an object of this type: that of PipeWire's table, but for those two
abbrev pub type_under : (type key : ℕ) → FullType
type_under type key = if has_indexes type key then full array_type (type_number int_kind) else of_expected (expected_under (keys_of type) key)

-- nothing is known of what belongs there, or any pod does
abbrev pub is_open : ℕ → Bool
is_open type = type == 0 || type == types.Pod.0

-- the types of objects, which are events, commands and parameters, have numbers above this one, 0x20000
abbrev pub object_types : ℕ
object_types = 131072

-- PipeWire's parser takes None there, as a value that is missing: a String, a Struct, or an object
abbrev pub may_miss : ℕ → Bool
may_miss type = type == string_type || (type == struct_type || nat_lt object_types type)

-- where one type belongs, a value of the other may stand
abbrev pub takes : (wanted found : FullType) → Bool
takes w f =
    is_open w.type_.0 || ((w.type_.0 == f.type_.0 && w.element.0 == f.element.0) || (f.type_.0 == type_number none_kind && may_miss w.type_.0))

abbrev pub fits_under : (type key : ℕ) → Tree → Bool
fits_under type key v = takes (type_under type key) (full_type v)

abbrev mutual
  -- under each key, in all objects inside the value, stands a value of the type that belongs there
  pub Fits : Tree → Type 0
  Fits (struct vs) = AllFit vs
  Fits (object t i ps) = PropertiesFit t ps
  Fits _ = ⊤

  pub AllFit : Trees → Type 0
  AllFit no_trees = ⊤
  AllFit (member v vs) = Fits v × AllFit vs

  -- under the key of each of these properties of an object of this type, and in all objects inside their values, stands a value of the type that belongs there
  pub PropertiesFit : (type : ℕ) → Properties → Type 0
  PropertiesFit t no_properties = ⊤
  PropertiesFit t (property k f v ps) = (fits_under t k v ≡ true) × Fits v × PropertiesFit t ps

-- a value may be read: strictly only where it fits
abbrev pub Admits : Strictness → Tree → Type 0
Admits Plain v = ⊤
Admits Strict v = Fits v
