-- The path from a refused pod to the malformed one inside it: docs/TEXT.md, "What is said of a refused pod".
use Rattle.std.specs.Prelude.{◌≡◌, ◌≢◌, ◌≤◌, ◌<◌, ◌+◌, ◌&&◌, if◌then◌else◌, ℕ, codes, List, [], ◌++◌, Option, Some, None, length, drop, nat_eq, nat_le, nat_lt, unwrap_or}
use Rattle.std.specs.Fmt.{decimal}
use Rattle.spa_fixed_sized.specs.declared.fault.Refusal.{Refusal}
use Rattle.spa_format.specs.Faults.{Fault, Stands}
use Rattle.spa_format.specs.Front.{HasFront, rest_of}
use Rattle.spa_format.specs.Pod.{AreMembers, AreProperties}
use Rattle.spa_format.specs.Tree.{Trees, Properties, object_type, struct_type}
use Rattle.spa_format.specs.Walk.{walk}
use Rattle.spa_format.specs.Words.{body_of, extent, header_size, word_at}
use Rattle.spa_bodies.specs.Refusing.{Says, StandsInMembers, StandsInProperties}
use Rattle.spa_canonical.specs.Look.{Scope, StandsAt, from_members, from_pod, from_properties}
use Rattle.spa_names.specs.Lookup.{keys_of, name_of}
use Rattle.spa_names.specs.declared.table.Table.TheVariants.{Types}
use Rattle.spa_refusals.specs.declared.names.TypeName.{TypeName}
use Rattle.spa_refusals.specs.declared.names.TypeName.TheVariants.{Named, Numbered}

-- ---- Names

-- how many bytes the type of an object takes, at the front of its body
abbrev pub object_type_size : ℕ
object_type_size = 4

-- the number of a type; of an object, whose body has room for one, that of the object's type
abbrev pub number_of : (type : ℕ) → (body : List ℕ) → ℕ
number_of type body =
    if nat_eq type object_type && nat_le object_type_size (length body) then word_at body 0 else type

-- the number of the type of the pod at the front
abbrev pub type_number : List ℕ → ℕ
type_number pod = number_of (word_at pod 4) (body_of pod)

-- a type's name, or its number where it has none
abbrev pub type_text : ℕ → List ℕ
type_text type = unwrap_or (name_of Types type) (codes "type " ++ decimal type)

abbrev pub name_text : TypeName → List ℕ
name_text (Named name) = name.now
name_text (Numbered number) = codes "type " ++ decimal number

-- that of the pod at the front, where its header is there
unfoldable pub type_name : List ℕ → Option (List ℕ)
type_name pod = if nat_lt (length pod) header_size then None else Some (type_text (type_number pod))

-- the name of a key of objects of this type
unfoldable pub key_name : (type key : ℕ) → Option (List ℕ)
key_name type key = name_of (keys_of (record { 0 = type })) key

-- ---- Steps

-- the step to the value of a property: the key's name, or its number where it has none
abbrev pub named_step : Option (List ℕ) → ℕ → List ℕ
named_step None key = codes "." ++ decimal key
named_step (Some name) key = codes "." ++ name

abbrev pub key_step : (type key : ℕ) → List ℕ
key_step type key = named_step (key_name type key) key

-- the step to a member, behind so many others
abbrev pub member_step : ℕ → List ℕ
member_step n = codes "[" ++ (decimal n ++ codes "]")

-- Bytes that should be members: behind some first ones begins another one, to which this step is added.
pub record HoldsMember (members path inner new : List ℕ) : Type 0 where
  pub values : Trees
  pub first : List ℕ
  pub whole : members ≡ first ++ inner
  pub read : AreMembers values first
  pub some : inner ≢ []
  pub step : new ≡ path ++ member_step (length (walk first))

-- Bytes that should be properties, in an object of this type: behind some first ones begins the value of another one.
pub record HoldsProperty (type : ℕ) (properties path inner new : List ℕ) : Type 0 where
  pub values : Properties
  pub first : List ℕ
  pub left : List ℕ
  pub whole : properties ≡ first ++ left
  pub read : AreProperties values first
  pub long : header_size ≤ length left
  pub value : inner ≡ drop header_size left
  pub step : new ≡ path ++ key_step type (word_at left 0)

-- the bytes are the body of an object: behind its type and its id, and some first properties, begins the value of another one
abbrev pub HoldsValue : (body path inner new : List ℕ) → Type 0
HoldsValue body path inner new = (header_size ≤ length body) × HoldsProperty (word_at body 0) (drop header_size body) path inner new

-- a step from the struct or the object at the front to a pod inside
pub data StepsTo (pod path inner new : List ℕ) : Type 0 where
  member : HasFront pod → word_at pod 4 ≡ struct_type → HoldsMember (body_of pod) path inner new → StepsTo pod path inner new
  property : HasFront pod → word_at pod 4 ≡ object_type → HoldsValue (body_of pod) path inner new → StepsTo pod path inner new

-- steps lead by this path to a pod inside
pub data LeadsTo (pod : List ℕ) : (path inner : List ℕ) → Type 0 where
  itself : LeadsTo pod [] pod
  further : (path new next inner : List ℕ) → LeadsTo pod path next → StepsTo next path inner new → LeadsTo pod new inner

-- all properties are read, and too few bytes for another one follow
abbrev pub HaveRead : List ℕ → Type 0
HaveRead properties =
    (ps : Properties) × (first : List ℕ) × (left : List ℕ) × (properties ≡ first ++ left) × AreProperties ps first × (length left < header_size)

-- no pod inside the one at the front is refused
pub data IsInnermost (pod : List ℕ) : Type 0 where
  cut_off : ¬ (HasFront pod) → IsInnermost pod
  holds_none : word_at pod 4 ≢ struct_type → word_at pod 4 ≢ object_type → IsInnermost pod
  members_read : word_at pod 4 ≡ struct_type → (vs : Trees) → AreMembers vs (body_of pod) → IsInnermost pod
  short_object : word_at pod 4 ≡ object_type → length (body_of pod) < header_size → IsInnermost pod
  properties_read : word_at pod 4 ≡ object_type → HaveRead (drop header_size (body_of pod)) → IsInnermost pod

-- the path to the innermost refused pod
pub record IsPath (pod path inner : List ℕ) : Type 0 where
  pub leads : LeadsTo pod path inner
  pub ends : IsInnermost inner

-- ---- Only private clauses cite these.

-- a fault stands at this place in the pod at the front, in members, or in properties
abbrev pub StandsIn : Scope → (bytes place : List ℕ) → Fault → Type 0
StandsIn from_pod bytes place fault = Stands fault place bytes
StandsIn from_members bytes place fault = StandsInMembers bytes place fault
StandsIn from_properties bytes place fault = StandsInProperties bytes place fault

-- the refusal names one that stands there, and at this offset
abbrev pub IsFaultIn : Scope → (bytes place : List ℕ) → (at : ℕ) → Refusal → Type 0
IsFaultIn scope bytes place at = Says (λ fault. StandsIn scope bytes place fault × StandsAt fault scope at bytes) ⊥

-- the fault at this offset is no further than the end of the pod at the front, and there only where nothing is left at its place
abbrev pub IsWithin : (pod place : List ℕ) → (at : ℕ) → Type 0
IsWithin pod place at = HasFront pod → (at ≤ extent (word_at pod 0)) × (at ≡ extent (word_at pod 0) → place ≡ [])

-- the fault at this offset is behind the pod at the front, and so far into what follows it
pub record IsBehind (pod place : List ℕ) (at : ℕ) (rest : List ℕ) (further : ℕ) : Type 0 where
  pub there : HasFront pod
  pub follows : rest ≡ rest_of pod
  pub offset : at ≡ extent (word_at pod 0) + further
  pub past : further ≡ 0 → place ≢ []
