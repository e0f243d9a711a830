-- Properties that are looked up by their keys: docs/FORMAT.md, "A pod".
use Rattle.std.specs.Prelude.{◌≡◌, ◌≢◌, ◌==◌, if◌then◌else◌, ℕ, ◌≤◌, ◌<◌, ◌⊎◌, List, [], ◌++◌, length, drop, Option, Some, None, MatchOption}
use Rattle.std.specs.Borrow.{Bor}
use Rattle.spa_format.specs.Tree.{Tree, Properties, no_properties, property, object}
use Rattle.spa_format.specs.Pod.{AreProperties}
use Rattle.spa_format.specs.Words.{body_of, header_size, word_at}
use Rattle.spa_format.specs.Front.{HasFront, rest_of}
use Rattle.spa_bodies.specs.Reading.{IsRead, IsShortAt, Names, OnFault, OnMemory}
use Rattle.spa_bodies.specs.Refusing.{StandsInProperties}
use Rattle.spa_canonical.specs.Depth.{NestsDeeper, levels_looked_into}
use Rattle.spa_fixed_sized.specs.declared.fault.DeserializeError.TheVariants as error
use Rattle.spa_typed_read.specs.Asking.{LacksObject, ReadRefusal, RefusingRead}
use Rattle.spa_typed_read.specs.Members.{ObjectReader, OpensObject}

-- the value of the first property with this key; None where no property has it
abbrev pub value_under : ℕ → Properties → Option Tree
value_under key no_properties = None
value_under key (property k flags v ps) = if k == key then Some v else value_under key ps

-- there is a property with this key, and the fact holds of the value of the first one
abbrev pub HasFirst : ℕ → (Tree → Type 0) → Properties → Type 0
HasFirst key P ps = MatchOption (value_under key ps) ⊥ P

-- no property has this key
abbrev pub LacksProperty : ℕ → Properties → Type 0
LacksProperty key ps = value_under key ps ≡ None

-- these bytes are no properties one after another
abbrev pub AreNoProperties : List ℕ → Type 0
AreNoProperties b = (ps : Properties) → ¬ (AreProperties ps b)

-- A refusal of properties of any types: but for want of memory it says that these bytes are no properties, and names a fault that
-- stands in them. One for want of memory says that there is at least one byte.
pub record RefusesProperties (b : List ℕ) (e : ReadRefusal) : Type 0 where
  pub unread : OnFault (AreNoProperties b) e
  pub named : Names (λ k place. StandsInProperties b place k) e
  pub memory : OnMemory (b ≢ []) e

-- behind zero or more first properties, and a key and flags, there are bytes in which containers nest more than 1000 levels deep
pub record HoldsDeep (b : List ℕ) : Type 0 where
  pub properties : Properties
  pub first : List ℕ
  pub left : List ℕ
  pub parts : b ≡ first ++ left
  pub are : AreProperties properties first
  pub header : header_size ≤ length left
  pub deep : NestsDeeper levels_looked_into (drop header_size left)

-- these bytes are zero or more whole properties with other keys, of whatever pods, and `left` behind them
pub data LeadsTo (key : ℕ) (left : List ℕ) : List ℕ → Type 0 where
  arrived : (b : List ℕ) → b ≡ left → LeadsTo key left b
  behind_another : (b : List ℕ) → header_size ≤ length b → word_at b 0 ≢ key → HasFront (drop header_size b) → LeadsTo key left (rest_of (drop header_size b)) → LeadsTo key left b

-- before this place none of these properties has a key that is asked for
pub record LeadsToAll (asks : ℕ → Type 0) (left b : List ℕ) : Type 0 where
  pub each : (key : ℕ) → asks key → LeadsTo key left b

-- the place that was met before, or else this one
abbrev pub place_or : Option (Bor (List ℕ)) → List ℕ → List ℕ
place_or None left = left
place_or (Some place) left = place.now

-- there is a first property with the key, and the fact holds of the bytes from its value on
pub record IsUnder (key : ℕ) (P : List ℕ → Type 0) (b : List ℕ) : Type 0 where
  pub left : List ℕ
  pub leads : LeadsTo key left b
  pub header : header_size ≤ length left
  pub its_key : word_at left 0 ≡ key
  pub holds : P (drop header_size left)

-- there is a first property with the key, and its value is read as this result
pub record FindsUnder {X : Type 0} (reads : Tree → X → Type 0) (key : ℕ) (b : List ℕ) (x : X) : Type 0 where
  pub left : List ℕ
  pub leads : LeadsTo key left b
  pub header : header_size ≤ length left
  pub its_key : word_at left 0 ≡ key
  pub rest : List ℕ
  pub value : IsRead (drop header_size left) rest (λ v. reads v x)

-- the answer of a search for the key: the first property with it is read so, or these bytes are whole properties with other keys
abbrev pub FindsIn : {X : Type 0} → (Tree → X → Type 0) → ℕ → List ℕ → Option X → Type 0
FindsIn reads key b read = MatchOption read (LeadsTo key [] b) (λ x. FindsUnder reads key b x)

-- where these bytes are properties, the answer is read of the first one with the key, or none has it
abbrev pub FindsFirst : {X : Type 0} → (Tree → X → Type 0) → ℕ → List ℕ → Option X → Type 0
FindsFirst reads key b read =
    (ps : Properties) → AreProperties ps b → MatchOption read (LacksProperty key ps) (λ x. HasFirst key (λ v. reads v x) ps)

-- The refusal of a search for the key: behind whole properties with other keys a key or a pod is short, or the value of the first property with
-- the key is refused.
pub data RefusesUnder (refuses : RefusingRead) (key : ℕ) (b : List ℕ) (e : ReadRefusal) : Type 0 where
  short_key : (left : List ℕ) → LeadsTo key left b → left ≢ [] → length left < header_size → IsShortAt left e → RefusesUnder refuses key b e
  short_pod : (left : List ℕ) → LeadsTo key left b → header_size ≤ length left → ¬ (HasFront (drop header_size left)) → IsShortAt (drop header_size left) e → RefusesUnder refuses key b e
  under_key : (left : List ℕ) → LeadsTo key left b → header_size ≤ length left → word_at left 0 ≡ key → refuses (drop header_size left) e → RefusesUnder refuses key b e

-- these bytes are no properties that are read as a result of this type
abbrev pub NoneRead : {X : Type 0} → (Properties → X → Type 0) → List ℕ → Type 0
NoneRead {X = X} reads b = (ps : Properties) (x : X) → AreProperties ps b → ¬ (reads ps x)

-- this value is an object whose type, id and properties are read as this result
pub record ReadsObjectBy {X : Type 0} (reads : ℕ → ℕ → Properties → X → Type 0) (v : Tree) (x : X) : Type 0 where
  pub type : ℕ
  pub id : ℕ
  pub properties : Properties
  pub is : v ≡ object type id properties
  pub are : reads type id properties x

-- this value is an object of this type and id, whose properties are read as this result
pub record ReadsObject {X : Type 0} (type id : ℕ) (reads : Properties → X → Type 0) (v : Tree) (x : X) : Type 0 where
  pub properties : Properties
  pub is : v ≡ object type id properties
  pub are : reads properties x

-- The refusal of the object at the front: it isn't opened, or has another type or id; or a property that is asked for is refused, or the
-- properties as a whole are.
pub data RefusesObjectOf (type id : ℕ) (refuses : RefusingRead) (b : List ℕ) (e : ReadRefusal) : Type 0 where
  not_object : LacksObject b e → RefusesObjectOf type id refuses b e
  other_object : (r : ObjectReader) → OpensObject b r → (r.type ≢ type) ⊎ (r.id ≢ id) → e ≡ error.UnsupportedType → RefusesObjectOf type id refuses b e
  asked_for : (r : ObjectReader) → OpensObject b r → refuses r.reader.left e → RefusesObjectOf type id refuses b e
  passed : (r : ObjectReader) → OpensObject b r → RefusesProperties r.reader.left e → RefusesObjectOf type id refuses b e

-- the refusal of a property that has to be there: its value is refused, or no property has its key
abbrev pub RefusesRequired : RefusingRead → ℕ → List ℕ → ReadRefusal → Type 0
RefusesRequired refuses key b e = RefusesUnder refuses key b e ⊎ ((e ≡ error.PropertyMissing) × LeadsTo key [] b)

-- the reads of the properties asked for take memory in the object at the front, or one of its values nests deep
abbrev pub TakesIn : (List ℕ → Type 0) → List ℕ → Type 0
TakesIn takes b = takes (drop header_size (body_of b)) ⊎ HoldsDeep (drop header_size (body_of b))
