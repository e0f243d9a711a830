-- Models of the readers of a struct's members, of an object's properties and of an array's elements: the remaining bytes, and what each call takes.
use Rattle.std.specs.Prelude.{◌≡◌, ◌≢◌, ℕ, ◌+◌, ◌*◌, ◌<◌, ◌≤◌, ◌⊎◌, Bool, true, false, List, [], ◌∷◌, ◌++◌, length, drop, map, take}
use Rattle.spa_format.specs.Words.{word_at, header_size}
use Rattle.spa_format.specs.Kind.{Kind, Fixed, IsFixedBody, body_size, type_number}
use Rattle.spa_format.specs.Tree.{Tree, Trees, Properties, array, array_type, object_type, struct_type}
use Rattle.spa_format.specs.Tree as tree
use Rattle.spa_format.specs.Pod.{AreMembers, AreProperties}
use Rattle.spa_format.specs.Encoding.{encoding_of}
use Rattle.spa_format.specs.Front.{Begins}
use Rattle.spa_format.specs.Typed.{IsTyped}
use Rattle.spa_format.specs.Writable.{IsWritable}
use Rattle.spa_bytes.specs.Opening.{Opens}
use Rattle.spa_fixed_sized.specs.declared.fault.DeserializeError.TheVariants as error
use Rattle.spa_bodies.specs.Reading.{IsRead, IsShortAt}
use Rattle.spa_typed_read.specs.Asking.{ReadRefusal, RefusingRead}

-- a reader: the remaining bytes of the body, the bytes that follow the pod, and whether the reader has failed
pub record Reader : Type 0 where
  pub left : List ℕ
  pub after : List ℕ
  pub failed : Bool

-- all of the body is read, and no call was refused
pub record AtEnd (r : Reader) : Type 0 where
  pub good : r.failed ≡ false
  pub none_left : r.left ≡ []

-- the refusal of ending a reader: a call was refused before, or bytes of the body are left
abbrev pub RefusesEnd : Reader → ReadRefusal → Type 0
RefusesEnd r e =
    ((r.failed ≡ true) × (e ≡ error.FailedReader))
    ⊎ ((r.failed ≡ false) × (r.left ≢ []) × (e ≡ error.UnreadMembers))

-- the reader of the struct at the front, at its first member
pub record OpensStruct (input : List ℕ) (r : Reader) : Type 0 where
  pub good : r.failed ≡ false
  pub opens : Opens input struct_type r.left r.after

-- `now` is the borrowed reader `lent`, zero or more members further and not failed
pub record Ahead (lent now : Reader) : Type 0 where
  pub members : Trees
  pub seen : List ℕ
  pub good : lent.failed ≡ false
  pub left : lent.left ≡ seen ++ now.left
  pub are : AreMembers members seen
  pub after : now.after ≡ lent.after

-- `now` is the borrowed reader `lent`, zero or more members further, or it has failed
pub record Further (lent now : Reader) : Type 0 where
  pub ahead : now.failed ≡ false → Ahead lent now

-- the remaining bytes of the reader were members, of which the fact holds
pub record AllMembers (lent : Reader) (P : Trees → Type 0) : Type 0 where
  pub members : Trees
  pub are : AreMembers members lent.left
  pub holds : P members

-- the next member was read, and the fact holds of its value
pub record TakesField (old new : Reader) (P : Tree → Type 0) : Type 0 where
  pub was_good : old.failed ≡ false
  pub good : new.failed ≡ false
  pub field : IsRead old.left new.left P
  pub after : new.after ≡ old.after

-- an object's reader: the object's type and id, and the reader of its properties
pub record ObjectReader : Type 0 where
  pub type : ℕ
  pub id : ℕ
  pub reader : Reader

-- the reader of the object at the front, at its first property
pub record OpensObject (input : List ℕ) (r : ObjectReader) : Type 0 where
  pub good : r.reader.failed ≡ false
  pub body : List ℕ
  pub opens : Opens input object_type body r.reader.after
  pub header : header_size ≤ length body
  pub its_type : r.type ≡ word_at body 0
  pub its_id : r.id ≡ word_at body 4
  pub left : r.reader.left ≡ drop header_size body

-- the two readers are of objects of one type and one id
pub record IsOfObject (lent now : ObjectReader) : Type 0 where
  pub type : now.type ≡ lent.type
  pub id : now.id ≡ lent.id

-- `now` is the borrowed reader `lent` of an object, zero or more properties further and not failed
pub record AheadIn (lent now : ObjectReader) : Type 0 where
  pub properties : Properties
  pub seen : List ℕ
  pub good : lent.reader.failed ≡ false
  pub left : lent.reader.left ≡ seen ++ now.reader.left
  pub are : AreProperties properties seen
  pub after : now.reader.after ≡ lent.reader.after
  pub object : IsOfObject lent now

-- `now` is the borrowed reader `lent` of an object, zero or more properties further, or it has failed; its type and id are the same
pub record FurtherIn (lent now : ObjectReader) : Type 0 where
  pub ahead : now.reader.failed ≡ false → AheadIn lent now
  pub object : IsOfObject lent now

-- the remaining bytes of the reader were properties, of which the fact holds
pub record AllProperties (lent : ObjectReader) (P : Properties → Type 0) : Type 0 where
  pub properties : Properties
  pub are : AreProperties properties lent.reader.left
  pub holds : P properties

-- the next property, which has this key and these flags, was read, and the fact holds of its value
pub record TakesProperty (old new : ObjectReader) (key flags : ℕ) (P : Tree → Type 0) : Type 0 where
  pub was_good : old.reader.failed ≡ false
  pub good : new.reader.failed ≡ false
  pub header : header_size ≤ length old.reader.left
  pub its_key : key ≡ word_at old.reader.left 0
  pub its_flags : flags ≡ word_at old.reader.left 4
  pub value : IsRead (drop header_size old.reader.left) new.reader.left P
  pub after : new.reader.after ≡ old.reader.after
  pub object : IsOfObject old new

-- A refusal of the read of the next property by its key: the reader has failed; or no property is left, and the reader didn't move;
-- or the next property, which was read, has another key.
pub data RefusesKey (Takes : ℕ → ℕ → Type 0) (key : ℕ) (old new : ObjectReader) (e : ReadRefusal) : Type 0 where
  fails : new.reader.failed ≡ true → RefusesKey Takes key old new e
  missing : e ≡ error.PropertyMissing → AtEnd old.reader → new ≡ old → RefusesKey Takes key old new e
  wrong_key : (found flags : ℕ) → e ≡ error.PropertyWrongKey found → found ≢ key → Takes found flags → RefusesKey Takes key old new e

-- Why the next property isn't read by its key: none is left; its key is short, or another one; or its value is refused.
pub data RefusesNext (refuses : RefusingRead) (key : ℕ) (b : List ℕ) (e : ReadRefusal) : Type 0 where
  key_missing : b ≡ [] → e ≡ error.PropertyMissing → RefusesNext refuses key b e
  key_short : b ≢ [] → length b < header_size → IsShortAt b e → RefusesNext refuses key b e
  key_other : header_size ≤ length b → word_at b 0 ≢ key → e ≡ error.PropertyWrongKey (word_at b 0) → RefusesNext refuses key b e
  value_refused : header_size ≤ length b → refuses (drop header_size b) e → RefusesNext refuses key b e

-- an array's reader: how many elements are left, and the reader of their bytes
pub record ArrayReader : Type 0 where
  pub count : ℕ
  pub reader : Reader

-- the remaining bytes are those of the elements that are left, of this size each; of a kind whose bodies are empty there are none
pub record HasElements (size : ℕ) (r : ArrayReader) : Type 0 where
  pub whole : length r.reader.left ≡ r.count * size
  pub units : size ≡ 0 → r.count ≡ 0

-- the reader of the array over this kind at the front, at its first element
pub record OpensArray (k : Kind) (input : List ℕ) (r : ArrayReader) : Type 0 where
  pub good : r.reader.failed ≡ false
  pub body : List ℕ
  pub opens : Opens input array_type body r.reader.after
  pub header : header_size ≤ length body
  pub child_size : word_at body 0 ≡ body_size k
  pub child_type : word_at body 4 ≡ type_number k
  pub left : r.reader.left ≡ drop header_size body
  pub elements : HasElements (body_size k) r

-- the next element was read: it is made of the value of a body of this kind
pub record TakesElement {C X : Type 0} (k : Kind) (fixed : C → Fixed) (made_of : C → X) (old new : ArrayReader) (x : X) : Type 0 where
  pub was_good : old.reader.failed ≡ false
  pub good : new.reader.failed ≡ false
  pub counted : old.count ≡ new.count + 1
  pub canonical : C
  pub says : IsFixedBody k (take (body_size k) old.reader.left) (fixed canonical)
  pub made : x ≡ made_of canonical
  pub left : new.reader.left ≡ drop (body_size k) old.reader.left
  pub after : new.reader.after ≡ old.reader.after

-- these elements were read, one call after another, from the reader `old` to the reader `new`
abbrev pub TakesElements : {C X : Type 0} → Kind → (C → Fixed) → (C → X) → ArrayReader → List X → ArrayReader → Type 0
TakesElements k fixed made_of old [] new = new ≡ old
TakesElements k fixed made_of old (x ∷ xs) new =
    (next : ArrayReader) × TakesElement k fixed made_of old next x × TakesElements k fixed made_of next xs new

-- the tree of a value of a type of fixed size, by its canonical value
abbrev pub single_tree : {C X : Type 0} → (C → Fixed) → (X → C) → X → Tree
single_tree says stands_for x = tree.fixed (says (stands_for x))

-- the tree of the array as which a list is written, each element by its canonical value
abbrev pub list_tree : {C X : Type 0} → Kind → (C → Fixed) → (X → C) → List X → Tree
list_tree k fixed stands_for xs = array k (map (λ x. fixed (stands_for x)) xs)

-- this value is an array, and the list is made of all its elements, in order
pub record IsMadeOf {C X : Type 0} (k : Kind) (fixed : C → Fixed) (made_of : C → X) (xs : List X) (v : Tree) : Type 0 where
  pub elements : List C
  pub value : v ≡ array k (map fixed elements)
  pub made : xs ≡ map made_of elements

-- the law of `elements_are_the_arrays`: what is read of the array at the front, element by element, up to where none is left, is all of it
abbrev pub ElementsAreTheArrays : {C X : Type 0} → Kind → (C → Fixed) → (C → X) → Type 0
ElementsAreTheArrays {X = X} k fixed made_of = (input : List ℕ) (xs : List X) (first last : ArrayReader) → OpensArray k input first →
    TakesElements k fixed made_of first xs last → last.count ≡ 0 → IsRead input last.reader.after (IsMadeOf k fixed made_of xs)

-- the law of `lists_come_back`: what is so read of a pod of the array as which a list is written is that list
abbrev pub ListsComeBack : {C X : Type 0} → Kind → (C → Fixed) → (X → C) → (C → X) → Type 0
ListsComeBack {X = X} k fixed stands_for made_of = (input : List ℕ) (xs ys : List X) (first last : ArrayReader) →
    ((x : X) → made_of (stands_for x) ≡ x) → Begins input (list_tree k fixed stands_for xs) → OpensArray k input first →
    TakesElements k fixed made_of first ys last → last.count ≡ 0 → ys ≡ xs

-- the encoding of this value, if the value can be written, is a pod of it, whatever follows
abbrev pub EncodingBegins : List ℕ → Tree → Type 0
EncodingBegins rest v = IsTyped v → IsWritable v → Begins (encoding_of v ++ rest) v
