-- The content that a visitor is handed, and the value that it makes of it.
use Rattle.std.specs.Prelude.{◌≡◌, ◌≢◌, ℕ, List, [], map, false, true, ⊤, Vec}
use Rattle.std.specs.Global.{Global}
use Rattle.spa_format.specs.Kind.{Kind, Fixed, none, bool, id, int, long, float, double, rectangle, fraction, fd}
use Rattle.spa_format.specs.Tree.{Tree, Trees, Properties, fixed, string, bytes, bitmap, array, pointer, type_of, choice_type, struct_type}
use Rattle.spa_format.specs.Pod.{IsBody}
use Rattle.spa_format.specs.Front.{Begins, rest_of}
use Rattle.spa_fixed_sized.specs.declared.fault.DeserializeError.TheVariants as error
use Rattle.spa_value.specs.View.{choice_view}
use Rattle.spa_bodies.specs.Reading.{OnFault, OnMemory}
use Rattle.spa_typed_read.specs.Exactly.{AreUnread}
use Rattle.spa_typed_read.specs.Lookup.{NoneRead}
use Rattle.spa_typed_read.specs.Asking.{LacksFront, LacksObject, array_of, of_type, RefusesAsked, ReadRefusal}
use Rattle.spa_typed_read.specs.Members.{Ahead, AheadIn, Further, FurtherIn, ObjectReader, OpensObject, OpensStruct, Reader}
use Rattle.spa_typed_read.specs.declared.visitor.Visit.{Visit}
use Rattle.spa_typed_read.specs.declared.visitor.Visit.TheVariants as visit

-- The content is that of this value. The elements of an array have no tree by themselves: their read gives it.
abbrev pub SaysValue : {E : Type 0} → Visit E → Tree → Type 0
SaysValue visit.None v = v ≡ fixed none
SaysValue (visit.Bool x) v = v ≡ fixed (bool x)
SaysValue (visit.Int x) v = v ≡ fixed (int x)
SaysValue (visit.Long x) v = v ≡ fixed (long x)
SaysValue (visit.Float x) v = v ≡ fixed (float x.0)
SaysValue (visit.Double x) v = v ≡ fixed (double x.0)
SaysValue (visit.String s) v = v ≡ string s.now
SaysValue (visit.Bytes b) v = v ≡ bytes b.now
SaysValue (visit.Bitmap b) v = v ≡ bitmap b.now
SaysValue (visit.Rectangle x) v = v ≡ fixed (rectangle x.width x.height)
SaysValue (visit.Fraction x) v = v ≡ fixed (fraction x.num x.denom)
SaysValue (visit.Id x) v = v ≡ fixed (id x.0)
SaysValue (visit.Fd x) v = v ≡ fixed (fd x.0)
SaysValue (visit.Array xs) v = ⊥
SaysValue (visit.Choice c) v = v ≡ choice_view c
SaysValue (visit.Pointer t a) v = v ≡ pointer t a

-- the content is that of the value with this type and this body
pub record SaysBody {E : Type 0} (type : ℕ) (body : List ℕ) (given : Visit E) : Type 0 where
  pub value : Tree
  pub its_type : type_of value ≡ type
  pub read : IsBody value body
  pub says : SaysValue given value

-- the content is that of the value at the front of the input, which is of this type
pub record IsHanded {E : Type 0} (type : ℕ) (input : List ℕ) (given : Visit E) : Type 0 where
  pub value : Tree
  pub begins : Begins input value
  pub its_type : type_of value ≡ type
  pub says : SaysValue given value

-- The visitor was handed the content of the pod at the front, which is of this type, and made x of it; and `rest` follows
-- the pod.
pub record IsVisited {E X : Type 0} (type : ℕ) (visits : Visit E → X → Type 0) (input rest : List ℕ) (x : X) : Type 0 where
  pub given : Visit E
  pub handed : IsHanded type input given
  pub follows : rest ≡ rest_of input
  pub made : visits given x

-- The refusal of a visit: the read is refused, for memory only where it is that of a choice; or the visitor declined the
-- content of the pod at the front.
pub data RefusesVisit {E : Type 0} (type : ℕ) (declines : Visit E → ReadRefusal → Type 0) (input : List ℕ) (e : ReadRefusal) : Type 0 where
  unread : RefusesAsked (of_type type) (type ≡ choice_type) input e → RefusesVisit type declines input e
  declined : (given : Visit E) → IsHanded type input given → declines given e → RefusesVisit type declines input e

-- The refusal of the visit of an array over this kind: the read is refused, or the visitor declined the elements.
pub data RefusesArrayVisit {E : Type 0} (k : Kind) (fixed : E → Fixed) (declines : Visit E → ReadRefusal → Type 0) (input : List ℕ) (e : ReadRefusal) : Type 0 where
  no_array : RefusesAsked (array_of k) ⊤ input e → RefusesArrayVisit k fixed declines input e
  declined_array : (xs : Vec E Global) → Begins input (array k (map fixed xs.items)) → declines (visit.Array xs) e → RefusesArrayVisit k fixed declines input e

-- The refusal of the visit of a struct: it isn't opened; or the visitor, which borrowed its reader, declined it; or the visitor made a value and
-- left the reader failed, or members unread.
pub data RefusesStruct (declines : Reader → Reader → ReadRefusal → Type 0) (leaves : Reader → Reader → Type 0)
    (input : List ℕ) (e : ReadRefusal) : Type 0 where
  no_struct : LacksFront struct_type input e → RefusesStruct declines leaves input e
  declined_struct : (lent now : Reader) → OpensStruct input lent → Further lent now → declines lent now e → RefusesStruct declines leaves input e
  failed_struct : (lent now : Reader) → OpensStruct input lent → leaves lent now → now.failed ≡ true → e ≡ error.FailedReader → RefusesStruct declines leaves input e
  unread_struct : (lent now : Reader) → OpensStruct input lent → Ahead lent now → leaves lent now → now.left ≢ [] → e ≡ error.UnreadMembers → RefusesStruct declines leaves input e

-- The refusal of the visit of an object: it isn't opened; or the visitor, which borrowed its reader, declined it; or the visitor made a value
-- and left the reader failed, or properties unread.
pub data RefusesObject (declines : ObjectReader → ObjectReader → ReadRefusal → Type 0) (leaves : ObjectReader → ObjectReader → Type 0)
    (input : List ℕ) (e : ReadRefusal) : Type 0 where
  no_object : LacksObject input e → RefusesObject declines leaves input e
  declined_object : (lent now : ObjectReader) → OpensObject input lent → FurtherIn lent now → declines lent now e → RefusesObject declines leaves input e
  failed_object : (lent now : ObjectReader) → OpensObject input lent → leaves lent now → now.reader.failed ≡ true → e ≡ error.FailedReader → RefusesObject declines leaves input e
  unread_object : (lent now : ObjectReader) → OpensObject input lent → AheadIn lent now → leaves lent now → now.reader.left ≢ [] → e ≡ error.UnreadMembers → RefusesObject declines leaves input e

-- A visitor that was handed the content of this value declines it, unless for want of memory, only where no result is read of it.
pub record DeclinesExactlyOf {X : Type 0} (reads : Tree → X → Type 0) (takes_memory : Type 0) (v : Tree) (e : ReadRefusal) : Type 0 where
  pub unread : OnFault ((x : X) → ¬ (reads v x)) e
  pub memory : OnMemory takes_memory e

-- A visitor that borrowed a struct's reader at its first member declines it, unless for want of memory, only where no result is read of the
-- members.
pub record DeclinesExactly {X : Type 0} (reads : Trees → X → Type 0) (takes_memory : Type 0) (lent now : Reader) (e : ReadRefusal) : Type 0 where
  pub unread : lent.failed ≡ false → OnFault (AreUnread reads lent.left) e
  pub memory : lent.failed ≡ false → OnMemory takes_memory e

-- A visitor that made a value had no refused call, and left members unread only where no result is read of all of them.
pub record LeavesExactly {X : Type 0} (reads : Trees → X → Type 0) (lent now : Reader) : Type 0 where
  pub good : lent.failed ≡ false → now.failed ≡ false
  pub unread : lent.failed ≡ false → now.left ≢ [] → AreUnread reads lent.left

-- the two of an object's reader: no result is read of the object's type, id and properties
pub record DeclinesExactlyIn {X : Type 0} (reads : ℕ → ℕ → Properties → X → Type 0) (takes_memory : Type 0) (lent now : ObjectReader) (e : ReadRefusal) : Type 0 where
  pub unread : lent.reader.failed ≡ false → OnFault (NoneRead (reads lent.type lent.id) lent.reader.left) e
  pub memory : lent.reader.failed ≡ false → OnMemory takes_memory e

pub record LeavesExactlyIn {X : Type 0} (reads : ℕ → ℕ → Properties → X → Type 0) (lent now : ObjectReader) : Type 0 where
  pub good : lent.reader.failed ≡ false → now.reader.failed ≡ false
  pub unread : lent.reader.failed ≡ false → now.reader.left ≢ [] → NoneRead (reads lent.type lent.id) lent.reader.left
