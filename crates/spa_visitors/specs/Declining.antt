-- The contents that visitors decline.
use Rattle.std.specs.Prelude.{◌≡◌, ◌≢◌, List, ℕ, false, true}
use Rattle.std.specs.Borrow.{Bor}
use Rattle.spa_fixed_sized.specs.declared.fault.DeserializeError.{DeserializeError}
use Rattle.spa_fixed_sized.specs.declared.fault.DeserializeError.TheVariants as error
use Rattle.spa_typed_read.specs.Exactly.{RefusesMembers}
use Rattle.spa_typed_read.specs.Lookup.{RefusesProperties}
use Rattle.spa_typed_read.specs.Members.{ObjectReader, Reader}
use Rattle.spa_typed_read.specs.declared.visitor.Visit.{Visit}
use Rattle.spa_typed_read.specs.declared.visitor.Visit.TheVariants as visit

-- The visitor declines a content of any other variant, as UnsupportedType.
abbrev pub DeclinesOthers : {G X : Type 0} → (X → G) → G → DeserializeError (Bor (List ℕ)) → Type 0
DeclinesOthers handed given e = (e ≡ error.UnsupportedType) × ((x : _) → given ≢ handed x)

-- The visitor declines every struct and every object, as UnsupportedType.
abbrev pub DeclinesAll : {R : Type 0} → R → R → DeserializeError (Bor (List ℕ)) → Type 0
DeclinesAll lent now e = e ≡ error.UnsupportedType

-- The visitor that makes values declines the elements of an array, as UnsupportedType, and anything for want of memory.
abbrev pub DeclinesValue : {E : Type 0} → Visit E → DeserializeError (Bor (List ℕ)) → Type 0
DeclinesValue (visit.String s) e = e ≡ error.OutOfMemory
DeclinesValue (visit.Bytes b) e = e ≡ error.OutOfMemory
DeclinesValue (visit.Bitmap b) e = e ≡ error.OutOfMemory
DeclinesValue (visit.Array xs) e = e ≡ error.UnsupportedType
DeclinesValue _ e = ⊥

-- Of a struct it declines what is refused as members, and of an object what is refused as properties. Of a reader that has failed it
-- declines all.
pub record DeclinesMembers (lent : Reader) (e : DeserializeError (Bor (List ℕ))) : Type 0 where
  pub stays : lent.failed ≡ true → e ≡ error.FailedReader
  pub refused : lent.failed ≡ false → RefusesMembers lent.left e

pub record DeclinesProperties (lent : ObjectReader) (e : DeserializeError (Bor (List ℕ))) : Type 0 where
  pub stays : lent.reader.failed ≡ true → e ≡ error.FailedReader
  pub refused : lent.reader.failed ≡ false → RefusesProperties lent.reader.left e
