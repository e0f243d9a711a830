use Rattle.std.proofs.Common.{ap, ◌∙◌, subst}
use Rattle.spa_value.specs.View.{view}
use Rattle.spa_value.proofs.ViewLaws.{view-fields}
use Rattle.spa_bodies.specs.Written.{IsLeaf}
use Rattle.spa_write.proofs.leaf.put_leaf.Goals as goal

pub unreachable-requires-in-Object : goal.unreachable-requires-in-Object
unreachable-requires-in-Object g c =
    subst IsLeaf (ap view c.in-Object.is ∙ view-fields c.in-Object.field-0) c.requires

pub returns-in-ValueArray-clause-put : goal.returns-in-ValueArray-clause-put
returns-in-ValueArray-clause-put g c = rw c.in-ValueArray.is c.put_value_array.ensures.put

pub returns-in-ValueArray-clause-begun : goal.returns-in-ValueArray-clause-begun
returns-in-ValueArray-clause-begun g c = rw c.in-ValueArray.is c.put_value_array.ensures.begun

pub returns-in-ValueArray-clause-refused : goal.returns-in-ValueArray-clause-refused
returns-in-ValueArray-clause-refused g c = rw c.in-ValueArray.is c.put_value_array.ensures.refused

pub returns-in-Choice-clause-put : goal.returns-in-Choice-clause-put
returns-in-Choice-clause-put g c = rw c.in-Choice.is c.put_choice_value.ensures.put

pub returns-in-Choice-clause-begun : goal.returns-in-Choice-clause-begun
returns-in-Choice-clause-begun g c = rw c.in-Choice.is c.put_choice_value.ensures.begun

pub returns-in-Choice-clause-refused : goal.returns-in-Choice-clause-refused
returns-in-Choice-clause-refused g c = rw c.in-Choice.is c.put_choice_value.ensures.refused

pub returns-in-Pointer-clause-put : goal.returns-in-Pointer-clause-put
returns-in-Pointer-clause-put g c = rw c.in-Pointer.is c.put_pointer.ensures.put

pub returns-in-Pointer-clause-begun : goal.returns-in-Pointer-clause-begun
returns-in-Pointer-clause-begun g c = rw c.in-Pointer.is c.put_pointer.ensures.begun

pub returns-in-Pointer-clause-refused : goal.returns-in-Pointer-clause-refused
returns-in-Pointer-clause-refused g c = rw c.in-Pointer.is c.put_pointer.ensures.refused

pub returns-in-Bytes-clause-put : goal.returns-in-Bytes-clause-put
returns-in-Bytes-clause-put g c =
    rw (c.in-Bytes.is, ← c.as_slice.ensures.value) c.put_bytes.ensures.put

pub returns-in-Bytes-clause-begun : goal.returns-in-Bytes-clause-begun
returns-in-Bytes-clause-begun g c =
    rw (c.in-Bytes.is, ← c.as_slice.ensures.value) c.put_bytes.ensures.begun

pub returns-in-Bytes-clause-refused : goal.returns-in-Bytes-clause-refused
returns-in-Bytes-clause-refused g c =
    rw (c.in-Bytes.is, ← c.as_slice.ensures.value) c.put_bytes.ensures.refused

pub returns-in-Bitmap-clause-put : goal.returns-in-Bitmap-clause-put
returns-in-Bitmap-clause-put g c =
    rw (c.in-Bitmap.is, ← c.as_slice-in-Bitmap.ensures.value) c.put_bitmap.ensures.put

pub returns-in-Bitmap-clause-begun : goal.returns-in-Bitmap-clause-begun
returns-in-Bitmap-clause-begun g c =
    rw (c.in-Bitmap.is, ← c.as_slice-in-Bitmap.ensures.value) c.put_bitmap.ensures.begun

pub returns-in-Bitmap-clause-refused : goal.returns-in-Bitmap-clause-refused
returns-in-Bitmap-clause-refused g c =
    rw (c.in-Bitmap.is, ← c.as_slice-in-Bitmap.ensures.value) c.put_bitmap.ensures.refused
