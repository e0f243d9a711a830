use Rattle.std.proofs.Common.{ap, ◌∙◌, arith}
use Rattle.spa_format.specs.Tree.{member_node_count, node_count}
use Rattle.spa_value.specs.View.{view}
use Rattle.spa_value.specs.Views.{views}
use Rattle.spa_value.proofs.Comparing.{equal_structs}
use Rattle.spa_value.proofs.ViewLaws.{view-struct}
use Rattle.spa_value.proofs.Unlike.{unlike}
use Rattle.spa_value.proofs.comparison.compare.Goals as goal

pub returns-in_default : goal.returns-in_default
returns-in_default c =
    unlike c.args.value.now c.args.other.now (rw c.in-None.is c.in_default.not-None)

pub returns-in_default-other : goal.returns-in_default-other
returns-in_default-other c =
    unlike c.args.value.now c.args.other.now (rw c.in-Bool.is c.in_default-other.not-Bool)

pub returns-in_default-other-2 : goal.returns-in_default-other-2
returns-in_default-other-2 c =
    unlike c.args.value.now c.args.other.now (rw c.in-Id.is c.in_default-other-2.not-Id)

pub returns-in_default-other-3 : goal.returns-in_default-other-3
returns-in_default-other-3 c =
    unlike c.args.value.now c.args.other.now (rw c.in-Int.is c.in_default-other-3.not-Int)

pub returns-in_default-other-4 : goal.returns-in_default-other-4
returns-in_default-other-4 c =
    unlike c.args.value.now c.args.other.now (rw c.in-Long.is c.in_default-other-4.not-Long)

pub returns-in_default-other-5 : goal.returns-in_default-other-5
returns-in_default-other-5 c =
    unlike c.args.value.now c.args.other.now (rw c.in-Float.is c.in_default-other-5.not-Float)

pub returns-in_default-other-6 : goal.returns-in_default-other-6
returns-in_default-other-6 c =
    unlike c.args.value.now c.args.other.now (rw c.in-Double.is c.in_default-other-6.not-Double)

pub returns-in_default-other-7 : goal.returns-in_default-other-7
returns-in_default-other-7 c =
    unlike c.args.value.now c.args.other.now (rw c.in-String.is c.in_default-other-7.not-String)

pub returns-in_default-other-8 : goal.returns-in_default-other-8
returns-in_default-other-8 c =
    unlike c.args.value.now c.args.other.now (rw c.in-Bytes.is c.in_default-other-8.not-Bytes)

pub returns-in_default-other-9 : goal.returns-in_default-other-9
returns-in_default-other-9 c =
    unlike c.args.value.now c.args.other.now (rw c.in-Bitmap.is c.in_default-other-9.not-Bitmap)

pub returns-in_default-other-10 : goal.returns-in_default-other-10
returns-in_default-other-10 c =
    unlike c.args.value.now c.args.other.now (rw c.in-Rectangle.is c.in_default-other-10.not-Rectangle)

pub returns-in_default-other-11 : goal.returns-in_default-other-11
returns-in_default-other-11 c =
    unlike c.args.value.now c.args.other.now (rw c.in-Fraction.is c.in_default-other-11.not-Fraction)

pub returns-in_default-other-12 : goal.returns-in_default-other-12
returns-in_default-other-12 c =
    unlike c.args.value.now c.args.other.now (rw c.in-Fd.is c.in_default-other-12.not-Fd)

pub returns-in_default-other-13 : goal.returns-in_default-other-13
returns-in_default-other-13 c =
    unlike c.args.value.now c.args.other.now (rw c.in-ValueArray.is c.in_default-other-13.not-ValueArray)

pub returns-in_default-other-14 : goal.returns-in_default-other-14
returns-in_default-other-14 c =
    unlike c.args.value.now c.args.other.now (rw c.in-Struct.is c.in_default-other-14.not-Struct)

pub returns-in_default-other-15 : goal.returns-in_default-other-15
returns-in_default-other-15 c =
    unlike c.args.value.now c.args.other.now (rw c.in-Object.is c.in_default-other-15.not-Object)

pub returns-in_default-other-16 : goal.returns-in_default-other-16
returns-in_default-other-16 c =
    unlike c.args.value.now c.args.other.now (rw c.in-Choice.is c.in_default-other-16.not-Choice)

pub returns-in_default-other-17 : goal.returns-in_default-other-17
returns-in_default-other-17 c =
    unlike c.args.value.now c.args.other.now (rw c.in-Pointer.is c.in_default-other-17.not-Pointer)

pub returns-in-Struct-other : goal.returns-in-Struct-other
returns-in-Struct-other c =
    let tree = ap node_count (ap view c.in-Struct.is ∙ view-struct c.in-Struct.ms) in
    let members = ap (λ l. member_node_count (views l)) c.as_slice.ensures.value in (
      rw (c.in-Struct.is, c.in-Struct-other.is)
          (rw (c.as_slice.ensures.value, c.as_slice-in-Struct-other.ensures.value) (equal_structs c.in-Struct.ms c.in-Struct-other.ns)),
      omega arith,
    )
