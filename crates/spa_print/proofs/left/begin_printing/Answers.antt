use Rattle.std.proofs.Common.{◌∙◌, ap, sym, arith}
use Rattle.spa_format.specs.Tree.{node_count, object, struct}
use Rattle.spa_value.specs.declared.object.Object.{out-Object}
use Rattle.spa_value.specs.View.{view}
use Rattle.spa_value.specs.Views.{property_views, views}
use Rattle.spa_value.proofs.ViewLaws.{view-fields, view-struct}
use Rattle.spa_print.proofs.left.begin_printing.Goals as goal

pub returns-in_ok-write_str-in-Struct : goal.returns-in_ok-write_str-in-Struct
returns-in_ok-write_str-in-Struct o c =
    let is =
    ap view c.in-Struct.is ∙ view-struct c.in-Struct.members
    ∙ ap (λ l. struct (views l)) (sym c.as_slice.ensures.value) in
    omega (arith, ap node_count is)

pub returns-in_ok-write-in-Object : goal.returns-in_ok-write-in-Object
returns-in_ok-write-in-Object o c =
    let o = out-Object c.in-Object.object in
    let is =
    ap view c.in-Object.is ∙ view-fields c.in-Object.object
    ∙ ap (λ l. object o.type_ o.id (property_views l)) (sym c.as_slice-in-Object.ensures.value) in
    omega (arith, ap node_count is)
