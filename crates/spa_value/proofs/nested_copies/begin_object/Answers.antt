use Rattle.std.proofs.Common.{◌++◌, sym, ap, ◌∙◌, arith}
use Rattle.spa_format.specs.Tree.{object, node_count, property_node_count}
use Rattle.spa_value.specs.declared.object.Object.{out-Object}
use Rattle.spa_value.specs.Views.{property_views}
use Rattle.spa_value.proofs.ViewLaws.{view-fields}
use Rattle.spa_value.proofs.nested_copies.begin_object.Goals as goal

pub returns : goal.returns
returns c =
    let o = out-Object c.args.object.now in
    let same = view-fields c.args.object.now in
    let count = ap node_count same in
    let left = ap (λ l. property_node_count (property_views l)) c.as_slice.ensures.value in (
      ap (λ l. object o.type_ o.id (property_views (l ++ c.as_slice.result.now))) c.in_ok-copies.ensures.items
          ∙ ap (λ l. object o.type_ o.id (property_views l)) c.as_slice.ensures.value ∙ sym same,
      omega arith,
    )
