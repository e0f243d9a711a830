use Rattle.std.proofs.Common.{inl, inr, ap, arith}
use Rattle.spa_format.specs.Tree.{node_count, property_node_count}
use Rattle.spa_value.specs.Views.{property_views}
use Rattle.spa_value.proofs.Comparing.{equal_objects, unequal_objects}
use Rattle.spa_value.proofs.ViewLaws.{view-fields}
use Rattle.spa_value.proofs.comparison.compare_objects.Goals.{then-object-other-via-then-object-other, then-object-other-via-else-object-other+then-object-other-2}
use Rattle.spa_value.proofs.comparison.compare_objects.Goals as goal

pub returns-then-object-other : goal.returns-then-object-other
returns-then-object-other c =
    elim c.then-object-other.branch [
      | then-object-other-via-then-object-other w ↦
          unequal_objects c.args.object.now c.args.other.now (inl w.if-object-other.true)
      | then-object-other-via-else-object-other+then-object-other-2 w ↦
          unequal_objects c.args.object.now c.args.other.now (inr w.if-object-other-2.true)
    ]

pub returns : goal.returns
returns c =
    let tree = ap node_count (view-fields c.args.object.now) in
    let properties = ap (λ l. property_node_count (property_views l)) c.as_slice.ensures.value in (
      rw (c.as_slice.ensures.value, c.as_slice-2.ensures.value)
          (equal_objects c.args.object.now c.args.other.now c.if-object-other.false c.if-object-other-2.false),
      omega arith,
    )
