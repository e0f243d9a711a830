use Rattle.std.proofs.Common.{◌≡◌, ◌∷◌, ◌++◌, rules, sym, ap, ◌∙◌, subst, arith}
use Rattle.spa_format.specs.Tree.{join_properties, node_count, object, property, property_node_count}
use Rattle.spa_value.specs.NestedCopies.{CopiesLeaf, TakesProperty, nested_view}
use Rattle.spa_value.specs.View.{view}
use Rattle.spa_value.specs.Views.{property_views}
use Rattle.spa_value.specs.declared.nested_copies.CopiedObject.{CopiedObject}
use Rattle.spa_value.proofs.Copying.{nested_property_copied}
use Rattle.spa_value.proofs.ViewLaws.{property_views-append}
use Rattle.spa_value.proofs.nested_copies.CopiedObject.copy_on.Goals as goal

pub loop-property-preserved : goal.loop-property-preserved
loop-property-preserved c =
    let before = c.loop-property.invariant in
    let from = c.loop-property.self in
    let copies = from.copies.items in
    let p = c.in-Some.property.now in
    let left = c.in-Some.behind.now in
    let first : c.loop-property.left.now ≡ p ∷ left = search rules in
    let reached : CopiedObject = record { type_ = from.type_; id = from.id; copies = c.reserve.new.self; key = p.key; flags = p.flags; left = from.left } in
    let taken = subst (λ o. CopiesLeaf TakesProperty p.value reached o c.copy_leaf.new.to) c.in_default-2.is c.in_ok-nested.ensures in
    let count = ap (λ l. property_node_count (property_views l)) first in
    let fewer = before.1 in (
      taken left
          ∙ ap (λ l. object from.type_ from.id (join_properties (property_views l) (property p.key p.flags.0 (view p.value) (property_views left)))) c.in_ok-reserve.ensures.items
          ∙ ap (object from.type_ from.id)
          (sym (property_views-append copies (p ∷ left)) ∙ ap (λ l. property_views (copies ++ l)) (sym first))
          ∙ before.0,
      omega arith,
    )

pub returns-in-Some-2 : goal.returns-in-Some-2
returns-in-Some-2 c =
    let before = c.loop-property.invariant in
    let from = c.loop-property.self in
    let copies = from.copies.items in
    let p = c.in-Some.property.now in
    let left = c.in-Some.behind.now in
    let first : c.loop-property.left.now ≡ p ∷ left = search rules in
    let tree = nested_view c.in-Some-2.nested in
    let reached : CopiedObject = record { type_ = from.type_; id = from.id; copies = c.reserve.new.self; key = p.key; flags = p.flags; left = from.left } in
    let found = subst (λ o. CopiesLeaf TakesProperty p.value reached o c.copy_leaf.new.to) c.in-Some-2.is c.in_ok-nested.ensures in
    let count = ap (λ l. property_node_count (property_views l)) first in
    let inner = ap node_count found.1 in
    let fewer = before.1 in (
      ap (λ t. object t.type_ t.id (join_properties (property_views t.copies.items) (property t.key t.flags.0 tree (property_views left)))) found.0
          ∙ ap (λ l. object from.type_ from.id (join_properties (property_views l) (property p.key p.flags.0 tree (property_views left)))) c.in_ok-reserve.ensures.items
          ∙ ap (object from.type_ from.id)
          (nested_property_copied copies left p _ found.1 ∙ ap (λ l. property_views (copies ++ l)) (sym first))
          ∙ before.0,
      omega arith,
    )
