use Rattle.std.proofs.Common.{◌≡◌, ◌∷◌, ◌++◌, rules, sym, ap, ◌∙◌, subst}
use Rattle.std.proofs.lemmas.List.{append-nil, nil_from_length}
use Rattle.spa_format.specs.Tree.{join_members, join_properties, member, object, property, struct}
use Rattle.spa_value.specs.NestedCopies.{CopiesLeaf, TakesMember, TakesProperty, nested_view, with_left}
use Rattle.spa_value.specs.View.{view}
use Rattle.spa_value.specs.Views.{property_views, views}
use Rattle.spa_value.specs.declared.nested_copies.CopiedObject.{CopiedObject}
use Rattle.spa_value.proofs.ViewLaws.{property_views-append, view-struct, views-append}
use Rattle.spa_value.proofs.nested_copies.+levels.Goals as goal
use Rattle.spa_value.proofs.nested_copies.+levels.Goals.{copy_nested-in-Struct+in_ok-copy_members-in-Struct, copy_nested-in-Object+in_ok-copy_object-in-Object, copy_nested-in_default+in_ok-copy_by_loop-in_default}

pub copy_nested-returns : goal.copy_nested-returns
copy_nested-returns t c =
    elim c.match-nested.branch [
      | copy_nested-in-Struct+in_ok-copy_members-in-Struct w ↦
          ap view w.result-is ∙ view-struct w.in_ok-copy_members-in-Struct.field-0 ∙ ap struct w.in_ok-copy_members-in-Struct.ensures ∙ ap nested_view (sym w.in-Struct.is)
      | copy_nested-in-Object+in_ok-copy_object-in-Object w ↦
          ap view w.result-is ∙ w.in_ok-copy_object-in-Object.ensures ∙ ap nested_view (sym w.in-Object.is)
      | copy_nested-in_default+in_ok-copy_by_loop-in_default w ↦ ap view w.result-is ∙ w.in_ok-copy_by_loop-in_default.ensures
    ]

pub copy_members-loop-member-preserved : goal.copy_members-loop-member-preserved
copy_members-loop-member-preserved t c =
    let copies = c.loop-member.copies.items in
    let v = c.in-Some.member.now in
    let left = c.in-Some.behind.now in
    let first : c.loop-member.left.now ≡ v ∷ left = search rules in
    c.in_default-copy_member.ensures left ∙ sym (views-append copies (v ∷ left)) ∙ ap (λ l. views (copies ++ l)) (sym first) ∙ c.loop-member.invariant

pub copy_member-returns-in_ok-copy_nested : goal.copy_member-returns-in_ok-copy_nested
copy_member-returns-in_ok-copy_nested t c left =
    let copies = c.args.copies.now.items in
    let copy = c.in_ok-copy_nested.field-0 in
    let found = subst (λ o. CopiesLeaf TakesMember c.args.member.now c.reserve.new.self o c.copy_leaf.new.to) c.in-Some.is c.in_ok-nested.ensures in
    c.put.ensures left
    ∙ ap (λ l. join_members (views l) (member (view copy) (views left))) (ap (λ to. to.items) found.0 ∙ c.in_ok-reserve.ensures.items)
    ∙ ap (λ t. join_members (views copies) (member t (views left))) (c.in_ok-copy_nested.ensures ∙ found.1)

pub copy_member-returns-in_default : goal.copy_member-returns-in_default
copy_member-returns-in_default t c left =
    let taken = subst (λ o. CopiesLeaf TakesMember c.args.member.now c.reserve.new.self o c.copy_leaf.new.to) c.in_default.is c.in_ok-nested.ensures in
    taken left ∙ ap (λ l. join_members (views l) (member (view c.args.member.now) (views left))) c.in_ok-reserve.ensures.items

pub copy_object-loop-property-init : goal.copy_object-loop-property-init
copy_object-loop-property-init t c = c.in_ok-begun.ensures.0

pub copy_object-loop-property-preserved : goal.copy_object-loop-property-preserved
copy_object-loop-property-preserved t c =
    let p = c.in-Some.property.now in
    let left = c.in-Some.behind.now in
    let first : c.loop-property.left.now ≡ p ∷ left = search rules in
    c.in_default-copy_property.ensures left ∙ ap (with_left c.loop-property.begun) (sym first) ∙ c.loop-property.invariant

pub copy_object-returns : goal.copy_object-returns
copy_object-returns t c =
    let begun = c.loop-property.begun in
    let none = nil_from_length c.loop-property.left.now c.in_default.ensures.cases in
    c.into_object-2.ensures
    ∙ ap (λ l. object begun.type_ begun.id (property_views l)) (sym (ap (λ l. begun.copies.items ++ l) none ∙ append-nil begun.copies.items))
    ∙ c.loop-property.invariant

pub copy_property-returns-in_ok-copy_nested : goal.copy_property-returns-in_ok-copy_nested
copy_property-returns-in_ok-copy_nested t c left =
    let from = c.args.begun.now in
    let p = c.args.property.now in
    let copy = c.in_ok-copy_nested.field-0 in
    let reached : CopiedObject = record { type_ = from.type_; id = from.id; copies = c.reserve.new.self; key = p.key; flags = p.flags; left = from.left } in
    let found = subst (λ o. CopiesLeaf TakesProperty p.value reached o c.copy_leaf.new.to) c.in-Some.is c.in_ok-nested.ensures in
    c.put.ensures left
    ∙ ap (λ to. object to.type_ to.id (join_properties (property_views to.copies.items) (property to.key to.flags.0 (view copy) (property_views left)))) found.0
    ∙ ap (λ l. object from.type_ from.id (join_properties (property_views l) (property p.key p.flags.0 (view copy) (property_views left)))) c.in_ok-reserve.ensures.items
    ∙ ap (λ t. object from.type_ from.id (join_properties (property_views from.copies.items) (property p.key p.flags.0 t (property_views left)))) (c.in_ok-copy_nested.ensures ∙ found.1)
    ∙ ap (object from.type_ from.id) (sym (property_views-append from.copies.items (p ∷ left)))

pub copy_property-returns-in_default : goal.copy_property-returns-in_default
copy_property-returns-in_default t c left =
    let from = c.args.begun.now in
    let p = c.args.property.now in
    let reached : CopiedObject = record { type_ = from.type_; id = from.id; copies = c.reserve.new.self; key = p.key; flags = p.flags; left = from.left } in
    let taken = subst (λ o. CopiesLeaf TakesProperty p.value reached o c.copy_leaf.new.to) c.in_default.is c.in_ok-nested.ensures in
    taken left
    ∙ ap (λ l. object from.type_ from.id (join_properties (property_views l) (property p.key p.flags.0 (view p.value) (property_views left)))) c.in_ok-reserve.ensures.items
    ∙ ap (object from.type_ from.id) (sym (property_views-append from.copies.items (p ∷ left)))
