use Rattle.std.proofs.Common.{rules, ◌≡◌, ◌<◌, ◌^◌, ◌∙◌, ap, sym, subst}
use Rattle.spa_format.specs.Tree.{object}
use Rattle.spa_value.specs.declared.object.Object.{out-Object}
use Rattle.spa_value.specs.View.{object_view}
use Rattle.spa_value.specs.Views.{property_views}
use Rattle.spa_value.proofs.ViewLaws.{view-fields}
use Rattle.spa_write.specs.Nesting.{Begins, nested_tree}
use Rattle.spa_write.specs.declared.left.Begun.{Begun}
use Rattle.spa_write.specs.declared.left.Left.TheVariants as left
use Rattle.spa_write.proofs.Nesting.{begins_object, begins_struct}
use Rattle.spa_write.proofs.nested.begin_nested.Goals as goal

pub returns-in_ok-start-in-Struct-clause-begun : goal.returns-in_ok-start-in-Struct-clause-begun
returns-in_ok-start-in-Struct-clause-begun c =
    let new = c.begin.new.out.items in
    let begun : Begun = record { start = c.in_ok-start-in-Struct.start; left = left.Members c.in-Struct.members } in
    subst (λ n. Begins (nested_tree n) c.args.out.now.items begun new) (sym c.in-Struct.is)
    (begins_struct c.in-Struct.members c.in_ok-start-in-Struct.start c.args.out.now.items new c.in_ok-start-in-Struct.ensures.start
    c.in_ok-start-in-Struct.ensures.header)

pub returns-in_ok-put_two-in-Object-clause-begun : goal.returns-in_ok-put_two-in-Object-clause-begun
returns-in_ok-put_two-in-Object-clause-begun c =
    let o = out-Object c.in-Object.object.now in
    let new = c.put_two.new.sink.items in
    let ps = c.as_slice.result in
    let begun : Begun = record { start = c.in_ok-start-in-Object.start; left = left.Properties ps } in
    let tf : o.type_ < 2 ^ 32 = search rules in
    let jf : o.id < 2 ^ 32 = search rules in
    let same : object o.type_ o.id (property_views ps.now) ≡ object_view c.in-Object.object.now =
    ap (λ l. object o.type_ o.id (property_views l)) c.as_slice.ensures.value ∙ sym (view-fields c.in-Object.object.now) in
    subst (λ n. Begins (nested_tree n) c.args.out.now.items begun new) (sym c.in-Object.is)
    (subst (λ v. Begins v c.args.out.now.items begun new) same
    (begins_object o.type_ o.id ps c.in_ok-start-in-Object.start c.args.out.now.items c.begin-in-Object.new.out.items new tf jf
    c.in_ok-start-in-Object.ensures.start c.in_ok-start-in-Object.ensures.header c.in_ok-put_two-in-Object.ensures.ok))
