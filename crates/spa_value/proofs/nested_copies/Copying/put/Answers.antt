use Rattle.std.proofs.Common.{◌++◌, sym, ap, ◌∙◌}
use Rattle.spa_format.specs.Tree.{struct, object}
use Rattle.spa_value.specs.View.{view}
use Rattle.spa_value.specs.Views.{property_views, views}
use Rattle.spa_value.specs.NestedCopies.{completed}
use Rattle.spa_value.proofs.Copying.{put_copied, put_property_copied}
use Rattle.spa_value.proofs.nested_copies.Copying.put.Goals as goal

pub returns-in-Struct-clause-same : goal.returns-in-Struct-clause-same
returns-in-Struct-clause-same c =
    let it = c.in-Struct.it in
    ap (λ l. struct (views (l ++ it.left.now))) c.push_reserved.ensures.items
    ∙ ap struct (put_copied it.copies.items it.left.now c.args.value)
    ∙ ap (λ f. completed f (view c.args.value)) (sym c.in-Struct.is)

pub returns-in-Object-clause-same : goal.returns-in-Object-clause-same
returns-in-Object-clause-same c =
    let it = c.in-Object.it in
    ap (λ l. object it.type_ it.id (property_views (l ++ it.left.now))) c.push_reserved-in-Object.ensures.items
    ∙ ap (object it.type_ it.id) (put_property_copied it.copies.items it.left.now _)
    ∙ ap (λ f. completed f (view c.args.value)) (sym c.in-Object.is)
