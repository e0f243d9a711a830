use Rattle.std.proofs.Common.{◌++◌, ap, ◌∙◌}
use Rattle.spa_format.specs.Tree.{object}
use Rattle.spa_value.specs.Views.{property_views}
use Rattle.spa_value.proofs.Copying.{put_property_copied}
use Rattle.spa_value.proofs.nested_copies.CopiedObjectTakes.put.Goals as goal

pub returns : goal.returns
returns c = λ left.
    let it = c.args.self.now in
    ap (λ l. object it.type_ it.id (property_views (l ++ left))) c.push_reserved.ensures.items
    ∙ ap (object it.type_ it.id) (put_property_copied it.copies.items left _)
