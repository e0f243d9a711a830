use Rattle.std.proofs.Common.{ap, ◌∙◌}
use Rattle.spa_format.specs.Tree.{object}
use Rattle.spa_value.specs.Views.{property_views}
use Rattle.spa_value.proofs.ViewLaws.{view-object}
use Rattle.spa_visitors.proofs.value_visitor.object_of.Goals as goal

pub returns : goal.returns
returns c =
    let properties = property_views c.args.properties.items in
    view-object c.type_.result c.id.result c.args.properties
    ∙ ap (λ t. object t c.id.result properties) c.type_.ensures
    ∙ ap (λ i. object c.args.reader.now.type i properties) c.id.ensures
