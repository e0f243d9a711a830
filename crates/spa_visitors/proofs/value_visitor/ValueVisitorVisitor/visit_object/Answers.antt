use Rattle.std.proofs.Common.{sym, ap, ◌∙◌}
use Rattle.spa_format.specs.Tree.{object}
use Rattle.spa_value.specs.Views.{property_views}
use Rattle.spa_typed_read.proofs.Stepping.{all_as_in}
use Rattle.spa_visitors.proofs.value_visitor.ValueVisitorVisitor.visit_object.Goals as goal

pub returns-clause-made : goal.returns-clause-made
returns-clause-made c =
    let same = c.read_properties.ensures.same.object in
    let properties = property_views c.in_ok-properties.properties.items in
    λ end. all_as_in _ _ _
    (λ ps e.
    c.object_of.ensures
    ∙ ap (λ t. object t c.read_properties.new.reader.id properties) same.type
    ∙ ap (λ i. object c.args.reader.now.type i properties) same.id
    ∙ ap (object c.args.reader.now.type c.args.reader.now.id) (sym e))
    c.in_ok-properties.ensures.read
