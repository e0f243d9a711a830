use Rattle.std.proofs.Common.{◌++◌, [], ◌∷◌, ap, ◌∙◌}
use Rattle.spa_value.specs.Views.{property_views}
use Rattle.spa_value.specs.declared.object.Property.{Property}
use Rattle.spa_text_read.proofs.ViewLaws.{property_views_one}
use Rattle.spa_text_read.proofs.open_object.OpenObject.put.Goals as goal

pub returns-clause-put : goal.returns-clause-put
returns-clause-put c =
    let was = c.args.self.now in
    let last : Property = record { key = was.key; flags = was.flags; value = c.args.value } in
    ap property_views c.push_reserved.ensures.items ∙ ap (λ ps. property_views (ps ++ last ∷ [])) c.in-Ok.ensures.items
    ∙ property_views_one was.properties.items last
