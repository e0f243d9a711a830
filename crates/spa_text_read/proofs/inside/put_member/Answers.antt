use Rattle.std.proofs.Common.{◌++◌, [], ◌∷◌, ap, ◌∙◌}
use Rattle.spa_value.specs.Views.{views}
use Rattle.spa_value.proofs.ViewLaws.{views-push}
use Rattle.spa_text_read.proofs.inside.put_member.Goals as goal

pub returns-clause-ok : goal.returns-clause-ok
returns-clause-ok c =
    ap views c.push_reserved.ensures.items ∙ ap (λ vs. views (vs ++ c.args.value ∷ [])) c.in-Ok.ensures.items
    ∙ views-push c.args.members.now.items c.args.value
