use Rattle.std.proofs.Common.{◌≡◌, [], ◌∷◌, ◌++◌, rules, ap, ◌∙◌}
use Rattle.spa_value.specs.NestedCopies.{completed, so_far, values_left}
use Rattle.spa_value.specs.View.{view}
use Rattle.spa_value.proofs.nested_copies.Copies.end.Goals as goal

pub returns : goal.returns
returns c =
    let outer = c.in-Some.outer in
    let after = c.replace-ended.ensures.after in
    let tree = view c.into_value-value.result in
    let parts : c.args.self.now.around.items ≡ c.pop.new.self.items ++ outer ∷ [] = search rules in (
      outer,
      parts,
      c.put.ensures.same ∙ ap (λ f. f tree) c.reserve.ensures.same ∙ ap (λ o. completed o tree) after
          ∙ ap (completed outer) (c.into_value-value.ensures ∙ ap so_far c.replace-ended.ensures.value),
      c.put.ensures.left ∙ c.reserve.ensures.left ∙ ap values_left after,
    )
