use Rattle.std.proofs.Common.{ap, ◌∙◌}
use Rattle.spa_read.specs.Nesting.{so_far, with_child}
use Rattle.spa_value.specs.View.{view}
use Rattle.spa_read.proofs.nest.Nest.end.Goals as goal

pub returns-clause-ended : goal.returns-clause-ended
returns-clause-ended c =
    let around = c.in-Some.around in
    let tree = view c.into_value-value.result in
    let after = c.replace-ended.ensures.after in
    record {
      next = around;
      outer = c.in-Some.ensures.some;
      rest = ap (λ o. o.rest.now) after;
      grown = c.put.ensures ∙ c.reserve.ensures.same.next tree ∙ ap (λ o. with_child o.inside tree) after
          ∙ ap (with_child around.inside) (c.into_value-value.ensures ∙ ap (λ o. so_far o.inside) (c.replace-ended.ensures.value ∙ c.pop.ensures.inner));
    }
