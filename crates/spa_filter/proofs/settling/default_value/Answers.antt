use Rattle.std.proofs.Common.{sym, ap, ◌∙◌}
use Rattle.spa_format.specs.Tree.{fixed}
use Rattle.spa_filter.proofs.settling.default_value.Goals as goal

pub returns : goal.returns
returns g c =
    c.value.ensures ∙ ap (λ x. fixed x) c.default_of-default.ensures
    ∙ sym (c.offer_of.ensures.offer c.args.choice.now.0.0).default_is
