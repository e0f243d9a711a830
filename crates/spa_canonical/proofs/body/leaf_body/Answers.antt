use Rattle.std.proofs.Common.{subst, sym}
use Rattle.std.specs.Prelude.{IfErr}
use Rattle.spa_canonical.specs.Look.{IsNoLeafBody}
use Rattle.spa_canonical.proofs.body.leaf_body.Goals as goal

pub returns-then-type_-clause-none : goal.returns-then-type_-clause-none
returns-then-type_-clause-none c =
    subst (λ t. IfErr c.choice_body.result (IsNoLeafBody c.args.canonical t c.args.body.now)) (sym c.if-type_.true) c.choice_body.ensures.none

pub returns-then-type_-2-clause-none : goal.returns-then-type_-2-clause-none
returns-then-type_-2-clause-none c =
    subst (λ t. IfErr c.array_body.result (IsNoLeafBody c.args.canonical t c.args.body.now)) (sym c.if-type_-2.true) c.array_body.ensures.none
