use Rattle.std.proofs.Common.{refl, Some}
use Rattle.std.proofs.lemmas.Result.{on_ok_weaker, IfErr-weaker}
use Rattle.spa_keyed_objects.specs.Keys.{offered}
use Rattle.spa_negotiate.proofs.Agreeing.{refused_value}
use Rattle.spa_negotiate.proofs.Putting.{met_both}
use Rattle.spa_negotiate.proofs.rule.SettlingRule.put_both.Goals as goal

pub returns-clause-put : goal.returns-clause-put
returns-clause-put c = on_ok_weaker c.put_common.result (λ put v w i j. met_both v w _ _ _ _ _ refl (put v w i j)) c.put_common.ensures.put

pub returns-clause-cause : goal.returns-clause-cause
returns-clause-cause c =
    IfErr-weaker c.put_common.result _ _
    (λ e refused v w i j.
    refused_value (offered c.args.first.now.flags v) (offered c.args.other.now.flags w) (Some (offered c.args.other.now.flags w)) refl
    c.args.first.now.key e (refused v w i j))
    c.put_common.ensures.cause
