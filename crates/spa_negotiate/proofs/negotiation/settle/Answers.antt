use Rattle.spa_keyed_objects.specs.PropertyLists.{offered_by}
use Rattle.spa_negotiate.proofs.Agreeing.{met_alone, met_at, refused_at}
use Rattle.spa_negotiate.proofs.negotiation.settle.Goals as goal

pub returns-in-Some-clause-met : goal.returns-in-Some-clause-met
returns-in-Some-clause-met c =
    met_at (offered_by c.args.property.now) (offered_by c.in-Some.other.now) _ c.in-Some.ensures c.common.result
    c.common.ensures.plain c.common.ensures.supported c.common.ensures.common

pub returns-in-Some-clause-cause : goal.returns-in-Some-clause-cause
returns-in-Some-clause-cause c =
    refused_at (offered_by c.args.property.now) (offered_by c.in-Some.other.now) _ c.in-Some.ensures
    c.args.property.now.key c.common.result c.common.ensures.cause

pub returns-in_ok-settled-in-None-clause-met : goal.returns-in_ok-settled-in-None-clause-met
returns-in_ok-settled-in-None-clause-met c = met_alone (offered_by c.args.property.now) _ _ c.in-None.ensures c.in_ok-settled-in-None.ensures
