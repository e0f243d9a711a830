use Rattle.std.proofs.Common.{subst}
use Rattle.std.specs.Prelude.{IfNone, IfSome, Ok}
use Rattle.std.proofs.lemmas.List.{drop_all}
use Rattle.spa_meet_commands.specs.Lists.{AgreesWithNone, FirstGives, OfOne}
use Rattle.spa_meet_commands.proofs.Seeking.{next_is, pairs_found, pairs_none, pairs_on}
use Rattle.spa_bytes.proofs.Passing.{passed_on}
use Rattle.spa_meet_commands.proofs.lists.first_pair.Goals as goal

pub returns-in_err-met-clause-cause : goal.returns-in_err-met-clause-cause
returns-in_err-met-clause-cause g c =
    passed_on _ _ _ c.from_residual.ensures.1
    (pairs_found c.args.work c.args.theirs.now c.args.ours.now _ c.object-item.result _ _ c.loop-object.invariant
    (next_is c.args.ours.now c.loop-object.object-index c.object-item.result c.loop-object-test.true c.object-item.is) c.in_err-met.ensures.cause)

pub returns-in-Some-clause-found : goal.returns-in-Some-clause-found
returns-in-Some-clause-found g c =
    pairs_found c.args.work c.args.theirs.now c.args.ours.now _ c.object-item.result _ (Ok c.in-Some.met.items) c.loop-object.invariant
    (next_is c.args.ours.now c.loop-object.object-index c.object-item.result c.loop-object-test.true c.object-item.is)
    (subst (λ found. IfSome found (λ met. OfOne c.object-item.result c.args.theirs.now (λ p qs. FirstGives c.args.work p qs (Ok met.items))))
    c.in-Some.is c.in_ok-met.ensures.found)

pub loop-object-preserved : goal.loop-object-preserved
loop-object-preserved g c =
    pairs_on c.args.work c.args.theirs.now c.args.ours.now _ c.object-item.result _ c.loop-object.invariant
    (next_is c.args.ours.now c.loop-object.object-index c.object-item.result c.loop-object-test.true c.object-item.is)
    (subst (λ found. IfNone found (OfOne c.object-item.result c.args.theirs.now AgreesWithNone)) c.in_default.is c.in_ok-met.ensures.none)

pub returns-clause-none : goal.returns-clause-none
returns-clause-none g c =
    pairs_none c.args.work c.args.theirs.now c.args.ours.now _ c.loop-object.invariant
    (drop_all c.loop-object.object-index c.args.ours.now c.loop-object-test.false)
