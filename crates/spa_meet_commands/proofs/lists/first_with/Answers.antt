use Rattle.std.proofs.Common.{sym, true≢false, ◌∙◌}
use Rattle.std.specs.Prelude.{Err, Ok}
use Rattle.std.proofs.lemmas.List.{drop_all}
use Rattle.spa_meet_commands.proofs.Seeking.{disagrees, next_is, seeks_found, seeks_none, seeks_on}
use Rattle.spa_meet_commands.proofs.lists.first_with.Goals as goal

pub returns-in-Ok-clause-found : goal.returns-in-Ok-clause-found
returns-in-Ok-clause-found c =
    seeks_found c.args.work c.args.ours.now c.args.theirs.now _ c.object-item.result _ (Ok c.in-Ok.met.items) c.loop-object.invariant
    (next_is c.args.theirs.now c.loop-object.object-index c.object-item.result c.loop-object-test.true c.object-item.is) c.in-Ok.ensures.agreed

pub returns-in-Err-clause-cause : goal.returns-in-Err-clause-cause
returns-in-Err-clause-cause c =
    seeks_found c.args.work c.args.ours.now c.args.theirs.now _ c.object-item.result _ (Err c.in-Err.cause) c.loop-object.invariant
    (next_is c.args.theirs.now c.loop-object.object-index c.object-item.result c.loop-object-test.true c.object-item.is)
    (λ p q h k. (c.in-Err.ensures.cause p q h k, λ d. true≢false (sym (c.is_of_disagreement.ensures.1 d) ∙ c.if-not-is_of_disagreement.true)))

pub loop-object-preserved : goal.loop-object-preserved
loop-object-preserved c =
    seeks_on c.args.work c.args.ours.now c.args.theirs.now _ c.object-item.result _ c.loop-object.invariant
    (next_is c.args.theirs.now c.loop-object.object-index c.object-item.result c.loop-object-test.true c.object-item.is)
    (λ p q h k. disagrees c.args.work p q c.in-Err.cause (c.in-Err.ensures.cause p q h k)
    (c.is_of_disagreement.ensures.0 c.if-not-is_of_disagreement.false))

pub returns-clause-none : goal.returns-clause-none
returns-clause-none c =
    seeks_none c.args.work c.args.ours.now c.args.theirs.now _ c.loop-object.invariant
    (drop_all c.loop-object.object-index c.args.theirs.now c.loop-object-test.false)
