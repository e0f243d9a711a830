use Rattle.std.proofs.Common.{length, subst, ◌<◌, ◌≤◌}
use Rattle.std.proofs.lemmas.List.{drop_more, drop_all}
use Rattle.std.specs.Prelude.{None}
use Rattle.spa_text_read.specs.Places.{path_limit}
use Rattle.spa_text_read.specs.declared.place.Open.TheVariants.{Object}
use Rattle.spa_text_read.proofs.Trailing.{all_steps_taken, path_cut, step_taken}
use Rattle.spa_text_read.proofs.place.path_through.Goals as goal

pub returns-then-as_bytes-gt-PATH_LIMIT : goal.returns-then-as_bytes-gt-PATH_LIMIT
returns-then-as_bytes-gt-PATH_LIMIT c =
    path_cut _ _ _ _ _ _ (drop_more c.args.trail.now c.loop-step.step-index (Object None) c.loop-step-test.true)
    (subst (λ l. path_limit < length l) c.as_bytes.ensures.value c.if-as_bytes-gt-PATH_LIMIT.true) c.in_ok-push_str.ensures.bytes c.loop-step.invariant

pub loop-step-preserved : goal.loop-step-preserved
loop-step-preserved c =
    step_taken _ _ _ _ _ _ (drop_more c.args.trail.now c.loop-step.step-index (Object None) c.loop-step-test.true)
    (subst (λ l. length l ≤ path_limit) c.as_bytes.ensures.value c.if-as_bytes-gt-PATH_LIMIT.false) c.in_ok-push_step.ensures c.loop-step.invariant

pub returns : goal.returns
returns c = all_steps_taken _ _ _ (drop_all c.loop-step.step-index c.args.trail.now c.loop-step-test.false) c.loop-step.invariant
