use Rattle.std.proofs.Common.{arith, subst}
use Rattle.spa_format.proofs.Fronts.{rest_is_shorter}
use Rattle.spa_value.specs.View.{view}
use Rattle.spa_text_commands.specs.Texts.{IsTextAt, RefusesPods}
use Rattle.spa_text_commands.specs.Unread.{AddsTextLine}
use Rattle.spa_text_commands.proofs.PrintedPods.{ends, goes_on, runs_out, stops}
use Rattle.spa_bytes.proofs.Passing.{passed_on}
use Rattle.spa_text_commands.proofs.printing.add_texts.Goals as goal

pub returns-in_err-rest-clause-refused : goal.returns-in_err-rest-clause-refused
returns-in_err-rest-clause-refused c =
    passed_on c.from_residual.result _ (RefusesPods c.args.pods.now) c.from_residual.ensures.1
    (stops _ _ _ _ _ _ c.loop-left.invariant (λ e. grind (arith, e, c.loop-left-test.true, c.is_empty.ensures)) c.in_err-rest.ensures.refused)

pub returns-in_err-add_text_at-clause-refused : goal.returns-in_err-add_text_at-clause-refused
returns-in_err-add_text_at-clause-refused c =
    passed_on c.from_residual-in_err-add_text_at.result _ (RefusesPods c.args.pods.now)
    c.from_residual-in_err-add_text_at.ensures.1 (runs_out _ _ c.in_err-add_text_at.ensures.cause)

pub loop-left-smaller : goal.loop-left-smaller
loop-left-smaller c =
    rest_is_shorter c.loop-left.left.now c.in_ok-rest.rest.now c.in_ok-rest.ensures.value.there c.in_ok-rest.ensures.rest

pub loop-left-preserved : goal.loop-left-preserved
loop-left-preserved c =
    goes_on (IsTextAt c.args.layout c.args.position.path.now) c.args.pods.now c.loop-left.left.now c.in_ok-rest.rest.now c.args.lines.now.items c.loop-left.lines.items
    c.add_text_at.new.lines.items (view c.in_ok-rest.value) c.loop-left.invariant c.in_ok-rest.ensures.value c.in_ok-rest.ensures.rest
    (subst (λ value. AddsTextLine (IsTextAt c.args.layout c.args.position.path.now) (view value) c.loop-left.lines.items c.add_text_at.new.lines.items) c.deref.ensures c.in_ok-add_text_at.ensures.added)

pub returns-clause-added : goal.returns-clause-added
returns-clause-added c =
    ends _ _ c.loop-left.left.now _ _ c.loop-left.invariant (grind (arith, c.loop-left-test.false, c.is_empty.ensures))
