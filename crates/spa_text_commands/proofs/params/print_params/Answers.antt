use Rattle.std.proofs.Common.{[], arith, refl, subst}
use Rattle.spa_value.specs.View.{view}
use Rattle.spa_text_commands.specs.Params.{AddsParam, IsParam}
use Rattle.spa_text_commands.proofs.PrintedParams.{not_printed}
use Rattle.spa_text_commands.proofs.PrintedPods.{begins, ends, goes_on, printed_all, stops}
use Rattle.spa_text_commands.proofs.params.print_params.Goals as goal

pub loop-left-init : goal.loop-left-init
loop-left-init c = begins IsParam _ [] _ c.new-lines.ensures.items

pub loop-left-preserved : goal.loop-left-preserved
loop-left-preserved c =
    let old = c.loop-left.lines.items in
    let new = c.add_param.new.lines.items in
    goes_on IsParam c.args.pods.now c.loop-left.left.now c.in-Ok.read.0.now [] old new (view c.in-Ok.read.1) c.loop-left.invariant c.in-Ok.ensures.value
    c.in-Ok.ensures.rest
    (subst (λ is_added. AddsParam (view c.in-Ok.read.1) old new is_added) c.if-not-branch.false
    (subst (λ value. AddsParam (view value) old new c.in_ok-add_param.field-0) c.deref.ensures c.in_ok-add_param.ensures))

pub returns-in-Err-clause-refused : goal.returns-in-Err-clause-refused
returns-in-Err-clause-refused c =
    not_printed c.args.pods.now c.in-Err.why _
    (stops IsParam _ _ _ _ _ c.loop-left.invariant (λ e. grind (arith, e, c.loop-left-test.true, c.is_empty.ensures)) c.in-Err.ensures.refused)
    c.unread.ensures

pub returns-clause-printed : goal.returns-clause-printed
returns-clause-printed c =
    printed_all IsParam _ [] _ (ends IsParam _ c.loop-left.left.now [] _ c.loop-left.invariant (grind (arith, c.loop-left-test.false, c.is_empty.ensures)))
    refl
