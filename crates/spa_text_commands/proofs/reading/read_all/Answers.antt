use Rattle.std.proofs.Common.{ap, arith, length}
use Rattle.spa_text_commands.proofs.Extents.{shorter}
use Rattle.spa_text_commands.proofs.ReadTexts.{begins, goes_on, not_read}
use Rattle.spa_text_commands.proofs.reading.read_all.Goals as goal

pub loop-left-init : goal.loop-left-init
loop-left-init c = begins _ _ _ c.new-pods.ensures.items

pub loop-left-smaller : goal.loop-left-smaller
loop-left-smaller c =
    shorter c.loop-left.left.now c.add_first-added.result.0.now c.add_first-added.result.1.now
    (c.add_first-added.ensures.begins (λ e. let l = ap length e in grind (arith, l, c.loop-left-test.true, c.is_empty.ensures)))

pub loop-left-preserved : goal.loop-left-preserved
loop-left-preserved c =
    goes_on c.args.form c.args.bytes.now c.loop-left.left.now c.add_first-added.result.0.now c.add_first-added.result.1.now c.loop-left.pods.items
    c.add_first-added.new.pods.items c.loop-left.invariant
    (c.add_first-added.ensures.begins (λ e. let l = ap length e in grind (arith, l, c.loop-left-test.true, c.is_empty.ensures)))
    (rw c.in-Ok.is at c.add_first-added.ensures.added)

pub returns-in-Err-clause-refused : goal.returns-in-Err-clause-refused
returns-in-Err-clause-refused c =
    not_read c.args.form c.args.bytes.now c.loop-left.left.now c.add_first-added.result.0.now c.add_first-added.result.1.now c.loop-left.pods.items
    c.position_behind-line.result.0 c.failure_at.result c.loop-left.invariant
    (c.add_first-added.ensures.begins (λ e. let l = ap length e in grind (arith, l, c.loop-left-test.true, c.is_empty.ensures)))
    c.position_behind-line.ensures.line
    (c.failure_at.ensures c.args.form (rw c.in-Err.is at c.add_first-added.ensures.refused))
