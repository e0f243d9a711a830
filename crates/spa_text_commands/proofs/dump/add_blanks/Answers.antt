use Rattle.std.proofs.Common.{◌≡◌, ◌+◌, ◌-◌, arith}
use Rattle.spa_text_commands.proofs.Dumped.{blanks_ended, blanks_pushed}
use Rattle.spa_text_commands.proofs.dump.add_blanks.Goals as goal

pub loop-left-preserved : goal.loop-left-preserved
loop-left-preserved c =
    blanks_pushed c.loop-left.left (c.loop-left.left - 1) c.loop-left.lines.items _ _ c.loop-left.invariant
    (let t = c.loop-left-test.true in let e : c.loop-left.left ≡ (c.loop-left.left - 1) + 1 = omega (arith, t) in e) c.in_ok-extend_from_slice.ensures.items

pub returns : goal.returns
returns c =
    blanks_ended c.extend_from_slice-2.result c.loop-left.left c.loop-left.lines.items _ _ c.loop-left.invariant
    (let t = c.loop-left-test.false in omega (arith, t)) c.extend_from_slice-2.ensures.items
