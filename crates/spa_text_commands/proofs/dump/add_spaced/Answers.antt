use Rattle.std.proofs.Common.{rules}
use Rattle.spa_text_commands.proofs.Dumped.{spaced_ended, spaced_pushed}
use Rattle.spa_text_commands.proofs.dump.add_spaced.Goals as goal

pub loop-byte-preserved : goal.loop-byte-preserved
loop-byte-preserved c =
    spaced_pushed c.loop-byte.left.now c.in-Some.behind.now c.loop-byte.lines.items _ _ _ c.in-Some.byte.now c.loop-byte.invariant (search rules)
    c.in_ok-push.ensures.items c.in_ok-add_digits.ensures

pub returns : goal.returns
returns c = spaced_ended c.loop-byte.left.now _ _ c.loop-byte.invariant (search rules)
