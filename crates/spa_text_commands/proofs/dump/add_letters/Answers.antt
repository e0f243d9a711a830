use Rattle.std.proofs.Common.{rules}
use Rattle.spa_text_commands.proofs.Dumped.{letters_ended, letters_pushed}
use Rattle.spa_text_commands.proofs.dump.add_letters.Goals as goal

pub loop-byte-preserved : goal.loop-byte-preserved
loop-byte-preserved c =
    letters_pushed c.loop-byte.left.now c.in-Some.behind.now c.loop-byte.lines.items _ _ c.in-Some.byte.now _ c.loop-byte.invariant (search rules)
    c.letter_of.ensures c.in_ok-push.ensures.items

pub returns : goal.returns
returns c = letters_ended c.loop-byte.left.now _ _ c.loop-byte.invariant (search rules)
