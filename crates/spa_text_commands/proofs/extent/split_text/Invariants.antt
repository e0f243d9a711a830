use Rattle.std.proofs.Common.{length}
use Rattle.spa_text_commands.specs.Unread.{place_of}
use Rattle.spa_text_commands.proofs.Extents.{Passed}
use Rattle.spa_text_commands.proofs.extent.split_text.Given as goal

abbrev pub invariant-loop-byte : goal.invariant-loop-byte
invariant-loop-byte l = Passed l.bytes l.left (place_of l.open.place) l.open.count

abbrev pub decreases-loop-byte : goal.decreases-loop-byte
decreases-loop-byte l = length l.left
