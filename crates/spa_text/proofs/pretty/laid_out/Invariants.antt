use Rattle.std.proofs.Common.{length}
use Rattle.json.specs.Lex.{tokens}
use Rattle.spa_text.proofs.Relaid.{IsLaid, Nests}
use Rattle.spa_text.proofs.pretty.laid_out.Given as goal

abbrev pub invariant-loop-token : goal.invariant-loop-token
invariant-loop-token l = IsLaid (tokens l.line) l.lines l.reader × Nests (tokens l.line) l.reader l.count

abbrev pub decreases-loop-token : goal.decreases-loop-token
decreases-loop-token l = length l.reader
