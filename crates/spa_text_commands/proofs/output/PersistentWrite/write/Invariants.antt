use Rattle.std.specs.Io.KnownBytes.{Keeps}
use Rattle.spa_text_commands.proofs.output.PersistentWrite.write.Given as goal

abbrev pub invariant-loop : goal.invariant-loop
invariant-loop g l = Keeps (g.W.Write.contents l.fn.self.device) (g.W.Write.contents l.self.device)
