use Rattle.std.proofs.Common.{reverse}
use Rattle.spa_text_commands.proofs.OpenStructs.{IsIn}
use Rattle.spa_text_commands.proofs.structs.put_struct.Given as goal

abbrev pub invariant-loop : goal.invariant-loop
invariant-loop l = IsIn l.fn.strictness l.fn.reader l.fn.pods.items (reverse l.open.items) l.reader l.pods.items
