use Rattle.std.proofs.Common.{arith}
use Rattle.spa_text_commands.proofs.PrintedPods.{no_path_added}
use Rattle.spa_text_commands.proofs.printing.add_path_field.Goals as goal

pub returns-then-is_empty : goal.returns-then-is_empty
returns-then-is_empty c = no_path_added _ _ (grind (arith, c.if-is_empty.true, c.is_empty.ensures))
