use Rattle.std.proofs.Common.{◌≡◌, ◌<◌, ◌≤◌, ℕ, false}
use Rattle.spa_text_commands.specs.Selection as spec
use Rattle.spa_text_commands.proofs.naming.has_name_from.Given as goal

abbrev pub invariant-loop-number : goal.invariant-loop-number
invariant-loop-number l = (number : ℕ) → l.start ≤ number → number < l.number → spec.is_named l.table number l.name ≡ false
