use Rattle.std.proofs.Common.{◌≡◌, ◌<◌, ◌≤◌, ℕ, false, true}
use Rattle.spa_text_commands.specs.Naming.{is_counted, table_of}
use Rattle.spa_text_commands.specs.Selection as spec
use Rattle.spa_text_commands.proofs.naming.has_name_between.Given as goal

abbrev pub invariant-loop-type_ : goal.invariant-loop-type_
invariant-loop-type_ l = (type number : ℕ) → l.first ≤ type → type < l.type_ → is_counted number ≡ true →
    spec.is_named (table_of l.named type) number l.name ≡ false
