use Rattle.std.proofs.Common.{◌≡◌, ℕ, false, true, subst}
use Rattle.spa_text_commands.specs.Naming.{is_counted, table_of}
use Rattle.spa_text_commands.specs.Selection.{is_named}
use Rattle.spa_text_commands.proofs.Names.{one_more}
use Rattle.spa_text_commands.proofs.naming.has_name_between.Goals as goal

pub loop-type_-preserved : goal.loop-type_-preserved
loop-type_-preserved c = λ type key low high listed.
    one_more (λ t. (k : ℕ) → is_counted k ≡ true → is_named (table_of c.args.named t) k c.args.name.now ≡ false) c.args.first c.loop-type_.type_
    (λ t l h k n. c.loop-type_.invariant t k l h n)
    (subst (λ table. (k : ℕ) → is_counted k ≡ true → is_named table k c.args.name.now ≡ false) c.table_of.ensures (c.has_name.ensures.other c.if-has_name.false))
    type low high key listed
