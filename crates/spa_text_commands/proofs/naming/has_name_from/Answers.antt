use Rattle.std.proofs.Common.{◌≡◌, ◌∙◌, false, sym}
use Rattle.spa_text_commands.specs.Selection.{is_named}
use Rattle.spa_text_commands.proofs.Names.{one_more}
use Rattle.spa_text_commands.proofs.naming.has_name_from.Goals as goal

pub loop-number-preserved : goal.loop-number-preserved
loop-number-preserved c =
    one_more (λ number. is_named c.args.table number c.args.name.now ≡ false) c.args.start c.loop-number.number c.loop-number.invariant (sym c.is_named.ensures ∙ c.if-is_named.false)
