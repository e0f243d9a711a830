use Rattle.spa_text_commands.proofs.Names.{by_no_name}
use Rattle.spa_text_commands.proofs.naming.is_name.Goals as goal

pub returns-clause-other : goal.returns-clause-other
returns-clause-other c = λ no.
    by_no_name c.args.named c.args.name.now (c.is_number.ensures.other c.if-is_number.false) (c.has_name_between.ensures.other c.if-has_name_between.false)
    (c.has_name_between-2.ensures.other c.if-has_name_between-2.false) (c.has_name_between-3.ensures.other no)
