use Rattle.spa_text_commands.proofs.OpenStructs.{bare_begun}
use Rattle.spa_text_commands.proofs.structs.take_begin.Goals as goal

pub returns-in-Some-BeginArray : goal.returns-in-Some-BeginArray
returns-in-Some-BeginArray c =
    bare_begun c.args.braced _ _ _ c.if-braced.false c.in-Some-BeginArray.field-0-is c.in-Some-BeginArray.ensures.value
