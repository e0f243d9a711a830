use Rattle.std.proofs.Common.{rules}
use Rattle.spa_text_commands.proofs.OpenStructs.{tagged_begun}
use Rattle.spa_text_commands.proofs.structs.take_tagged.Goals as goal

pub returns-in-Some-BeginArray : goal.returns-in-Some-BeginArray
returns-in-Some-BeginArray c =
    tagged_begun _ _ _ c.in-Some-Key.key _ _ _ _ c.in-Some-BeginObject.field-0-is c.in-Some-BeginObject.ensures.value c.in-Some-Key.field-0-is
    c.in-Some-Key.ensures.value (search rules) c.in-Some-BeginArray.field-0-is c.in-Some-BeginArray.ensures.value
