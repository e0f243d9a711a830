use Rattle.spa_text_commands.proofs.OpenStructs.{bare_ended, tagged_ended}
use Rattle.spa_text_commands.proofs.structs.take_end.Goals as goal

pub returns-in-Some-EndObject : goal.returns-in-Some-EndObject
returns-in-Some-EndObject c =
    tagged_ended c.args.braced _ _ _ _ _ c.if-braced.true c.in-Some-EndArray.field-0-is c.in-Some-EndArray.ensures.value c.in-Some-EndObject.field-0-is
    c.in-Some-EndObject.ensures.value

pub returns-else-braced : goal.returns-else-braced
returns-else-braced c = bare_ended c.args.braced _ _ _ c.if-braced.false c.in-Some-EndArray.field-0-is c.in-Some-EndArray.ensures.value
