use Rattle.std.proofs.Common.{inl, inr}
use Rattle.spa_text_commands.proofs.ReadTexts.{one_unwritable}
use Rattle.spa_text_commands.proofs.reading.add_one.Goals as goal

pub returns-in-NulInText-clause-refused : goal.returns-in-NulInText-clause-refused
returns-in-NulInText-clause-refused c =
    let why = rw c.in-NulInText.is at c.in-Err.ensures.refused in one_unwritable _ _ (inl why.cause.0)

pub returns-in-TooLarge-clause-refused : goal.returns-in-TooLarge-clause-refused
returns-in-TooLarge-clause-refused c =
    let why = rw c.in-TooLarge.is at c.in-Err.ensures.refused in one_unwritable _ _ (inr why.cause.0)

pub returns-in-Ok-clause-added : goal.returns-in-Ok-clause-added
returns-in-Ok-clause-added c = c.in-Ok.ensures.put.encoding
