use Rattle.std.proofs.Common.{[]}
use Rattle.spa_text_read.proofs.Nesting.{reads_behind}
use Rattle.spa_text_read.proofs.reading.read_whole.Goals as goal

pub returns-in-Some-clause-refused : goal.returns-in-Some-clause-refused
returns-in-Some-clause-refused c = λ m v r a.
    reads_behind _ _ _ _ _ c.in-Ok.ensures.value c.in-Some.ensures.value v r

pub returns-in-Err-clause-refused : goal.returns-in-Err-clause-refused
returns-in-Err-clause-refused c = λ m v r. c.in-Err.ensures.refused m v [] r
