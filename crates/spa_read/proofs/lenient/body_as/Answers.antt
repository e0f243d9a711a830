use Rattle.spa_read.specs.Reading.{of_text}
use Rattle.spa_read.proofs.lenient.body_as.Goals as goal

pub returns-then-type_ : goal.returns-then-type_
returns-then-type_ c = of_text c.if-type_.true c.text_as.ensures
