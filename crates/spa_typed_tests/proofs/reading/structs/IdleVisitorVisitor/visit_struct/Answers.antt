use Rattle.spa_typed_read.proofs.Stepping.{all_left, further_same}
use Rattle.spa_typed_tests.proofs.reading.structs.IdleVisitorVisitor.visit_struct.Goals as goal

pub returns-clause-made : goal.returns-clause-made
returns-clause-made c = λ end. all_left _ _ (further_same _) end
