use Rattle.spa_typed_read.proofs.Stepping.{all_left_in, further_in_same}
use Rattle.spa_typed_tests.proofs.reading.structs.IdleVisitorVisitor.visit_object.Goals as goal

pub returns-clause-made : goal.returns-clause-made
returns-clause-made c = λ end. all_left_in _ _ (further_in_same _) end
