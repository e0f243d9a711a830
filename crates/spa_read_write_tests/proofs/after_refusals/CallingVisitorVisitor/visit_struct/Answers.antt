use Rattle.spa_typed_read.proofs.Stepping.{all_left, further_trans}
use Rattle.spa_read_write_tests.proofs.after_refusals.CallingVisitorVisitor.visit_struct.Goals as goal

pub returns-in-None-clause-made : goal.returns-in-None-clause-made
returns-in-None-clause-made c =
    λ end. all_left _ _
    (further_trans _ _ _ c.member-call.ensures
    (further_trans _ _ _ c.member-how.ensures
    (further_trans _ _ _ c.refused_member-refused.ensures c.next_member.ensures))) end
