use Rattle.std.proofs.Common.{sym, ap, ◌∙◌}
use Rattle.spa_format.specs.Tree.{struct}
use Rattle.spa_value.proofs.ViewLaws.{view-struct}
use Rattle.spa_typed_read.proofs.Stepping.{all_as}
use Rattle.spa_visitors.proofs.value_visitor.ValueVisitorVisitor.visit_struct.Goals as goal

pub returns-clause-made : goal.returns-clause-made
returns-clause-made c =
    λ end. all_as _ _ _ (λ vs e. view-struct c.in_ok-members.members ∙ ap struct (sym e)) c.in_ok-members.ensures.read
