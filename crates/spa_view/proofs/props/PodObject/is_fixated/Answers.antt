use Rattle.std.proofs.Common.{rules, ◌∙◌}
use Rattle.spa_format.proofs.FixatedValues.{all_settled-of}
use Rattle.spa_format.proofs.WalkedMembers.{object_walked}
use Rattle.spa_view.proofs.props.PodObject.is_fixated.Goals as goal

pub returns-then-not-is_settled-clause-settled : goal.returns-then-not-is_settled-clause-settled
returns-then-not-is_settled-clause-settled c =
    search rules

pub returns-then-not-is_settled-clause-accepted : goal.returns-then-not-is_settled-clause-accepted
returns-then-not-is_settled-clause-accepted c t i ps h =
    returns-then-not-is_settled-clause-settled c ∙ all_settled-of ps _ (object_walked t i ps c.args.self.now.pod.bytes.now h)

pub returns-clause-settled : goal.returns-clause-settled
returns-clause-settled c =
    search rules

pub returns-clause-accepted : goal.returns-clause-accepted
returns-clause-accepted c t i ps h =
    returns-clause-settled c ∙ all_settled-of ps _ (object_walked t i ps c.args.self.now.pod.bytes.now h)
