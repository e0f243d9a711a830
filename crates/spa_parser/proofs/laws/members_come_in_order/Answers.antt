use Rattle.spa_parser.proofs.AcceptedPods as lemmas
use Rattle.spa_parser.proofs.laws.members_come_in_order.Goals as goal

pub returns-clause-first : goal.returns-clause-first
returns-clause-first c = lemmas.first_is_next

pub returns-clause-others : goal.returns-clause-others
returns-clause-others c = lemmas.others_are_left

pub returns-clause-end : goal.returns-clause-end
returns-clause-end c = lemmas.none_is_left
