use Rattle.spa_view.proofs.ViewedPods as lemmas
use Rattle.spa_view.proofs.laws.fixed_pods_are_read.Goals as goal

pub returns : goal.returns
returns c = record { test = lemmas.fixed_test; value = lemmas.fixed_value }
