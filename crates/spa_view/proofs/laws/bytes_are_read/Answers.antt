use Rattle.spa_view.proofs.ViewedPods as lemmas
use Rattle.spa_view.proofs.laws.bytes_are_read.Goals as goal

pub returns : goal.returns
returns c = record { test = lemmas.bytes_test; value = lemmas.bytes_value }
