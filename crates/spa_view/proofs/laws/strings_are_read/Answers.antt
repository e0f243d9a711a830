use Rattle.spa_view.proofs.ViewedPods as lemmas
use Rattle.spa_view.proofs.laws.strings_are_read.Goals as goal

pub returns : goal.returns
returns c = record { test = lemmas.string_test; value = lemmas.string_value }
