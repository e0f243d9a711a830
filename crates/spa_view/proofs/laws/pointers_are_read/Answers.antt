use Rattle.spa_view.proofs.ViewedPods as lemmas
use Rattle.spa_view.proofs.laws.pointers_are_read.Goals as goal

pub returns : goal.returns
returns c = record { test = lemmas.pointer_test; type_of_target = lemmas.pointer_type; address = lemmas.pointer_address }
