use Rattle.spa_view.proofs.ViewedPods as lemmas
use Rattle.spa_view.proofs.laws.parts_are_seen.Goals as goal

pub returns : goal.returns
returns c = record {
  array = lemmas.array_test;
  choice = lemmas.choice_test;
  members = lemmas.struct_test;
  object = lemmas.object_test;
  object_type = lemmas.object_type;
  object_id = lemmas.object_id;
}
