use Rattle.spa_value.proofs.TypeLaws.{type_of-array_view, type_of-choice_view, type_of-object_view}
use Rattle.spa_value.proofs.laws.trees_have_their_types.Goals as goal

pub returns : goal.returns
returns c =
    record {
      arrays = type_of-array_view;
      choices = type_of-choice_view;
      objects = type_of-object_view;
    }
