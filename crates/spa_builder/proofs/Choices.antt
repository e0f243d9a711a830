-- The tree of a choice: it has no text, and is no value of fixed size.
use Rattle.std.proofs.Common.{◌≡◌, ◌≢◌, ℕ, refl, false, arith}
use Rattle.spa_format.specs.Kind.{Fixed, Kind}
use Rattle.spa_format.specs.Tree.{fixed, choice_type}
use Rattle.spa_format.proofs.Shapes.{not_fixed}
use Rattle.spa_fixed_sized.specs.Choices.{choice_enum_tree, choice_tree}
use Rattle.spa_utils.specs.declared.choice.Choice.{Choice}
use Rattle.spa_utils.specs.declared.choice.ChoiceEnum.{ChoiceEnum}
use Rattle.spa_utils.specs.declared.choice.ChoiceEnum.TheVariants as E
use Rattle.spa_builder.specs.Step.{has_nul}
use Rattle.spa_value.proofs.TypeLaws.{type_of-choice_enum_tree}

has_nul-values : {T : Type 0} (k : Kind) (f : T → Fixed) (n : ℕ) (c : ChoiceEnum T) → has_nul (choice_enum_tree k f n c) ≡ false
has_nul-values k f n (E.None x) = refl
has_nul-values k f n (E.Range x a b) = refl
has_nul-values k f n (E.Step x a b s) = refl
has_nul-values k f n (E.Enum x xs) = refl
has_nul-values k f n (E.Flags x xs) = refl

pub has_nul-choice_tree : {T : Type 0} (k : Kind) (f : T → Fixed) (c : Choice T) → has_nul (choice_tree k f c) ≡ false
has_nul-choice_tree k f c = has_nul-values k f c.0.0 c.1

pub is_no_element : {T : Type 0} (k : Kind) (f : T → Fixed) (c : Choice T) (x : Fixed) → choice_tree k f c ≢ fixed x
is_no_element k f c x = not_fixed (choice_tree k f c) choice_type (type_of-choice_enum_tree k f c.0.0 c.1) (omega arith) (λ e. omega arith) x
