-- The tree of a value has the type of the value's variant: docs/FORMAT.md, "Values".
use Rattle.std.proofs.Common.{◌≡◌, ℕ, refl}
use Rattle.spa_format.specs.Kind.{Kind, Fixed}
use Rattle.spa_format.specs.Tree.{type_of, array_type, choice_type, object_type}
use Rattle.spa_fixed_sized.specs.Choices.{choice_enum_tree}
use Rattle.spa_utils.specs.declared.choice.ChoiceEnum.{ChoiceEnum}
use Rattle.spa_utils.specs.declared.choice.ChoiceEnum.TheVariants as E
use Rattle.spa_value.specs.declared.array.ValueArray.{ValueArray}
use Rattle.spa_value.specs.declared.array.ValueArray.TheVariants as A
use Rattle.spa_value.specs.declared.choice_value.ChoiceValue.{ChoiceValue}
use Rattle.spa_value.specs.declared.choice_value.ChoiceValue.TheVariants as C
use Rattle.spa_value.specs.declared.object.Object.{Object, Object'}
use Rattle.spa_value.specs.View.{array_view, choice_view, object_view}

-- the tree of an array
pub type_of-array_view : (a : ValueArray) → type_of (array_view a) ≡ array_type
type_of-array_view (A.None xs) = refl
type_of-array_view _ = refl

pub type_of-choice_enum_tree : {T : Type 0} (k : Kind) (g : T → Fixed) (n : ℕ) (c : ChoiceEnum T) →
    type_of (choice_enum_tree k g n c) ≡ choice_type
type_of-choice_enum_tree k g n (E.None x) = refl
type_of-choice_enum_tree k g n _ = refl

-- the tree of a choice
pub type_of-choice_view : (c : ChoiceValue) → type_of (choice_view c) ≡ choice_type
type_of-choice_view (C.Bool c) = type_of-choice_enum_tree _ _ _ c.1
type_of-choice_view (C.Id c) = type_of-choice_enum_tree _ _ _ c.1
type_of-choice_view (C.Int c) = type_of-choice_enum_tree _ _ _ c.1
type_of-choice_view (C.Long c) = type_of-choice_enum_tree _ _ _ c.1
type_of-choice_view (C.Float c) = type_of-choice_enum_tree _ _ _ c.1
type_of-choice_view (C.Double c) = type_of-choice_enum_tree _ _ _ c.1
type_of-choice_view (C.Rectangle c) = type_of-choice_enum_tree _ _ _ c.1
type_of-choice_view (C.Fraction c) = type_of-choice_enum_tree _ _ _ c.1
type_of-choice_view (C.Fd c) = type_of-choice_enum_tree _ _ _ c.1

-- the tree of an object
pub type_of-object_view : (o : Object) → type_of (object_view o) ≡ object_type
type_of-object_view (Object' t i s r) = refl
