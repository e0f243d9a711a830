-- The tree of a choice over one of the types of fixed size: docs/FORMAT.md, "Choices".
use Rattle.std.specs.Prelude.{if◌then◌else◌, nat_eq, ℕ, List, [], ◌∷◌, ◌++◌, map, Option, None, Some}
use Rattle.spa_format.specs.Words.{word_bytes}
use Rattle.spa_format.specs.Kind.{Kind, Fixed}
use Rattle.spa_format.specs.Tree.{none_choice, range_choice, step_choice, enum_choice, flags_choice, shape_number, Tree, choice}
use Rattle.spa_format.specs.Encoding.{array_body}
use Rattle.spa_utils.specs.declared.choice.ChoiceEnum.{ChoiceEnum}
use Rattle.spa_utils.specs.declared.choice.ChoiceEnum.TheVariants as E
use Rattle.spa_utils.specs.declared.choice.Choice.{Choice}

-- how many values a choice with this shape word takes, the default first; None: all that it holds
abbrev pub count_taken : ℕ → Option ℕ
count_taken shape =
    if nat_eq shape (shape_number none_choice) then Some 1
    else if nat_eq shape (shape_number range_choice) then Some 3
    else if nat_eq shape (shape_number step_choice) then Some 4
    else None

-- the tree of a choice with these values and this flags word
abbrev pub choice_enum_tree : {T : Type 0} → Kind → (T → Fixed) → ℕ → ChoiceEnum T → Tree
choice_enum_tree k f n (E.None x) = choice none_choice n k (f x) []
choice_enum_tree k f n (E.Range x a b) = choice range_choice n k (f x) (f a ∷ f b ∷ [])
choice_enum_tree k f n (E.Step x a b s) = choice step_choice n k (f x) (f a ∷ f b ∷ f s ∷ [])
choice_enum_tree k f n (E.Enum x xs) = choice enum_choice n k (f x) (map f xs.items)
choice_enum_tree k f n (E.Flags x xs) = choice flags_choice n k (f x) (map f xs.items)

-- the tree of a choice, where `f` gives the kind's value of each element of the type
abbrev pub choice_tree : {T : Type 0} → Kind → (T → Fixed) → Choice T → Tree
choice_tree k f c = choice_enum_tree k f c.0.0 c.1

-- the body of a choice with this shape word, these flags, and values of this kind, its default first
abbrev pub choice_body : ℕ → ℕ → Kind → List Fixed → List ℕ
choice_body n f k xs = word_bytes n ++ (word_bytes f ++ array_body k xs)
