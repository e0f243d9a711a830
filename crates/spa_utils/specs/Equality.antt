-- When two choices are equal: docs/FORMAT.md, "Choices".
use Rattle.std.specs.Prelude.{ℕ, List, [], ◌∷◌}
use Rattle.spa_utils.specs.declared.choice.ChoiceEnum.{ChoiceEnum}
use Rattle.spa_utils.specs.declared.choice.ChoiceEnum.TheVariants.{None, Range, Step, Enum, Flags}

-- the number of a choice's shape, as it stands in a pod
abbrev pub shape_of : {T : Type 0} → ChoiceEnum T → ℕ
shape_of (None v) = 0
shape_of (Range v low high) = 1
shape_of (Step v low high by) = 2
shape_of (Enum v vs) = 3
shape_of (Flags v vs) = 4

-- all values of a choice in order, the default first
abbrev pub values_of : {T : Type 0} → ChoiceEnum T → List T
values_of (None v) = v ∷ []
values_of (Range v low high) = v ∷ low ∷ high ∷ []
values_of (Step v low high by) = v ∷ low ∷ high ∷ by ∷ []
values_of (Enum v vs) = v ∷ vs.items
values_of (Flags v vs) = v ∷ vs.items
