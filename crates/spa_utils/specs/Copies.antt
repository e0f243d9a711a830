-- Copies of choices: docs/FORMAT.md, "Choices".
use Rattle.std.specs.Prelude.{◌≡◌}
use Rattle.spa_utils.specs.declared.choice.Choice.{Choice}
use Rattle.spa_utils.specs.declared.choice.ChoiceEnum.{ChoiceEnum}
use Rattle.spa_utils.specs.declared.choice.ChoiceEnum.TheVariants.{None, Range, Step, Enum, Flags}

-- the second is of the first's variant, with its values in order
abbrev pub IsCopyOf : {T : Type 0} → ChoiceEnum T → ChoiceEnum T → Type 0
IsCopyOf (None v) (None w) = w ≡ v
IsCopyOf (Range a b c) (Range x y z) = (x ≡ a) × (y ≡ b) × (z ≡ c)
IsCopyOf (Step a b c d) (Step x y z w) = (x ≡ a) × (y ≡ b) × (z ≡ c) × (w ≡ d)
IsCopyOf (Enum v vs) (Enum w ws) = (w ≡ v) × (ws.items ≡ vs.items)
IsCopyOf (Flags v vs) (Flags w ws) = (w ≡ v) × (ws.items ≡ vs.items)
IsCopyOf _ _ = ⊥

-- the second has the first's flags, and a copy of its values
abbrev pub IsChoiceCopyOf : {T : Type 0} → Choice T → Choice T → Type 0
IsChoiceCopyOf c d = (d.0 ≡ c.0) × IsCopyOf c.1 d.1
