-- Kinds without flags and without steps that have an order by one number, or none.
use Rattle.spa_format.specs.Kind.{Kind}
use Rattle.spa_filter_elements.specs.Bounds.{IsChain}
use Rattle.spa_filter_elements.specs.Flags.{IsFlagKind}
use Rattle.spa_filter_elements.specs.Steps.{IsStepKind}

-- of two elements one is no greater than the other, where both have an order, and none are flags or have steps
abbrev pub IsPlainKind : Kind → Type 0
IsPlainKind k = IsChain k × (¬ (IsFlagKind k)) × (¬ (IsStepKind k))
