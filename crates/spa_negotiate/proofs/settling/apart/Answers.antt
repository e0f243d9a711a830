use Rattle.std.proofs.Common.{refl, sym, ◌∙◌, true≢false}
use Rattle.spa_negotiate.proofs.Leaves.{disjoint_beside}
use Rattle.spa_negotiate.proofs.settling.apart.Goals as goal

pub returns-then-is_supported-clause-first : goal.returns-then-is_supported-clause-first
returns-then-is_supported-clause-first c = λ v h. (disjoint_beside _ _ v c.requires (c.is_supported.ensures.0 c.if-is_supported.true) h).0

pub returns-then-is_supported-clause-second : goal.returns-then-is_supported-clause-second
returns-then-is_supported-clause-second c = λ v h. (disjoint_beside _ _ v c.requires (c.is_supported.ensures.0 c.if-is_supported.true) h).1

pub returns-else-is_supported-clause-first : goal.returns-else-is_supported-clause-first
returns-else-is_supported-clause-first c = λ v h. (refl, λ s. true≢false (sym (c.is_supported.ensures.1 s.1) ∙ c.if-is_supported.false))

pub returns-else-is_supported-clause-second : goal.returns-else-is_supported-clause-second
returns-else-is_supported-clause-second c = λ v h. (refl, λ s. true≢false (sym (c.is_supported.ensures.1 s.0) ∙ c.if-is_supported.false))
