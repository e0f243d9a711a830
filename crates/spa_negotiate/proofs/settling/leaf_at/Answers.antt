use Rattle.std.proofs.Common.{◌≡◌, ◌∙◌, inl, inr, subst, sym}
use Rattle.spa_format.specs.Pod.{IsPod}
use Rattle.spa_format.specs.Tree.{Tree}
use Rattle.spa_value.specs.View.{view}
use Rattle.spa_bodies.specs.Written.{IsLeaf}
use Rattle.spa_format.proofs.Fronts.{pod_begins}
use Rattle.spa_negotiate.proofs.Leaves.{leaf_read, no_members, object_read, struct_read}
use Rattle.spa_negotiate.proofs.settling.leaf_at.Goals as goal

pub returns-in_default-clause-members : goal.returns-in_default-clause-members
returns-in_default-clause-members c = λ v p. absurd (c.in_default.ensures.short (pod_begins _ v p).there)

pub returns-then-is_container-clause-members : goal.returns-then-is_container-clause-members
returns-then-is_container-clause-members c =
    elim (c.is_container.ensures.exactly.0 c.if-is_container.true) [
      | inl t ↦ struct_read _ _ _ _ c.in-Some.ensures.there t
      | inr t ↦ object_read _ _ _ _ c.in-Some.ensures.there t
    ]

pub returns-in-Ok-clause-value : goal.returns-in-Ok-clause-value
returns-in-Ok-clause-value c =
    subst (λ value. (v : Tree) → IsPod c.args.pod.now v → view value ≡ v) (sym c.from.ensures)
    (leaf_read c.pods_have_one_value.ensures _ _ _ _ _ c.in-Some.ensures.there c.in-Ok.ensures.its_type c.in-Ok.ensures.read)

pub returns-in-Ok-clause-leaf : goal.returns-in-Ok-clause-leaf
returns-in-Ok-clause-leaf c =
    let its_type = c.in-Ok.ensures.its_type in
    let other = c.is_container.ensures.other c.if-is_container.false in
    subst (λ value. IsLeaf (view value)) (sym c.from.ensures)
    (no_members (view c.in-Ok.value) (λ e. other.0 (sym its_type ∙ e)) (λ e. other.1 (sym its_type ∙ e)))
