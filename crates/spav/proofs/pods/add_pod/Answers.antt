use Rattle.std.proofs.Common.{inl, refl, subst, sym}
use Rattle.spa_builder.specs.Step.{add, step}
use Rattle.spav.specs.Building.{AddsPod, IsPodOf}
use Rattle.spav.proofs.pods.add_pod.Goals as goal

pub returns-in-Some-canonical_pod : goal.returns-in-Some-canonical_pod
returns-in-Some-canonical_pod c = λ s at.
    let found = c.in-Some-canonical_pod.ensures.some in
    let v = found.1.0 in
    let o = step s (add v) in (
      o,
      subst (λ p. AddsPod s p o) (sym c.in-Some.ensures.some) (inl (v, found.1.1, refl)),
      c.add_value.ensures s v at (subst (λ b. IsPodOf b v) (sym found.0) found.1.1),
    )
