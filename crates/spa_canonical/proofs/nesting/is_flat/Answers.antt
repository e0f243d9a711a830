use Rattle.std.proofs.Common.{inl, inr}
use Rattle.spa_canonical.proofs.Deeper.{none_inside, opened_first}
use Rattle.spa_canonical.proofs.nesting.is_flat.Goals as goal
use Rattle.std.proofs.lemmas.Bool.{both_ways}

pub returns-then-is_container-clause-deeper : goal.returns-then-is_container-clause-deeper
returns-then-is_container-clause-deeper c = λ _.
    c.loop-front.invariant.0 ((opened_first _ _ _ _ _ _ c.in-Some.ensures.there).1 (inl (c.is_container.ensures.exactly.0 c.if-is_container.true)))

pub loop-front-preserved : goal.loop-front-preserved
loop-front-preserved c =
    let first = opened_first 0 _ _ _ _ _ c.in-Some.ensures.there in (
      λ d. c.loop-front.invariant.0 (first.1 (inr d)),
      λ d. elim (first.0 (c.loop-front.invariant.1 d)) [
        | inl here ↦ absurd (both_ways _ c.if-is_container.false (c.is_container.ensures.exactly.1 here))
        | inr behind ↦ behind
      ],
    )

pub returns-clause-within : goal.returns-clause-within
returns-clause-within c = λ d. absurd (none_inside _ _ _ c.in_default.ensures.short (c.loop-front.invariant.1 d))
