use Rattle.std.proofs.Common.{inl, inr, sym, subst}
use Rattle.std.specs.Prelude.{◌↔◌, ◌⊎◌, ◌-◌, IsSomeAnd, Option}
use Rattle.spa_events.specs.declared.inside.Inside.{Inside}
use Rattle.spa_canonical.specs.Depth.{NestsDeeperInside}
use Rattle.spa_canonical.proofs.Deeper.{holds_none, looked_into, none_inside, one_level_less, opened_first}
use Rattle.spa_canonical.proofs.nesting.+nesting.Goals as goal
use Rattle.spa_canonical.proofs.nesting.+nesting.Goals.{all_but_longest-in-Some-inside_of+in-Some-longer_of, all_but_longest-in_default-inside_of}

pub all_but_longest-returns-in_default-longer_of-clause-deeper :
    goal.all_but_longest-returns-in_default-longer_of-clause-deeper
all_but_longest-returns-in_default-longer_of-clause-deeper t c =
    let first = opened_first c.args.levels _ _ _ _ _ c.in-Some.ensures.there in
    let inner = one_level_less c.args.levels _ _ _ _ c.requires c.in-Some-inside_of.ensures.there in
    elim c.in_default-longer_of.ensures.deeper [
      | inl longest ↦ c.loop-front.invariant.0 (inr longest)
      | inr inside ↦ c.loop-front.invariant.0 (inl (first.1 (inl (inner.1 inside))))
    ]

pub all_but_longest-loop-front-preserved : goal.all_but_longest-loop-front-preserved
all_but_longest-loop-front-preserved t c =
    let first = opened_first c.args.levels _ _ _ _ _ c.in-Some.ensures.there in
    let D : Option Inside → Type 0 = λ o. IsSomeAnd o (λ i. NestsDeeperInside (c.args.levels - 1) i.keyed i.pods.now) in
    let P : Option Inside → Type 0 =
    λ o. (NestsDeeperInside c.args.levels c.args.keyed c.in-Some.front.rest.now ⊎ D o) ↔ NestsDeeperInside c.args.levels c.args.keyed c.args.pods.now in
    elim c.match-inside_of.branch [
      | all_but_longest-in-Some-inside_of+in-Some-longer_of w ↦
          let inner = one_level_less c.args.levels _ _ _ _ c.requires w.in-Some-inside_of.ensures.there in
          let longer = w.in-Some-longer_of.ensures.longer in
          subst P (sym w.longest-is)
          (looked_into _ _ _ _ _ _ first (
            λ l. elim (longer.0 l) [ inl d ↦ inl d | inr d ↦ inr (inner.1 d) ],
            λ s. longer.1 (elim s [ inl d ↦ inl d | inr d ↦ inr (inner.0 d) ]),
          ) c.loop-front.invariant)
      | all_but_longest-in_default-inside_of w ↦
          let none = holds_none c.args.levels _ _ c.requires w.in_default-inside_of.ensures.other w.in_default-inside_of.ensures.short in
          subst P (sym w.longest-is)
          (looked_into _ _ _ _ _ _ first (λ l. inl l, λ s. elim s [ inl d ↦ d | inr d ↦ absurd (none d) ]) c.loop-front.invariant)
    ]

pub all_but_longest-returns-clause-longest : goal.all_but_longest-returns-clause-longest
all_but_longest-returns-clause-longest t c = (
  λ d. elim (c.loop-front.invariant.1 d) [
    | inl left ↦ absurd (none_inside _ _ _ c.in_default.ensures.short left)
    | inr longest ↦ longest
  ],
  λ longest. c.loop-front.invariant.0 (inr longest),
)
