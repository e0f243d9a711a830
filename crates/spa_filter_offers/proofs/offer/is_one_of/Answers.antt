use Rattle.std.proofs.Common.{◌≡◌, ◌∷◌, inl, inr, map, refl, sym, ◌∙◌, subst, true≢false}
use Rattle.std.specs.List.{Contains}
use Rattle.spa_filter_offers.proofs.Contents.{Contains-first, Contains-behind, Contains-cons_cases}
use Rattle.spa_filter_offers.proofs.offer.is_one_of.Goals as goal

pub returns-then-is_same : goal.returns-then-is_same
returns-then-is_same g c =
    let f = g.T.CanonicalFixedSizedPod.fixed in
    let same = c.is_same.ensures.0 c.if-is_same.true in
    (λ h. subst (λ y. Contains (y ∷ map f c.args.others.now) (f c.args.x.now)) same (Contains-first _ _), λ h. refl)

pub returns : goal.returns
returns g c =
    let f = g.T.CanonicalFixedSizedPod.fixed in
    let other = λ (e : f c.args.x.now ≡ f c.args.first.now). true≢false (sym (c.is_same.ensures.1 e) ∙ c.if-is_same.false) in (
      λ h. Contains-behind _ _ _ (c.is_among.ensures.0 h),
      λ h. elim (Contains-cons_cases _ _ _ h) [
        | inl e ↦ absurd (other e)
        | inr there ↦ c.is_among.ensures.1 there
      ],
    )
