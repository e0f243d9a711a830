use Rattle.std.proofs.Common.{◌<◌, ◌^◌, ◌*◌, ◌/◌, ℕ, Option, Some, None, inl, inr, sym, subst, arith}
use Rattle.std.proofs.lemmas.Bool.{cases_lt}
use Rattle.std.specs.Option.{SomeIff}
use Rattle.spa_filter_elements.specs.Ratios.{HasRatio}
use Rattle.spa_filter_elements.specs.Multiples.{IsCommonMultiple}
use Rattle.spa_filter_elements.proofs.Ratios.{common_exactly, common_below, positive_product}
use Rattle.spa_filter_elements.proofs.common_multiples.least_common.Goals as goal

not_below : (k m : ℕ) → ¬ (m < 2 ^ 64) → k < 2 ^ 64 → k < m
not_below k m n l = elim (cases_lt k m) [ inl h ↦ h | inr h ↦ absurd (n (omega arith)) ]

answered : (x y g : ℕ) → 0 < x → 0 < y → HasRatio x y g → (o : Option ℕ) →
    SomeIff o (x * (y / g) < 2 ^ 64) (x * (y / g)) → IsCommonMultiple x y o
answered x y g px py h None n = (
  px,
  py,
  λ k l mx my. common_below x y g px py h k (not_below k (x * (y / g)) n l) mx.1 my.1,
)
answered x y g px py h (Some m) n =
    let above : 0 < m = subst (λ z. 0 < z) (sym n.1) (positive_product x y g px py h) in
    λ k.
    let exactly = common_exactly x y g px py h m n.1 k in (
      λ e. let both = exactly.0 e.1 in ((px, both.0), (py, both.1)),
      λ e. (above, exactly.1 (e.0.1, e.1.1)),
    )

pub returns : goal.returns
returns c =
    answered c.args.x c.args.y c.greatest_divisor-divisor.result c.requires.first c.requires.second
    c.greatest_divisor-divisor.ensures.ratio c.checked_mul.result c.checked_mul.ensures
