use Rattle.std.proofs.Common.{◌%◌, ◌∙◌, length, sym, ap, eq-eqb, eqb-true}
use Rattle.spa_builder.proofs.Bodies.{whole_back}
use Rattle.spa_fixed_sized.proofs.Arrays.{whole_of}
use Rattle.spa_builder.proofs.building.are_bodies.Goals as goal

pub returns : goal.returns
returns g c =
    let same = c.SIZE-2.ensures in (
      λ e. whole_of _ _ (ap (λ n. length c.args.bytes.now % n) (sym same) ∙ eqb-true _ _ e),
      λ w. eq-eqb _ _ (ap (λ n. length c.args.bytes.now % n) same ∙ whole_back _ _ w),
    )
