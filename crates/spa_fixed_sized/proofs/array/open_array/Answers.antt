use Rattle.std.proofs.Common.{◌≡◌, ◌%◌, length, subst, arith}
use Rattle.spa_fixed_sized.proofs.Arrays.{whole_of}
use Rattle.spa_fixed_sized.proofs.array.open_array.Goals as goal

pub returns-clause-whole : goal.returns-clause-whole
returns-clause-whole g c =
    let z = c.SIZE-3.ensures in
    let m : length c.split_at.result.1.now % c.SIZE-3.result ≡ 0 = omega arith in
    whole_of g.T.CanonicalFixedSizedPod.SIZE c.split_at.result.1.now
    (subst (λ s. length c.split_at.result.1.now % s ≡ 0) z m)
