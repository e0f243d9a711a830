use Rattle.std.proofs.Common.{◌<◌, ◌∙◌, ap, arith, rules}
use Rattle.spa_format.specs.Words.{extent, size_limit}
use Rattle.spa_write.proofs.Measuring.{choice_large, choice_no_nul, measured_as}
use Rattle.spa_write.proofs.size.alternatives_len.Goals as goal

pub returns-in-Some-clause-measured : goal.returns-in-Some-clause-measured
returns-in-Some-clause-measured g c =
    let size = c.in-Some.ensures.some in
    let short : c.in-Some.size < size_limit = search rules in
    let k = g.T.CanonicalFixedSizedPod.kind in
    let f = g.T.CanonicalFixedSizedPod.fixed in
    let flags = c.args.choice.now.0.0 in
    let values = c.args.choice.now.1 in
    measured_as _ c.extent_of.result (c.extent_of.ensures.extent ∙ ap extent size)
    (choice_no_nul k f flags values)
    (λ large. let l = choice_large k f flags values large in omega (arith, short, size, l))
