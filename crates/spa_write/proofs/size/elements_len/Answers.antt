use Rattle.std.proofs.Common.{◌<◌, ◌∙◌, ap, arith, rules}
use Rattle.spa_format.specs.Words.{extent, size_limit}
use Rattle.spa_write.proofs.Measuring.{measured_as}
use Rattle.spa_write.proofs.size.elements_len.Goals as goal

pub returns-in-Some-clause-measured : goal.returns-in-Some-clause-measured
returns-in-Some-clause-measured g c =
    let size = c.in-Some.ensures.some in
    let short : c.in-Some.size < size_limit = search rules in
    measured_as _ c.extent_of.result (c.extent_of.ensures.extent ∙ ap extent size) (λ n. n)
    (λ large. omega (arith, short, size, large))
