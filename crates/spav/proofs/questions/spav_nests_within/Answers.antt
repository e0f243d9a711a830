use Rattle.std.proofs.Common.{◌∙◌, sym, true≢false, arith}
use Rattle.spa_canonical.proofs.Deeper.{deeper_than_fewer}
use Rattle.spav.proofs.questions.spav_nests_within.Goals as goal

pub returns-clause-within : goal.returns-clause-within
returns-clause-within c = λ _ _ d.
    let more = c.if-levels-le-LEVELS.false in
    let e = sym c.if-not-nests_within.false ∙ c.nests_within-2.ensures.within (deeper_than_fewer 1000 c.args.levels c.args.input.now (omega arith) d) in
    true≢false e
