use Rattle.std.proofs.Common.{length, inl, inr, false, true}
use Rattle.std.proofs.lemmas.Bool.{cases_lt}
use Rattle.spa_format.specs.Words.{header_size}
use Rattle.spa_events.proofs.inside.inside_of.Goals as goal

pub returns-in_default-clause-other : goal.returns-in_default-clause-other
returns-in_default-clause-other c = λ e. c.in_default.ensures.none false e

pub returns-in_default-clause-short : goal.returns-in_default-clause-short
returns-in_default-clause-short c = λ e.
    elim (cases_lt (length c.args.body.now) header_size) [
      | inl l ↦ l
      | inr l ↦ absurd (c.in_default.ensures.none true (e, l))
    ]
