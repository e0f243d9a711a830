use Rattle.std.proofs.Common.{◌∙◌, subst, sym, true≢false}
use Rattle.spa_recordings.specs.Plausible.{IsPlausible}
use Rattle.spa_recordings.proofs.Likely.{seek_ends, seek_found, seek_next}
use Rattle.spa_recordings.proofs.plausible.next_plausible.Goals as goal

pub returns-then-is_plausible-clause-next : goal.returns-then-is_plausible-clause-next
returns-then-is_plausible-clause-next c =
    seek_found c.args.input.now c.args.from c.loop-at.at (subst IsPlausible c.split_at.ensures.back (c.is_plausible.ensures.0 c.if-is_plausible.true)) c.loop-at.invariant

pub loop-at-preserved : goal.loop-at-preserved
loop-at-preserved c =
    seek_next c.args.input.now c.args.from c.loop-at.at (λ p. true≢false (sym (c.is_plausible.ensures.1 (subst IsPlausible (sym c.split_at.ensures.back) p)) ∙ c.if-is_plausible.false)) c.loop-at.invariant

pub returns-clause-none : goal.returns-clause-none
returns-clause-none c = seek_ends c.args.input.now c.args.from c.loop-at.at c.loop-at-test.false c.loop-at.invariant
