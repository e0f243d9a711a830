use Rattle.std.proofs.Common.{rules, sym, ap, ◌∙◌, length}
use Rattle.spa_dict.proofs.Filtering.{text_value_dropped, text_value_kept}
use Rattle.spa_dict.proofs.iter.ValuesIterator.next.Goals as goal

pub returns-in-Ok-clause-steps : goal.returns-in-Ok-clause-steps
returns-in-Ok-clause-steps c =
    let text = c.in-Ok.ensures.cases in
    sym c.loop-value.invariant ∙ text_value_kept c.in-Some.ensures.steps text.0 text.1

pub returns-in-Ok-clause-goes : goal.returns-in-Ok-clause-goes
returns-in-Ok-clause-goes c = let shorter = ap length (returns-in-Ok-clause-steps c) in search rules

pub loop-value-preserved : goal.loop-value-preserved
loop-value-preserved c =
    let bad = c.in_default-from_utf8.ensures.cases in
    sym (text_value_dropped c.in-Some.ensures.steps bad.0) ∙ c.loop-value.invariant
