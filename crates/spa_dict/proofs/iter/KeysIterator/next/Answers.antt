use Rattle.std.proofs.Common.{rules, sym, ap, ◌∙◌, length}
use Rattle.spa_dict.proofs.Filtering.{text_key_dropped, text_key_kept}
use Rattle.spa_dict.proofs.iter.KeysIterator.next.Goals as goal

pub returns-in-Ok-clause-steps : goal.returns-in-Ok-clause-steps
returns-in-Ok-clause-steps c =
    let text = c.in-Ok.ensures.cases in
    sym c.loop-key.invariant ∙ text_key_kept c.in-Some.ensures.steps text.0 text.1

pub returns-in-Ok-clause-goes : goal.returns-in-Ok-clause-goes
returns-in-Ok-clause-goes c = let shorter = ap length (returns-in-Ok-clause-steps c) in search rules

pub loop-key-preserved : goal.loop-key-preserved
loop-key-preserved c =
    let bad = c.in_default-from_utf8.ensures.cases in
    sym (text_key_dropped c.in-Some.ensures.steps bad.0) ∙ c.loop-key.invariant
