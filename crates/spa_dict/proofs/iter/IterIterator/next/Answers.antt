use Rattle.std.proofs.Common.{rules, sym, ap, ◌∙◌, length}
use Rattle.spa_dict.proofs.Filtering.{key_fails, pair_kept, value_fails}
use Rattle.spa_dict.proofs.iter.IterIterator.next.Goals as goal

pub loop-key-preserved-in_default-from_utf8 : goal.loop-key-preserved-in_default-from_utf8
loop-key-preserved-in_default-from_utf8 c =
    let bad = c.in_default-from_utf8.ensures.cases in
    sym (key_fails c.in-Some.ensures.steps bad.0) ∙ c.loop-key.invariant

pub returns-in-Ok-from_utf8-clause-steps : goal.returns-in-Ok-from_utf8-clause-steps
returns-in-Ok-from_utf8-clause-steps c =
    let key = c.in-Ok.ensures.cases in
    let value = c.in-Ok-from_utf8.ensures.cases in
    sym c.loop-key.invariant ∙ pair_kept c.in-Some.ensures.steps key.0 value.0 key.1 value.1

pub returns-in-Ok-from_utf8-clause-goes : goal.returns-in-Ok-from_utf8-clause-goes
returns-in-Ok-from_utf8-clause-goes c =
    let shorter = ap length (returns-in-Ok-from_utf8-clause-steps c) in search rules

pub loop-key-preserved : goal.loop-key-preserved
loop-key-preserved c =
    let bad = c.in_default-from_utf8-2.ensures.cases in
    sym (value_fails c.in-Some.ensures.steps bad.0) ∙ c.loop-key.invariant
