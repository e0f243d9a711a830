use Rattle.spa_text_read.proofs.Leaves.{leaf_ended, leaf_proper, leaf_refused, leaf_unended}
use Rattle.spa_text_read.proofs.opening.open_tagged.Goals as goal

pub returns-in-Ok-clause-opened : goal.returns-in-Ok-clause-opened
returns-in-Ok-clause-opened c =
    let other = c.in_default in
    leaf_ended c.args.expected c.args.tag c.args.reader.now other.not-Struct other.not-Array other.not-Choice other.not-Object c.end_leaf.result
    c.in-Ok.value c.leaf_at.new.reader c.end_leaf.new.reader c.in-Ok.ensures.value c.end_leaf.ensures.ended

pub returns-in-Ok-clause-proper : goal.returns-in-Ok-clause-proper
returns-in-Ok-clause-proper c =
    leaf_proper c.end_leaf.result c.in-Ok.value c.leaf_at.new.reader c.end_leaf.new.reader c.in-Ok.ensures.leaf c.end_leaf.ensures.ended

pub returns-in-Ok-clause-refused : goal.returns-in-Ok-clause-refused
returns-in-Ok-clause-refused c =
    let other = c.in_default in
    leaf_unended c.args.expected c.args.tag c.args.reader.now other.not-Struct other.not-Array other.not-Choice other.not-Object c.end_leaf.result
    c.in-Ok.value c.leaf_at.new.reader c.end_leaf.new.reader c.in-Ok.ensures.value c.end_leaf.ensures.ended

pub returns-in-Err-clause-refused : goal.returns-in-Err-clause-refused
returns-in-Err-clause-refused c = λ m.
    let other = c.in_default in
    leaf_refused c.args.expected c.args.tag c.args.reader.now other.not-Struct other.not-Array other.not-Choice other.not-Object
    (c.in-Err.ensures.refused m)
