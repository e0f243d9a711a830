use Rattle.std.proofs.Common.{rules}
use Rattle.std.proofs.lemmas.Result.{on_ok_weaker}
use Rattle.spa_text.proofs.Leaf.{text_bare, text_tagged}
use Rattle.spa_text.proofs.leaves.print_text.Goals as goal

pub returns-then-not-takes_text : goal.returns-then-not-takes_text
returns-then-not-takes_text c =
    on_ok_weaker c.string.result (text_bare c.args.expected c.args.text.now _ _ (search rules)) c.string.ensures.ok

pub returns : goal.returns
returns c =
    on_ok_weaker c.end_object.result
    (text_tagged c.args.expected c.args.text.now _ _ _ _ (search rules) c.in_ok-begin_keyed_object.ensures c.in_ok-string.ensures.ok)
    c.end_object.ensures.ok
