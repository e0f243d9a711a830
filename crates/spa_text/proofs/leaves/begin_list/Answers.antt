use Rattle.spa_text.proofs.Listed.{array_opened}
use Rattle.std.proofs.lemmas.Result.{on_ok_weaker}
use Rattle.spa_text.proofs.leaves.begin_list.Goals as goal

pub returns : goal.returns
returns c =
    on_ok_weaker c.begin_array.result
    (array_opened c.args.expected c.args.type_ _ _ _ _ _ c.in_ok-begin_keyed_object.ensures c.in_ok-print_name.ensures c.in_ok-key.ensures.ok)
    c.begin_array.ensures.ok
