use Rattle.spa_text.proofs.Listed.{choice_opened}
use Rattle.std.proofs.lemmas.Result.{on_ok_weaker}
use Rattle.spa_text.proofs.leaves.begin_choice.Goals as goal

pub returns : goal.returns
returns c =
    on_ok_weaker c.begin_array.result
    (choice_opened c.args.expected _ _ c.args.flags c.args.type_ _ _ _ _ _ _ _ c.ranges.flags.fits c.shape_name.ensures
    c.in_ok-begin_keyed_object.ensures c.in_ok-string.ensures.ok c.in_ok-print_flags.ensures c.in_ok-print_type.ensures c.in_ok-key.ensures.ok)
    c.begin_array.ensures.ok
