use Rattle.spa_text.proofs.Leaf.{pointer_printed}
use Rattle.std.proofs.lemmas.Result.{on_ok_weaker}
use Rattle.spa_text.proofs.leaves.print_pointer.Goals as goal

pub returns : goal.returns
returns c =
    on_ok_weaker c.end_object.result
    (pointer_printed c.args.expected c.args.type_ c.args.address _ _ _ _ _ _ _ c.ranges.address.fits c.to_be_bytes.ensures
    c.in_ok-begin_keyed_object.ensures c.in_ok-print_name.ensures c.in_ok-key.ensures.ok c.in_ok-print_bits.ensures)
    c.end_object.ensures.ok
