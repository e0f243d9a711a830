use Rattle.std.proofs.Common.{◌∙◌, arith}
use Rattle.std.proofs.lemmas.Result.{on_ok_weaker}
use Rattle.spa_text.proofs.Leaf.{bitmap_printed}
use Rattle.spa_text.proofs.leaves.print_bitmap.Goals as goal

pub returns : goal.returns
returns c =
    on_ok_weaker c.end_object.result
    (bitmap_printed c.args.expected c.args.content.now _ _ _ _ _ (λ i. omega (arith, c.type_inv.content i))
    (c.as_str.ensures.value ∙ c.in_ok-text.ensures) c.in_ok-begin_keyed_object.ensures c.in_ok-string.ensures.ok)
    c.end_object.ensures.ok
