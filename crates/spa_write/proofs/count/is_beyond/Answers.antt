use Rattle.std.proofs.Common.{◌/◌, ◌<◌, IsSomeAnd, length, arith, sym, subst}
use Rattle.spa_format.specs.Encoding.{encoding_of}
use Rattle.spa_format.specs.Tree.{node_count}
use Rattle.spa_value.specs.View.{view}
use Rattle.spa_write.proofs.Counting.{eight_each, passed_bound}
use Rattle.spa_write.proofs.count.is_beyond.Goals as goal

pub returns-in-Some : goal.returns-in-Some
returns-in-Some c = λ e.
    let v = view c.args.value.now in
    let few : c.in-Some.room / 8 < node_count v =
    passed_bound (c.in-Some.room / 8) (node_count v) c.left_of.result c.is_none.result c.is_none.ensures c.left_of.ensures.more e in
    let each = eight_each v in
    let more : c.in-Some.room < length (encoding_of v) = omega (arith, few, each) in
    subst (λ o. IsSomeAnd o (λ n. n < length (encoding_of v))) (sym c.in-Some.is) more
