use Rattle.std.proofs.Common.{◌++◌, ap, ◌∙◌, arith}
use Rattle.spa_format.specs.Tree.{struct, member_node_count}
use Rattle.spa_value.specs.Views.{views}
use Rattle.spa_value.proofs.nested_copies.begin_struct.Goals as goal

pub returns : goal.returns
returns c =
    let left = ap (λ l. member_node_count (views l)) c.as_slice-left.ensures.value in (
      ap (λ l. struct (views (l ++ c.as_slice-left.result.now))) c.in_ok-copies.ensures.items
          ∙ ap (λ l. struct (views l)) c.as_slice-left.ensures.value,
      omega arith,
    )
