use Rattle.std.proofs.Common.{[], refl}
use Rattle.spa_format.specs.Tree.{no_trees}
use Rattle.spa_lenient.proofs.Lists.{front_left, some_left}
use Rattle.spa_lenient.proofs.rewriting.append_accepted.Goals as goal

pub returns-in-Err-default-OutOfMemory-rewrite_all-clause-lacking : goal.returns-in-Err-default-OutOfMemory-rewrite_all-clause-lacking
returns-in-Err-default-OutOfMemory-rewrite_all-clause-lacking c =
    let input = c.args.input.now in
    let pod = c.in-Err.pod.now in
    let h = c.in-Err.ensures.left in
    let some = some_left _ _ c.in-Err-default-OutOfMemory-rewrite_all.ensures.left in
    ((no_trees, [], refl, refl, some_left input pod h), front_left input pod _ h c.split_at-2.ensures.front some)
