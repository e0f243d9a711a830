use Rattle.std.proofs.Common.{⊎_elim, arith}
use Rattle.spa_format.specs.Tree.{object}
use Rattle.spa_format.proofs.Refused as format
use Rattle.spa_typed_read.proofs.Looked.{deep_nests}
use Rattle.spa_typed_read.proofs.laws.passing_takes_no_memory.Goals as goal

pub returns : goal.returns
returns g c = λ b type id ps begins shallow takes.
    ⊎_elim (λ asked. asked)
    (λ d. absurd (let deep = deep_nests _ ps d (format.begun b (object type id ps) begins).1.3 in omega (arith, deep, shallow))) takes
