use Rattle.spa_value.specs.Views.{views}
use Rattle.spa_text.proofs.Continuing.{struct_begun}
use Rattle.spa_text.proofs.Exactly.{struct_opened}
use Rattle.spa_text.proofs.printing.begin_struct.Goals as goal

pub returns-clause-written : goal.returns-clause-written
returns-clause-written c = λ e.
    (struct_begun e _ _ _ c.in_ok-begin_array.ensures.ok, struct_opened e (views c.args.members.now) _ _ c.in_ok-begin_array.ensures.ok)
