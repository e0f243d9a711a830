use Rattle.std.proofs.Common.{◌∙◌, ap, sym}
use Rattle.spa_read.specs.Nesting.{member_grown, with_child}
use Rattle.spa_value.specs.View.{view}
use Rattle.spa_read.proofs.inside.Inside.put.Goals as goal

pub returns-in-Struct : goal.returns-in-Struct
returns-in-Struct c =
    member_grown c.in-Struct.members c.put.new.self (view c.args.value) c.put.ensures
    ∙ ap (λ i. with_child i (view c.args.value)) (sym c.in-Struct.is)
