use Rattle.std.proofs.Common.{rules, ◌≡◌, sym, ap, ◌∙◌, subst}
use Rattle.std.specs.Prelude.{IfOk}
use Rattle.spa_value.specs.View.{view}
use Rattle.spa_value.proofs.ViewLaws.{view-struct}
use Rattle.spa_value.proofs.copies.ValueClone.clone.Goals as goal

pub returns-in-Struct : goal.returns-in-Struct
returns-in-Struct c =
    let same = sym (ap view c.in-Struct.is ∙ view-struct c.in-Struct.members) in
    let made = subst (λ t. IfOk c.copy_nested.result (λ copy. view copy ≡ t)) same c.copy_nested.ensures in
    search rules
