use Rattle.std.proofs.Common.{[], ◌∷◌, ◌++◌, refl, ap, ◌∙◌, subst, arith}
use Rattle.spa_value.specs.NestedCopies.{CopiesOn, completed, values_left, whole}
use Rattle.spa_value.specs.declared.nested_copies.Copies.{Copies}
use Rattle.spa_value.proofs.Copying.{begins_step, ends_steps}
use Rattle.spa_value.proofs.nested_copies.Copies.step.Goals as goal

pub returns-in_default : goal.returns-in_default
returns-in_default c =
    let was = c.args.self.now in
    let mid : Copies = record { inner = c.copy_on.new.self; around = was.around } in
    let copied = subst (λ o. CopiesOn was.inner o mid.inner) c.in_default.is c.in_ok-nested.ensures in
    ends_steps c.end.result was mid _ refl copied c.end.ensures

pub returns : goal.returns
returns c =
    let was = c.args.self.now in
    let mid = c.copy_on.new.self in
    let found = subst (λ o. CopiesOn was.inner o mid) c.in-Some.is c.in_ok-nested.ensures in
    let begun = c.in_ok-begun.ensures in
    let after = c.replace-outer.ensures.after in
    let inner = ap values_left after in
    let count = begun.1 in
    let fewer = found.1 in
    let to : Copies = record { inner = c.replace-outer.new.dest; around = c.push_reserved.new.self } in
    begins_step was to mid (ap (λ i. completed mid (whole i)) after ∙ ap (completed mid) begun.0 ∙ found.0) (omega arith)
    (c.push_reserved.ensures.items ∙ ap (λ l. l ++ c.replace-outer.result ∷ []) c.reserve.ensures.items
    ∙ ap (λ o. was.around.items ++ o ∷ []) c.replace-outer.ensures.value)
