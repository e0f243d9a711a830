use Rattle.std.proofs.Common.{IfOk, ap, sym, subst}
use Rattle.spa_value.specs.View.{view, choice_view}
use Rattle.spa_filter.specs.Values.{ValuesMeet}
use Rattle.spa_filter.proofs.Plain.{IsPlainTree-view}
use Rattle.spa_filter.proofs.Swapping.{ValuesMeet-swapped}
use Rattle.spa_filter.proofs.values.values_meet.Goals as goal

pub returns-in-Choice-b : goal.returns-in-Choice-b
returns-in-Choice-b c =
    let v = view c.args.a.now in
    let r = c.choice_meets-in-Choice-b.result in
    let plain = IsPlainTree-view c.args.a.now c.in_default.not-Choice in
    subst (λ w. IfOk r (ValuesMeet v w)) (sym (ap view c.in-Choice-b.is))
    (ValuesMeet-swapped (choice_view c.in-Choice-b.choice) v plain.own plain.alone r c.choice_meets-in-Choice-b.ensures)
