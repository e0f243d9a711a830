use Rattle.std.proofs.Common.{◌≡◌, ◌∙◌, sym, ap, subst}
use Rattle.std.specs.Prelude.{OnOk}
use Rattle.spa_format.specs.Tree.{fixed}
use Rattle.spa_value.specs.View.{view}
use Rattle.spa_fixed_sized.specs.Choices.{choice_tree}
use Rattle.spa_filter_offers.specs.Admits.{choice_flags_of}
use Rattle.spa_filter.specs.CommonPods.{IsAppended}
use Rattle.spa_filter.proofs.Plain.{IsPlainTree-view}
use Rattle.spa_filter.proofs.choices.put_value.Goals as goal

pub returns-in-Some-clause-appended : goal.returns-in-Some-clause-appended
returns-in-Some-clause-appended g c =
    let pod = g.T.CanonicalFixedSizedPod in
    let same : view c.args.value.now ≡ choice_tree pod.kind pod.fixed c.in-Some.choice.now = ap view c.in-Choice.is ∙ c.in-Some.ensures in
    subst (λ t. OnOk c.put_choice_of.result (choice_flags_of t ≡ 0 → IsAppended t c.args.out.now.items c.put_choice_of.new.out.items)) (sym same)
    c.put_choice_of.ensures.appended

pub returns-in-None-in_value : goal.returns-in-None-in_value
returns-in-None-in_value g c =
    let plain = IsPlainTree-view c.args.value.now c.in_default.not-Choice in
    record { appended = tt; cause = λ x k h. c.in-None-in_value.ensures x (sym (plain.alone (fixed x) h)) k }
