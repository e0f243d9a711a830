use Rattle.std.proofs.Common.{ℕ, ap, subst, ◌∙◌, ◌<◌}
use Rattle.std.proofs.lemmas.Result.{on_ok_weaker}
use Rattle.spa_format.specs.Tree.{Shape}
use Rattle.spa_text_read.specs.Grammar.{a_choice, type_kind}
use Rattle.spa_text_read.specs.Shapes.{shape_of}
use Rattle.spa_text.specs.Written.{Lists, Opens, values_in}
use Rattle.spa_text.proofs.Listed.{choice_printed, kind_numbered}
use Rattle.spa_text.proofs.leaves.print_values.Goals as goal

pub returns : goal.returns
returns g c =
    let pod = g.T.CanonicalFixedSizedPod in
    let laws = g.met.T.CanonicalFixedSizedPod in
    let again = ap type_kind (c.TYPE-2.ensures ∙ laws.its_type) ∙ kind_numbered pod.kind in
    let opens : Shape → ℕ → Type 0 = λ h f. Opens c.args.expected (a_choice h f c.args.expected.ids pod.kind) c.args.out.now.tokens c.begin_choice.new.out.tokens in
    let choice = c.args.choice.now in
    on_ok_weaker c.end_list.result
    (choice_printed c.args.expected pod.kind pod.fixed choice.0.0 choice.1 _ _ _ _
    (subst (λ n. 0 < n) laws.its_size g.met.T.ChoiceElement.sized)
    (subst (λ h. opens h choice.0.0) c.shape_in-shape.ensures
    (subst (λ f. opens (shape_of c.shape_in-shape.result) f) (c.bits.ensures tt) (c.in_ok-begin_choice.ensures pod.kind (c.TYPE.ensures ∙ laws.its_type))))
    (subst (λ e. Lists e pod.kind (values_in pod.fixed choice.1) c.begin_choice.new.out.tokens c.print_chosen.new.out.tokens)
    (c.among.ensures pod.kind again) c.in_ok-print_chosen.ensures))
    c.end_list.ensures
