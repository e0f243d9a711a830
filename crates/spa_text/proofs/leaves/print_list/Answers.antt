use Rattle.std.proofs.Common.{ap, subst, ◌∙◌}
use Rattle.std.proofs.lemmas.Result.{on_ok_weaker}
use Rattle.std.specs.Prelude.{map}
use Rattle.spa_text_read.specs.Grammar.{type_kind}
use Rattle.spa_text.specs.Written.{Lists}
use Rattle.spa_text.proofs.Listed.{array_printed, kind_numbered}
use Rattle.spa_text.proofs.leaves.print_list.Goals as goal

pub returns : goal.returns
returns g c =
    let pod = g.T.CanonicalFixedSizedPod in
    let laws = g.met.T.CanonicalFixedSizedPod in
    let again = ap type_kind (c.TYPE-2.ensures ∙ laws.its_type) ∙ kind_numbered pod.kind in
    let xs = map pod.fixed c.args.values.now in
    on_ok_weaker c.end_list.result
    (array_printed c.args.expected pod.kind xs _ _ _ _ (c.in_ok-begin_list.ensures pod.kind (c.TYPE.ensures ∙ laws.its_type))
    (subst (λ e. Lists e pod.kind xs c.begin_list.new.out.tokens c.print_elements.new.out.tokens) (c.among.ensures pod.kind again)
    c.in_ok-print_elements.ensures))
    c.end_list.ensures
