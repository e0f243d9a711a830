use Rattle.spa_text.proofs.Listed.{one_listed}
use Rattle.std.proofs.lemmas.Result.{on_ok_weaker}
use Rattle.spa_text.proofs.leaves.print_element.Goals as goal

pub returns : goal.returns
returns g c =
    let pod = g.T.CanonicalFixedSizedPod in
    let laws = g.met.T.CanonicalFixedSizedPod in
    on_ok_weaker c.print.result (one_listed c.args.expected pod.kind (pod.fixed c.args.value) _ _ (laws.its_kind c.args.value)) c.print.ensures
