use Rattle.spa_filter.proofs.CommonPods.{appended_fixed}
use Rattle.spa_filter.proofs.choices.put_element.Goals as goal

pub returns-in-Ok-clause-appended : goal.returns-in-Ok-clause-appended
returns-in-Ok-clause-appended g c =
    let pod = g.T.CanonicalFixedSizedPod in
    let met = g.met.T.CanonicalFixedSizedPod in
    let x = pod.fixed c.args.x.now in
    appended_fixed x pod.TYPE pod.kind _ _ met.its_type (met.its_kind c.args.x.now) c.in-Ok.ensures.typed c.in-Ok.ensures.ok
