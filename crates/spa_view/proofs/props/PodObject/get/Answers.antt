use Rattle.std.proofs.Common.{◌∙◌, ap}
use Rattle.std.proofs.lemmas.Option.{IfSome_then}
use Rattle.spa_view.specs.Settled.{settled_bytes}
use Rattle.spa_view.proofs.FoundValues.{never_some, settled_under, stands_under, stands_in, stands_nowhere, says_in}
use Rattle.spa_view.proofs.props.PodObject.get.Goals as goal

pub returns-in-Some-clause-accepted : goal.returns-in-Some-clause-accepted
returns-in-Some-clause-accepted g c =
    let key = c.args.key.0 in
    let b = c.args.self.now.pod.bytes.now in
    let q = c.settled.ensures.bytes ∙ ap settled_bytes c.value.ensures in
    IfSome_then c.from_pod.result c.from_pod.ensures.value
    (λ x s t i ps h. settled_under key (g.T.FromPod.says x) b t i ps h (stands_in key (g.T.FromPod.says x) b _ _ c.in-Some.ensures q s))

pub returns-in-Some-clause-absent : goal.returns-in-Some-clause-absent
returns-in-Some-clause-absent g c =
    let key = c.args.key.0 in
    let b = c.args.self.now.pod.bytes.now in
    let q = c.settled.ensures.bytes ∙ ap settled_bytes c.value.ensures in
    never_some c.from_pod.result
    (λ n x t i ps h u. n x (says_in key (g.T.FromPod.says x) b _ _ c.in-Some.ensures q (stands_under key (g.T.FromPod.says x) b t i ps h u)))
    c.from_pod.ensures.none

pub returns-in-None-clause-absent : goal.returns-in-None-clause-absent
returns-in-None-clause-absent g c x t i ps h u =
    let key = c.args.key.0 in
    let b = c.args.self.now.pod.bytes.now in
    stands_nowhere key (g.T.FromPod.says x) b c.in-None.ensures (stands_under key (g.T.FromPod.says x) b t i ps h u)
