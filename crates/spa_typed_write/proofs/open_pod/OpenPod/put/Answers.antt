use Rattle.std.proofs.Common.{ap, ◌∙◌}
use Rattle.spa_typed_write.specs.Success.{Success}
use Rattle.spa_typed_write.proofs.OpenPods.{grown_is, whole_encoding}
use Rattle.spa_typed_write.proofs.open_pod.OpenPod.put.Goals as goal

pub invariant_of-self-2 : goal.invariant_of-self-2
invariant_of-self-2 g c =
    rw (ap (λ (s : Success _). g.O.PodOutput.content s.output) c.out.view_is ∙ c.in_ok-out.ensures.encoding)
    (grown_is _ _ _ _ (rw (← c.take.ensures.value, c.in-Some.is) at c.self.invariant) (whole_encoding (g.P.PodSerialize.value c.args.value.now)))
