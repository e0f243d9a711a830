use Rattle.spa_typed_write.proofs.OpenPods.{grown_is, whole_words}
use Rattle.spa_typed_write.proofs.open_pod.OpenPod.put_words.Goals as goal

pub invariant_of-self-2 : goal.invariant_of-self-2
invariant_of-self-2 g c =
    rw (g.met.O.PodOutput.content_appends _ _ _ c.in_ok-put_two.ensures.ok)
    (grown_is _ _ _ _ (rw (← c.take.ensures.value, c.in-Some.is) at c.self.invariant) (whole_words _ _))
