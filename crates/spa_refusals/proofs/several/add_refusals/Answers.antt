use Rattle.std.proofs.Common.{[], get_or, refl}
use Rattle.std.proofs.lemmas.List.{drop_more, drop_all}
use Rattle.std.specs.Prelude.{None}
use Rattle.spa_recordings.specs.declared.going_on.RefusedPod.{RefusedPod}
use Rattle.spa_refusals.proofs.Listing.{all_said, begins, next_refused, one_said, said_of}
use Rattle.spa_refusals.proofs.several.add_refusals.Goals as goal

pub loop-pod-init : goal.loop-pod-init
loop-pod-init c = begins _ _ _ _ _ _ refl c.requires

pub loop-pod-preserved : goal.loop-pod-preserved
loop-pod-preserved c =
    let d : RefusedPod = record { name = record { ref_ptr = (0, 0); now = [] }; number = 0; place = 0; kind = record { ref_ptr = (0, 0); now = [] }; left_out = None } in
    let next = drop_more c.args.pods.now c.loop-pod.pod-index d c.loop-pod-test.true in
    let said = c.in_ok-refusal.ensures in
    one_said _ _ _ _ _ _ _ _ _ _ _ next c.loop-pod.invariant
    (said_of _ _ _ (get_or c.args.pods.now c.loop-pod.pod-index d) _ _ (next_refused _ _ _ _ _ _ _ _ _ next c.loop-pod.invariant) c.split_at.ensures.back refl
    said.number said.place refl said.refusal)
    c.in_ok-push.ensures.items

pub returns : goal.returns
returns c = all_said _ _ _ _ _ _ _ (drop_all c.loop-pod.pod-index c.args.pods.now c.loop-pod-test.false) c.loop-pod.invariant
