use Rattle.spa_fixed_sized.proofs.ChoiceReading.{whole_behind}
use Rattle.spa_fixed_sized.proofs.choice.read_list.Goals as goal

pub read_elements-requires : goal.read_elements-requires
read_elements-requires g c =
    let read = c.in_ok-rest.ensures in
    whole_behind g.T.CanonicalFixedSizedPod.SIZE c.args.elements.now c.in_ok-rest.rest.now
    g.met.T.ChoiceElement.sized c.requires read.some read.rest
