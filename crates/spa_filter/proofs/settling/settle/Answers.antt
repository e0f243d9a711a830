use Rattle.spa_filter.proofs.Objects.{objects_settle}
use Rattle.spa_filter.proofs.settling.settle.Goals as goal

pub returns : goal.returns
returns c =
    let law = c.objects_are_their_fields.ensures in
    objects_settle law.fields law.made c.args.object.now c.args.object.now c.as_slice.result.now c.as_slice.ensures.value
    c.in_ok-properties.properties c.in_ok-properties.ensures
