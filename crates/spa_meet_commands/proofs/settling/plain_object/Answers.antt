use Rattle.spa_meet_commands.proofs.Settled.{plain_made}
use Rattle.spa_meet_commands.proofs.settling.plain_object.Goals as goal

pub returns : goal.returns
returns c =
    let law = c.objects_are_their_fields.ensures in
    plain_made law.fields law.made c.args.object.now c.as_slice.result.now c.as_slice.ensures.value
    c.in_ok-properties.properties c.in_ok-properties.ensures
