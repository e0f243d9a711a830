use Rattle.spa_text_commands.proofs.Stepping.{numbered_path}
use Rattle.spa_text_commands.proofs.Values.{sought_by}
use Rattle.spa_text_commands.proofs.inner_values.is_sought.Goals as goal

pub returns : goal.returns
returns c =
    let s = c.args.searched in
    sought_by c.args.selection s.count s.bytes.now _ s.events.now c.args.number c.args.event _ c.eq.result c.in-Some.is c.eq.ensures
    (numbered_path _ _ _ _ _ _ c.as_str.ensures.value c.in_ok-put_steps.ensures c.in_ok-write.ensures.bytes c.new-path.ensures.bytes)
