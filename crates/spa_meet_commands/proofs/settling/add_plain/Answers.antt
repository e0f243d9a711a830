use Rattle.std.proofs.Common.{ap, subst, sym, ◌∙◌}
use Rattle.spa_format.specs.Writable.{IsWritable}
use Rattle.spa_value.specs.View.{view}
use Rattle.spa_meet_commands.specs.Settling.{plain_object}
use Rattle.spa_meet_commands.proofs.Plain.{plain_writable}
use Rattle.spa_meet_commands.proofs.settling.add_plain.Goals as goal

pub add_value-requires : goal.add_value-requires
add_value-requires c =
    let value = ap view (c.deref.ensures ∙ c.from-plain.ensures) in
    let plain = c.in_ok-plain_object-in-Object.ensures ∙ ap (λ v. plain_object (view v)) (sym c.in-Object.is) in
    subst IsWritable (sym (value ∙ plain)) (plain_writable (view c.args.value.now) c.requires)
