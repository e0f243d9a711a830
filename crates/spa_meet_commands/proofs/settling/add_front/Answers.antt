use Rattle.std.proofs.Common.{arith, subst, sym, ◌∙◌}
use Rattle.spa_format.specs.Writable.{IsWritable}
use Rattle.spa_value.specs.View.{view}
use Rattle.spa_meet_commands.proofs.Settled.{front_writable}
use Rattle.spa_meet_commands.proofs.settling.add_front.Goals as goal

pub add_plain-requires : goal.add_plain-requires
add_plain-requires c =
    subst (λ v. IsWritable (view v)) (sym (c.deref.ensures ∙ c.from-value.ensures))
    (front_writable c.args.input.now (view c.in-Ok.value) (λ i. omega (arith, c.type_inv.input i)) c.in-Ok.ensures.value)
