use Rattle.std.proofs.Common.{inl, refl}
use Rattle.pod_commands.proofs.Running.{answers}
use Rattle.pod_commands.proofs.run.Io.make.Goals as goal

pub rewrite_twice-requires : goal.rewrite_twice-requires
rewrite_twice-requires g c =
    let may = c.may_read_twice.ensures c.if-may_read_twice.true in
    record { exact = refl; rewrite = refl; to_output = refl; files = may.files }

pub returns-then-may_read_twice : goal.returns-then-may_read_twice
returns-then-may_read_twice g c =
    let may = c.may_read_twice.ensures c.if-may_read_twice.true in
    rw (may.exact, may.rewrite, may.to_output, c.in-Stops.is) c.rewrite_twice.ensures

pub returns-else-may_read_twice : goal.returns-else-may_read_twice
returns-else-may_read_twice g c =
    rw c.in-Stops.is
    (inl (answers c.make_all-made.result (λ v. v.items) _ _ _ c.answered.result.0 c.make_all-made.ensures.made c.make_all-made.ensures.refused
    c.answered.ensures.made c.answered.ensures.refused))
