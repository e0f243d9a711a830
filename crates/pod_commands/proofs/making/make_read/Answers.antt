use Rattle.std.proofs.Common.{subst, sym}
use Rattle.std.specs.Prelude.{IfOk}
use Rattle.spa_recordings.specs.GoingOn.{MakesOf}
use Rattle.pod_commands.specs.Making.{Makes}
use Rattle.pod_commands.proofs.Made.{exactly}
use Rattle.pod_commands.proofs.making.make_read.Goals as goal

pub returns-in-Exact-clause-made : goal.returns-in-Exact-clause-made
returns-in-Exact-clause-made c =
    subst (λ reading. IfOk c.make.result (λ v. MakesOf reading (Makes c.args.making) c.args.bytes.items v.items)) (sym c.in-Exact.is)
    (exactly c.make.result (λ v. v.items) (Makes c.args.making) c.args.bytes.items c.make.ensures.made)
