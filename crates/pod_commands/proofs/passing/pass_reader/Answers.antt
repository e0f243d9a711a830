use Rattle.std.proofs.Common.{refl}
use Rattle.pod_commands.proofs.Passed.{broken, no_pod, passed}
use Rattle.pod_commands.proofs.passing.pass_reader.Goals as goal

pub failure_of-requires : goal.failure_of-requires
failure_of-requires g c = no_pod _ _ _ _ c.in-Err.why c.in-Err.ensures.stopped

pub returns-in-Ok-clause-passed : goal.returns-in-Ok-clause-passed
returns-in-Ok-clause-passed g c = passed _ c.stream_through.new.worker _ _ _ c.requires c.in-Ok.ensures.done

pub returns-clause-broken : goal.returns-clause-broken
returns-clause-broken g c =
    broken _ c.args.job.name _ _ _ c.in-Err.why c.failure_of.result c.requires refl c.failure_of.ensures c.in-Err.ensures.stopped
