use Rattle.std.proofs.Common.{◌∙◌, sym}
use Rattle.pod_commands.proofs.Passed.{file_breaks, file_passes, unread}
use Rattle.pod_commands.proofs.passing.pass_named.Goals as goal

pub returns-in-Err-clause-broken : goal.returns-in-Err-clause-broken
returns-in-Err-clause-broken g c = unread _ _ _ c.args.job.name.now _ _ c.in-Err.why c.requires c.in-Err.ensures.cause

pub returns-clause-passed : goal.returns-clause-passed
returns-clause-passed g c =
    rw (sym c.eq.ensures ∙ c.if-eq.false)
    (file_passes _ _ _ (λ v. v.items) c.args.job.name.now _ _ _ _ _ c.pass_reader-2.result c.in-Ok.ensures.opened c.pass_reader-2.ensures.passed)

pub returns-clause-broken : goal.returns-clause-broken
returns-clause-broken g c =
    rw (sym c.eq.ensures ∙ c.if-eq.false)
    (file_breaks _ _ _ c.args.job.name.now _ _ _ _ c.pass_reader-2.result c.in-Ok.ensures.opened c.pass_reader-2.ensures.broken)
