use Rattle.std.proofs.Common.{◌∙◌, sym}
use Rattle.pod_commands.proofs.Streamed.{file_broken, file_streamed, unread}
use Rattle.pod_commands.proofs.streaming.stream_named.Goals as goal

pub returns-in-Err-clause-broken : goal.returns-in-Err-clause-broken
returns-in-Err-clause-broken g c = unread c.args.reading c.args.streaming c.args.name.now _ _ c.in-Err.why c.in-Err.ensures.cause

pub returns-clause-streamed : goal.returns-clause-streamed
returns-clause-streamed g c =
    rw (sym c.eq.ensures ∙ c.if-eq.false)
    (file_streamed c.args.reading c.args.streaming _ _ _ _ c.stream_reader-2.result c.in-Ok.ensures.opened c.stream_reader-2.ensures.streamed)

pub returns-clause-broken : goal.returns-clause-broken
returns-clause-broken g c =
    rw (sym c.eq.ensures ∙ c.if-eq.false)
    (file_broken c.args.reading c.args.streaming c.args.name.now _ _ _ _ c.stream_reader-2.result c.in-Ok.ensures.opened c.stream_reader-2.ensures.broken)
