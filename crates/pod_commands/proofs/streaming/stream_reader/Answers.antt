use Rattle.pod_commands.proofs.Streamed.{broken, cut_in, no_pod}
use Rattle.pod_commands.proofs.streaming.stream_reader.Goals as goal

pub end-requires-clause-nothing : goal.end-requires-clause-nothing
end-requires-clause-nothing g c = no_pod c.args.reading c.args.streaming _ _ _ c.in-Err.why c.in-Err.ensures.stopped

pub end-requires-clause-cut : goal.end-requires-clause-cut
end-requires-clause-cut g c =
    cut_in c.args.reading c.args.streaming c.shown_as-shown.result _ _ _ c.in-Err.why c.shown_as-shown.ensures c.in-Err.ensures.stopped

pub returns-in-Err-clause-broken : goal.returns-in-Err-clause-broken
returns-in-Err-clause-broken g c =
    broken c.args.reading c.args.streaming c.args.name _ _ _ _ c.shown_as-shown.result c.in-Err.why c.end.result c.shown_as-shown.ensures c.end.ensures
    c.in-Err.ensures.stopped
