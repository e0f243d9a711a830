use Rattle.std.proofs.lemmas.Result.{IfErr-weaker}
use Rattle.example_types.proofs.latency.read_latency.Goals as goal

pub returns-clause-exactly : goal.returns-clause-exactly
returns-clause-exactly c =
    IfErr-weaker c.deserialize_from.result _ _ (λ e refused. c.exact_types_come_back.ensures.exactly c.args.input.now e refused)
    c.deserialize_from.ensures.refused
