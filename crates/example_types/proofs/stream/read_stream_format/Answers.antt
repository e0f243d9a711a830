use Rattle.std.proofs.lemmas.Result.{IfErr-weaker, IfOk-weaker}
use Rattle.example_types.specs.Stream.{IsStreamFormat}
use Rattle.example_types.proofs.Streams.{read_as, refused_as}
use Rattle.example_types.proofs.stream.read_stream_format.Goals as goal

pub returns-clause-read : goal.returns-clause-read
returns-clause-read c =
    IfOk-weaker c.deserialize_from.result _ _
    (λ read. read_as _ (λ v. IsStreamFormat v read.1) c.args.input.now read.0.now
    (λ v r. record { properties = r.properties; is = r.is; encoding = r.are.0; rate = r.are.1.0; channels = r.are.1.1.0 }))
    c.deserialize_from.ensures.read

pub returns-clause-exactly : goal.returns-clause-exactly
returns-clause-exactly c =
    IfErr-weaker c.deserialize_from.result _ _
    (λ e refused. refused_as _ IsStreamFormat _ c.args.input.now e
    (λ v it s. record { properties = s.properties; is = s.is; are = (s.encoding, (s.rate, (s.channels, tt))) })
    (c.exact_types_come_back.ensures.exactly c.args.input.now e refused))
    c.deserialize_from.ensures.refused
