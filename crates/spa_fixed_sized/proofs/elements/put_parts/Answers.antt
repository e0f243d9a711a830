use Rattle.std.proofs.Common.{◌++◌, map}
use Rattle.std.proofs.lemmas.Result.{IfErr-weaker, on_err_weaker, on_ok_weaker}
use Rattle.spa_format.specs.Words.{padding}
use Rattle.spa_format.specs.Encoding.{fixed_bodies}
use Rattle.spa_bytes.proofs.Passing.{passed_on}
use Rattle.spa_sink.proofs.Sending.{begun_behind, begun_by, begun_first, parts_sent, parts_refused, last_refused}
use Rattle.spa_sink.specs.Writing.{some_sent}
use Rattle.spa_fixed_sized.proofs.elements.put_parts.Goals as goal

pub returns-in_err-put_elements-clause-cause : goal.returns-in_err-put_elements-clause-cause
returns-in_err-put_elements-clause-cause g c =
    passed_on _ _ _ c.from_residual-in_err-put_elements.ensures.1
    (parts_refused g.met.S.PodSink.refuses_after g.met.S.PodSink.refuses_longer c.args.sink.now
    c.append.new.self _ c.args.header.now
    (fixed_bodies (map g.T.CanonicalFixedSizedPod.fixed c.args.values.now))
    (padding c.args.size) _ c.in_ok-append.ensures.ok c.in_err-put_elements.ensures.cause)

pub returns-in_err-append-clause-begun : goal.returns-in_err-append-clause-begun
returns-in_err-append-clause-begun g c =
    let bodies = fixed_bodies (map g.T.CanonicalFixedSizedPod.fixed c.args.values.now) in
    passed_on _ _ (λ _. _) c.from_residual.ensures.1
    (begun_first _ _ c.args.header.now (bodies ++ padding c.args.size)
    (begun_by _ _ _ c.args.header.now c.in_err-append.ensures.begun.1))

pub returns-in_err-put_elements-clause-begun : goal.returns-in_err-put_elements-clause-begun
returns-in_err-put_elements-clause-begun g c =
    let bodies = fixed_bodies (map g.T.CanonicalFixedSizedPod.fixed c.args.values.now) in
    passed_on _ _ (λ _. _) c.from_residual-in_err-put_elements.ensures.1
    (begun_behind g.met.S.PodSink.appends_more c.args.sink.now c.append.new.self _ c.args.header.now
    (bodies ++ padding c.args.size) (some_sent c.in_ok-append.ensures.ok)
    (begun_first _ _ bodies (padding c.args.size) c.in_err-put_elements.ensures.begun))

pub returns-clause-begun : goal.returns-clause-begun
returns-clause-begun g c =
    let law = g.met.S.PodSink.appends_more in
    let bodies = fixed_bodies (map g.T.CanonicalFixedSizedPod.fixed c.args.values.now) in
    on_err_weaker c.put_padding.result
    (λ p. begun_behind law c.args.sink.now c.append.new.self _ c.args.header.now (bodies ++ padding c.args.size)
    (some_sent c.in_ok-append.ensures.ok)
    (begun_behind law c.append.new.self c.put_elements.new.sink _ bodies (padding c.args.size)
    c.in_ok-put_elements.ensures.ok (begun_by _ _ _ (padding c.args.size) p.1)))
    c.put_padding.ensures.begun

pub returns-clause-ok : goal.returns-clause-ok
returns-clause-ok g c =
    on_ok_weaker c.put_padding.result (λ p. parts_sent g.met.S.PodSink.appends_more
    c.args.sink.now c.append.new.self c.put_elements.new.sink c.put_padding.new.sink
    c.args.header.now (fixed_bodies (map g.T.CanonicalFixedSizedPod.fixed c.args.values.now))
    (padding c.args.size) c.in_ok-append.ensures.ok c.in_ok-put_elements.ensures.ok p)
    c.put_padding.ensures.ok

pub returns-clause-cause : goal.returns-clause-cause
returns-clause-cause g c =
    IfErr-weaker c.put_padding.result _ _ (λ x r. last_refused
    g.met.S.PodSink.appends_more g.met.S.PodSink.refuses_after g.met.S.PodSink.refuses_longer
    c.args.sink.now c.append.new.self c.put_elements.new.sink _ c.args.header.now
    (fixed_bodies (map g.T.CanonicalFixedSizedPod.fixed c.args.values.now))
    (padding c.args.size) x c.in_ok-append.ensures.ok c.in_ok-put_elements.ensures.ok r)
    c.put_padding.ensures.cause
