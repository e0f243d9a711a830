use Rattle.std.proofs.Common.{◌∙◌, ◌*◌, length, take, ap, sym}
use Rattle.spa_bytes.proofs.Passing.{passed_on}
use Rattle.spa_fixed_sized.proofs.ElementWriting.{sent_begun, sent_more, sent_refused, units_are, units_unsent}
use Rattle.spa_fixed_sized.proofs.elements.put_elements.Goals as goal

pub loop-left-preserved : goal.loop-left-preserved
loop-left-preserved g c =
    sent_more g.met.S.PodSink.appends_more g.T.CanonicalFixedSizedPod.kind
    g.T.CanonicalFixedSizedPod.fixed c.args.sink.now c.loop-left.sink c.append.new.self
    c.args.values.now c.loop-left.left.now c.split_at.result.0.now c.split_at.result.1.now _ _
    c.loop-left.invariant c.split_at.ensures.front c.split_at.ensures.back
    c.in_ok-append.ensures.ok
    (ap (λ n. take (length c.split_at.result.0.now * n) c.fill.new.block)
    c.SIZE-in-loop-left.ensures ∙ c.fill.ensures.bodies) c.fill.ensures.typed

pub returns-in_err-append-clause-begun : goal.returns-in_err-append-clause-begun
returns-in_err-append-clause-begun g c =
    passed_on _ _ (λ _. _) c.from_residual.ensures.1
    (sent_begun g.met.S.PodSink.appends_more
    g.T.CanonicalFixedSizedPod.kind g.T.CanonicalFixedSizedPod.fixed c.args.sink.now
    c.loop-left.sink _ c.args.values.now c.loop-left.left.now c.split_at.result.0.now _ _ _
    c.loop-left.invariant c.split_at.ensures.front
    (ap (λ n. take (length c.split_at.result.0.now * n) c.fill.new.block)
    c.SIZE-in-loop-left.ensures ∙ c.fill.ensures.bodies) c.in_err-append.ensures.begun.1)

pub returns-in_err-append-clause-cause : goal.returns-in_err-append-clause-cause
returns-in_err-append-clause-cause g c =
    passed_on _ _ _ c.from_residual.ensures.1
    (sent_refused g.met.S.PodSink.refuses_after g.met.S.PodSink.refuses_longer
    g.T.CanonicalFixedSizedPod.kind g.T.CanonicalFixedSizedPod.fixed c.args.sink.now
    c.loop-left.sink _ c.args.values.now c.loop-left.left.now c.split_at.result.0.now _ _ _
    c.loop-left.invariant c.split_at.ensures.front
    (ap (λ n. take (length c.split_at.result.0.now * n) c.fill.new.block)
    c.SIZE-in-loop-left.ensures ∙ c.fill.ensures.bodies) c.in_err-append.ensures.cause)

pub returns-then-SIZE-eq0-clause-ok : goal.returns-then-SIZE-eq0-clause-ok
returns-then-SIZE-eq0-clause-ok g c =
    let met = g.met.T.CanonicalFixedSizedPod in
    units_unsent g.T.CanonicalFixedSizedPod.kind g.T.CanonicalFixedSizedPod.fixed c.args.values.now
    c.args.sink.now met.its_kind (sym met.its_size ∙ sym c.SIZE.ensures ∙ c.if-SIZE-eq0.true)

pub returns-then-SIZE-eq0-clause-typed : goal.returns-then-SIZE-eq0-clause-typed
returns-then-SIZE-eq0-clause-typed g c =
    let met = g.met.T.CanonicalFixedSizedPod in
    units_are g.T.CanonicalFixedSizedPod.kind g.T.CanonicalFixedSizedPod.fixed c.args.values.now
    met.its_kind (sym met.its_size ∙ sym c.SIZE.ensures ∙ c.if-SIZE-eq0.true)
