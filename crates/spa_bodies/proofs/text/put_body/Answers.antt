use Rattle.std.proofs.Common.{◌≡◌, ◌++◌, length, rules, sym}
use Rattle.std.proofs.lemmas.Result.{on_err_weaker}
use Rattle.spa_bytes.proofs.Passing.{passed_on}
use Rattle.spa_sink.proofs.Sending.{begun_as, begun_behind, begun_by, begun_first}
use Rattle.spa_sink.specs.Writing.{some_sent}
use Rattle.spa_format.specs.Words.{padding, word_bytes}
use Rattle.spa_bodies.proofs.Pieces.{pod_parts}
use Rattle.spa_bodies.proofs.text.put_body.Goals as goal

pub returns-in_err-put_two-clause-begun : goal.returns-in_err-put_two-clause-begun
returns-in_err-put_two-clause-begun g c =
    let b = c.args.bytes.now in
    let e : c.in-Ok.size ≡ length b = search rules in
    let head = word_bytes c.in-Ok.size ++ word_bytes c.args.type_ in
    let h = c.in_err-put_two.ensures.begun in
    passed_on _ _ (λ _. _) c.from_residual.ensures.1
    (begun_as c.args.sink.now _ _ _ (sym (pod_parts c.in-Ok.size c.args.type_ b e))
    (begun_first _ _ head (b ++ padding (length b)) (begun_by _ _ h.0 head h.1)))

pub returns-in_err-append-clause-begun : goal.returns-in_err-append-clause-begun
returns-in_err-append-clause-begun g c =
    let b = c.args.bytes.now in
    let e : c.in-Ok.size ≡ length b = search rules in
    let head = word_bytes c.in-Ok.size ++ word_bytes c.args.type_ in
    let h = c.in_err-append.ensures.begun in
    passed_on _ _ (λ _. _) c.from_residual-in_err-append.ensures.1
    (begun_as c.args.sink.now _ _ _ (sym (pod_parts c.in-Ok.size c.args.type_ b e))
    (begun_behind g.met.S.PodSink.appends_more c.args.sink.now c.put_two.new.sink _ head (b ++ padding (length b))
    (some_sent c.in_ok-put_two.ensures.ok) (begun_first _ _ b (padding (length b)) (begun_by _ _ h.0 b h.1))))

pub returns-clause-begun : goal.returns-clause-begun
returns-clause-begun g c =
    let law = g.met.S.PodSink.appends_more in
    let b = c.args.bytes.now in
    let e : c.in-Ok.size ≡ length b = search rules in
    let head = word_bytes c.in-Ok.size ++ word_bytes c.args.type_ in
    on_err_weaker c.put_padding.result
    (λ h. begun_as c.args.sink.now _ _ _ (sym (pod_parts c.in-Ok.size c.args.type_ b e))
    (begun_behind law c.args.sink.now c.put_two.new.sink _ head (b ++ padding (length b))
    (some_sent c.in_ok-put_two.ensures.ok)
    (begun_behind law c.put_two.new.sink c.append.new.self _ b (padding (length b))
    (some_sent c.in_ok-append.ensures.ok) (begun_by _ _ h.0 (padding (length b)) h.1))))
    c.put_padding.ensures.begun
