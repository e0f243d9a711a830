use Rattle.std.proofs.Common.{◌++◌, arith, length-append, sym}
use Rattle.std.proofs.lemmas.Result.{IfErr-weaker, on_err_weaker}
use Rattle.spa_format.specs.Tree.{pointer_type}
use Rattle.spa_format.specs.Words.{wide_bytes, word_bytes}
use Rattle.spa_format.proofs.Encodings.{pointer_encoding, pointer_encoding_length, two_words_length}
use Rattle.spa_bytes.proofs.Passing.{passed_on}
use Rattle.spa_sink.proofs.Sending.{begun_as, begun_behind, begun_by, begun_first}
use Rattle.spa_sink.specs.Writing.{some_sent}
use Rattle.spa_bodies.proofs.SinkRefusals.{IsSink, later_refused}
use Rattle.spa_bodies.proofs.text.put_pointer.Given.{Over}
use Rattle.spa_bodies.proofs.text.put_pointer.Goals as goal

sink_of : (g : Over) → IsSink g.S.PodSink.appends g.S.PodSink.refuses
sink_of g = record {
  longer = g.met.S.PodSink.refuses_longer;
  after = g.met.S.PodSink.refuses_after;
  no_nul = g.met.S.PodSink.never_nul;
  no_large = g.met.S.PodSink.never_large;
}

pub returns-in_err-put_two-2-clause-refused : goal.returns-in_err-put_two-2-clause-refused
returns-in_err-put_two-2-clause-refused g c =
    let e0 = two_words_length 16 pointer_type in
    let e1 = pointer_encoding_length c.args.type_ c.args.address in
    passed_on _ _ _ c.from_residual-in_err-put_two-2.ensures.1
    (later_refused (sink_of g) _ _ c.args.sink.now _ _ (word_bytes 16 ++ word_bytes pointer_type) 8 _ _
    c.in_ok-put_two.ensures.ok (omega arith) c.in_err-put_two-2.ensures.cause)

pub returns-clause-refused : goal.returns-clause-refused
returns-clause-refused g c =
    let header = word_bytes 16 ++ word_bytes pointer_type in
    let words = word_bytes c.args.type_ ++ word_bytes 0 in
    let e0 = two_words_length 16 pointer_type in
    let e1 = pointer_encoding_length c.args.type_ c.args.address in
    let e2 = two_words_length c.args.type_ 0 in
    let e3 = length-append header words in
    let p =
    g.met.S.PodSink.appends_more c.args.sink.now c.put_two.new.sink c.put_two-2.new.sink header words
    c.in_ok-put_two.ensures.ok c.in_ok-put_two-2.ensures.ok in
    IfErr-weaker c.put_wide.result _ _
    (λ e r. later_refused (sink_of g) _ _ c.args.sink.now c.put_two-2.new.sink c.put_wide.new.sink
    (header ++ words) 8 _ e p (omega arith) r)
    c.put_wide.ensures.cause

pub returns-in_err-put_two-clause-begun : goal.returns-in_err-put_two-clause-begun
returns-in_err-put_two-clause-begun g c =
    let header = word_bytes 16 ++ word_bytes pointer_type in
    let words = word_bytes c.args.type_ ++ word_bytes 0 in
    let h = c.in_err-put_two.ensures.begun in
    passed_on _ _ (λ _. _) c.from_residual.ensures.1
    (begun_as c.args.sink.now _ _ _ (sym (pointer_encoding c.args.type_ c.args.address))
    (begun_first _ _ header (words ++ wide_bytes c.args.address) (begun_by _ _ h.0 header h.1)))

pub returns-in_err-put_two-2-clause-begun : goal.returns-in_err-put_two-2-clause-begun
returns-in_err-put_two-2-clause-begun g c =
    let header = word_bytes 16 ++ word_bytes pointer_type in
    let words = word_bytes c.args.type_ ++ word_bytes 0 in
    let h = c.in_err-put_two-2.ensures.begun in
    passed_on _ _ (λ _. _) c.from_residual-in_err-put_two-2.ensures.1
    (begun_as c.args.sink.now _ _ _ (sym (pointer_encoding c.args.type_ c.args.address))
    (begun_behind g.met.S.PodSink.appends_more c.args.sink.now c.put_two.new.sink _ header
    (words ++ wide_bytes c.args.address) (some_sent c.in_ok-put_two.ensures.ok)
    (begun_first _ _ words (wide_bytes c.args.address) (begun_by _ _ h.0 words h.1))))

pub returns-clause-begun : goal.returns-clause-begun
returns-clause-begun g c =
    let law = g.met.S.PodSink.appends_more in
    let header = word_bytes 16 ++ word_bytes pointer_type in
    let words = word_bytes c.args.type_ ++ word_bytes 0 in
    let wide = wide_bytes c.args.address in
    on_err_weaker c.put_wide.result
    (λ h. begun_as c.args.sink.now _ _ _ (sym (pointer_encoding c.args.type_ c.args.address))
    (begun_behind law c.args.sink.now c.put_two.new.sink _ header (words ++ wide)
    (some_sent c.in_ok-put_two.ensures.ok)
    (begun_behind law c.put_two.new.sink c.put_two-2.new.sink _ words wide
    (some_sent c.in_ok-put_two-2.ensures.ok) (begun_by _ _ h.0 wide h.1))))
    c.put_wide.ensures.begun
