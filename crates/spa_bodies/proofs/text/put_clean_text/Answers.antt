use Rattle.std.proofs.Common.{◌+◌, ◌∷◌, ◌++◌, length, refl, sym}
use Rattle.spa_bytes.proofs.Passing.{passed_on}
use Rattle.spa_sink.specs.Writing.{some_sent}
use Rattle.spa_format.specs.Encoding.{encoding_of}
use Rattle.spa_format.specs.Tree.{string, string_type}
use Rattle.spa_format.specs.Words.{padding, word_bytes}
use Rattle.spa_bodies.proofs.Pieces.{string_parts}
use Rattle.spa_bodies.proofs.Parts.{TakesParts, both, stop_as, stop_behind, stop_by, stop_first, two_stop}
use Rattle.spa_bodies.proofs.text.put_clean_text.Given.{Over}
use Rattle.spa_bodies.proofs.text.put_clean_text.Goals as goal

parts_of : (g : Over) → TakesParts g.S.PodSink.appends g.S.PodSink.refuses
parts_of g = record {
  more = g.met.S.PodSink.appends_more;
  after = g.met.S.PodSink.refuses_after;
  longer = g.met.S.PodSink.refuses_longer;
}

pub returns-in_err-put_two-clause-stops : goal.returns-in_err-put_two-clause-stops
returns-in_err-put_two-clause-stops g c =
    let b = c.as_bytes-bytes.result.now in
    let size = length b + 1 in
    let head = word_bytes size ++ word_bytes string_type in
    let rest = b ++ 0 ∷ padding size in
    let h = c.in_err-put_two.ensures in
    passed_on _ _ _ c.from_residual.ensures.1
    (stop_as c.args.sink.now _ (head ++ rest) (encoding_of (string c.args.text.now)) _
    (sym (string_parts size c.args.text.now b c.as_bytes-bytes.ensures.value refl))
    (stop_first (parts_of g) c.args.sink.now _ head rest _
    (two_stop c.args.sink.now _ size string_type h.begun.0 _ h.begun.1 h.cause)))

pub returns-in_err-append-clause-stops : goal.returns-in_err-append-clause-stops
returns-in_err-append-clause-stops g c =
    let b = c.as_bytes-bytes.result.now in
    let size = length b + 1 in
    let head = word_bytes size ++ word_bytes string_type in
    let end = 0 ∷ padding size in
    let h = c.in_err-append.ensures in
    passed_on _ _ _ c.from_residual-in_err-append.ensures.1
    (stop_as c.args.sink.now _ (head ++ (b ++ end)) (encoding_of (string c.args.text.now)) _
    (sym (string_parts size c.args.text.now b c.as_bytes-bytes.ensures.value refl))
    (stop_behind (parts_of g) c.args.sink.now c.put_two.new.sink _ head (b ++ end) _ (some_sent c.in_ok-put_two.ensures.ok)
    (stop_first (parts_of g) c.put_two.new.sink _ b end _ (stop_by c.put_two.new.sink _ h.begun.0 b _ h.begun.1 h.cause))))

pub returns-clause-stops : goal.returns-clause-stops
returns-clause-stops g c =
    let b = c.as_bytes-bytes.result.now in
    let size = length b + 1 in
    let head = word_bytes size ++ word_bytes string_type in
    let end = 0 ∷ padding size in
    both c.put_end.result
    (λ e h k. stop_as c.args.sink.now _ (head ++ (b ++ end)) (encoding_of (string c.args.text.now)) e
    (sym (string_parts size c.args.text.now b c.as_bytes-bytes.ensures.value refl))
    (stop_behind (parts_of g) c.args.sink.now c.put_two.new.sink _ head (b ++ end) e (some_sent c.in_ok-put_two.ensures.ok)
    (stop_behind (parts_of g) c.put_two.new.sink c.append.new.self _ b end e (some_sent c.in_ok-append.ensures.ok)
    (stop_by c.append.new.self _ h.0 end e h.1 k))))
    c.put_end.ensures.begun c.put_end.ensures.cause
