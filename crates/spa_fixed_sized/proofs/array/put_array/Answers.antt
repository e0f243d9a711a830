use Rattle.std.proofs.Common.{◌≡◌, refl, ◌∙◌, ◌++◌, ◌<◌, ◌≤◌, length, map, sym, subst}
use Rattle.std.proofs.lemmas.Result.{IfErr-weaker, on_err_weaker, on_ok_weaker}
use Rattle.spa_format.specs.Words.{word_bytes, size_limit}
use Rattle.spa_format.specs.Encoding.{array_body, encoded_pod}
use Rattle.spa_format.specs.Tree.{array_type}
use Rattle.spa_sink.proofs.Sending.{begun_as, begun_none, by_sink, refused_encoding}
use Rattle.spa_fixed_sized.proofs.ArrayWriting.{length-array_body, array_encoding}
use Rattle.spa_fixed_sized.proofs.array.put_array.Goals as goal

pub returns-in_default-clause-refused : goal.returns-in_default-clause-refused
returns-in_default-clause-refused g c =
    let met = g.met.T.CanonicalFixedSizedPod in
    let l =
    length-array_body g.T.CanonicalFixedSizedPod.kind g.T.CanonicalFixedSizedPod.fixed
    g.T.CanonicalFixedSizedPod.SIZE c.args.values.now met.its_kind met.its_size in
    record { cause = (subst (λ n. size_limit ≤ n) (sym l) c.in_default.ensures.none, refl) }

pub returns-in_default-clause-begun : goal.returns-in_default-clause-begun
returns-in_default-clause-begun g c = begun_none _ _ _ refl

pub returns-clause-begun : goal.returns-clause-begun
returns-clause-begun g c =
    let met = g.met.T.CanonicalFixedSizedPod in
    let xs = map g.T.CanonicalFixedSizedPod.fixed c.args.values.now in
    let l =
    length-array_body g.T.CanonicalFixedSizedPod.kind g.T.CanonicalFixedSizedPod.fixed
    g.T.CanonicalFixedSizedPod.SIZE c.args.values.now met.its_kind met.its_size in
    let header : c.joined-header.result ≡ (word_bytes c.in-Some.size ++ word_bytes array_type) ++
    (word_bytes c.SIZE.result ++ word_bytes c.TYPE.result) =
    c.joined-header.ensures ∙ cc (c.two_words.ensures, c.two_words-2.ensures) in
    let encoding =
    array_encoding g.T.CanonicalFixedSizedPod.kind xs c.joined-header.result c.in-Some.size
    c.SIZE.result c.TYPE.result header (c.in-Some.ensures.some ∙ sym l)
    (c.SIZE.ensures ∙ met.its_size) (c.TYPE.ensures ∙ met.its_type) in
    on_err_weaker c.put_parts.result (λ p. begun_as c.args.sink.now _ _ _ encoding p)
    c.put_parts.ensures.begun

pub returns-clause-ok : goal.returns-clause-ok
returns-clause-ok g c =
    let met = g.met.T.CanonicalFixedSizedPod in
    let xs = map g.T.CanonicalFixedSizedPod.fixed c.args.values.now in
    let l =
    length-array_body g.T.CanonicalFixedSizedPod.kind g.T.CanonicalFixedSizedPod.fixed
    g.T.CanonicalFixedSizedPod.SIZE c.args.values.now met.its_kind met.its_size in
    let header : c.joined-header.result ≡ (word_bytes c.in-Some.size ++ word_bytes array_type) ++
    (word_bytes c.SIZE.result ++ word_bytes c.TYPE.result) =
    c.joined-header.ensures ∙ cc (c.two_words.ensures, c.two_words-2.ensures) in
    let encoding =
    array_encoding g.T.CanonicalFixedSizedPod.kind xs c.joined-header.result c.in-Some.size
    c.SIZE.result c.TYPE.result header (c.in-Some.ensures.some ∙ sym l)
    (c.SIZE.ensures ∙ met.its_size) (c.TYPE.ensures ∙ met.its_type) in
    on_ok_weaker c.put_parts.result
    (λ p. subst (λ b. g.S.PodSink.appends c.args.sink.now b c.put_parts.new.sink) encoding p)
    c.put_parts.ensures.ok

pub returns-clause-fits : goal.returns-clause-fits
returns-clause-fits g c =
    let met = g.met.T.CanonicalFixedSizedPod in
    let l =
    length-array_body g.T.CanonicalFixedSizedPod.kind g.T.CanonicalFixedSizedPod.fixed
    g.T.CanonicalFixedSizedPod.SIZE c.args.values.now met.its_kind met.its_size in
    on_ok_weaker c.put_parts.result (λ p. subst (λ n. n < size_limit)
    (c.in-Some.ensures.some ∙ sym l) c.in-Some.ensures.fits) c.put_parts.ensures.ok

pub returns-clause-refused : goal.returns-clause-refused
returns-clause-refused g c =
    let met = g.met.T.CanonicalFixedSizedPod in
    let xs = map g.T.CanonicalFixedSizedPod.fixed c.args.values.now in
    let l =
    length-array_body g.T.CanonicalFixedSizedPod.kind g.T.CanonicalFixedSizedPod.fixed
    g.T.CanonicalFixedSizedPod.SIZE c.args.values.now met.its_kind met.its_size in
    let header : c.joined-header.result ≡ (word_bytes c.in-Some.size ++ word_bytes array_type) ++
    (word_bytes c.SIZE.result ++ word_bytes c.TYPE.result) =
    c.joined-header.ensures ∙ cc (c.two_words.ensures, c.two_words-2.ensures) in
    let encoding =
    array_encoding g.T.CanonicalFixedSizedPod.kind xs c.joined-header.result c.in-Some.size
    c.SIZE.result c.TYPE.result header (c.in-Some.ensures.some ∙ sym l)
    (c.SIZE.ensures ∙ met.its_size) (c.TYPE.ensures ∙ met.its_type) in
    IfErr-weaker c.put_parts.result _ _ (λ e r. by_sink g.S.PodSink.refuses
    g.met.S.PodSink.never_nul g.met.S.PodSink.never_large c.args.sink.now _
    (length (encoded_pod array_type (array_body g.T.CanonicalFixedSizedPod.kind xs))) e
    (refused_encoding g.S.PodSink.refuses c.args.sink.now _ _ _ e encoding r))
    c.put_parts.ensures.cause
