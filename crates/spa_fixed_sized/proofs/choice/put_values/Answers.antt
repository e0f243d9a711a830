use Rattle.std.proofs.Common.{refl, ◌∙◌, ◌++◌, ◌<◌, ◌≤◌, length, map, subst}
use Rattle.std.proofs.lemmas.Result.{IfErr-weaker, on_err_weaker, on_ok_weaker}
use Rattle.spa_format.specs.Words.{size_limit}
use Rattle.spa_format.specs.Encoding.{encoded_pod}
use Rattle.spa_format.specs.Tree.{choice_type}
use Rattle.spa_fixed_sized.specs.Choices.{choice_body}
use Rattle.spa_sink.proofs.Sending.{begun_as, begun_none, by_sink, refused_encoding}
use Rattle.spa_fixed_sized.proofs.ElementWriting.{AreOf-append}
use Rattle.spa_fixed_sized.proofs.ChoiceWriting.{choice_length, choice_put}
use Rattle.spa_fixed_sized.proofs.choice.put_values.Goals as goal

pub returns-in_default-clause-refused : goal.returns-in_default-clause-refused
returns-in_default-clause-refused g c =
    let met = g.met.T.CanonicalFixedSizedPod in
    let counted =
    choice_length c.args.shape c.args.flags g.T.CanonicalFixedSizedPod.kind
    (λ r. g.T.CanonicalFixedSizedPod.fixed r.now) g.T.CanonicalFixedSizedPod.fixed
    g.T.CanonicalFixedSizedPod.SIZE
    c.SIZE.result c.args.first.now c.args.more.now (λ r. met.its_kind r.now) met.its_kind
    met.its_size c.SIZE.ensures in
    record { cause = (subst (λ n. size_limit ≤ n) counted c.in_default.ensures.none, refl) }

pub returns-in_default-clause-begun : goal.returns-in_default-clause-begun
returns-in_default-clause-begun g c = begun_none _ _ _ refl

pub returns-clause-begun : goal.returns-clause-begun
returns-clause-begun g c =
    let met = g.met.T.CanonicalFixedSizedPod in
    let size =
    c.in-Some.ensures.some ∙ choice_length c.args.shape c.args.flags g.T.CanonicalFixedSizedPod.kind
    (λ r. g.T.CanonicalFixedSizedPod.fixed r.now) g.T.CanonicalFixedSizedPod.fixed
    g.T.CanonicalFixedSizedPod.SIZE
    c.SIZE.result c.args.first.now c.args.more.now (λ r. met.its_kind r.now) met.its_kind
    met.its_size c.SIZE.ensures in
    let encoding =
    choice_put g.T.CanonicalFixedSizedPod.kind (λ r. g.T.CanonicalFixedSizedPod.fixed r.now)
    g.T.CanonicalFixedSizedPod.fixed c.args.first.now c.args.more.now c.two_words.result
    c.two_words-2.result c.two_words-3.result c.first_bodies.result c.start_of-start.result
    c.in-Some.size c.args.shape c.args.flags c.SIZE-2.result c.TYPE.result
    g.T.CanonicalFixedSizedPod.SIZE c.SIZE.result
    c.start_of-start.ensures c.first_bodies.ensures.bodies c.SIZE.ensures c.two_words.ensures
    c.two_words-2.ensures c.two_words-3.ensures size (c.SIZE-2.ensures ∙ met.its_size)
    (c.TYPE.ensures ∙ met.its_type) in
    on_err_weaker c.put_parts.result (λ p. begun_as c.args.sink.now _ _ _ encoding p)
    c.put_parts.ensures.begun

pub returns-clause-ok : goal.returns-clause-ok
returns-clause-ok g c =
    let met = g.met.T.CanonicalFixedSizedPod in
    let size =
    c.in-Some.ensures.some ∙ choice_length c.args.shape c.args.flags g.T.CanonicalFixedSizedPod.kind
    (λ r. g.T.CanonicalFixedSizedPod.fixed r.now) g.T.CanonicalFixedSizedPod.fixed
    g.T.CanonicalFixedSizedPod.SIZE
    c.SIZE.result c.args.first.now c.args.more.now (λ r. met.its_kind r.now) met.its_kind
    met.its_size c.SIZE.ensures in
    let encoding =
    choice_put g.T.CanonicalFixedSizedPod.kind (λ r. g.T.CanonicalFixedSizedPod.fixed r.now)
    g.T.CanonicalFixedSizedPod.fixed c.args.first.now c.args.more.now c.two_words.result
    c.two_words-2.result c.two_words-3.result c.first_bodies.result c.start_of-start.result
    c.in-Some.size c.args.shape c.args.flags c.SIZE-2.result c.TYPE.result
    g.T.CanonicalFixedSizedPod.SIZE c.SIZE.result
    c.start_of-start.ensures c.first_bodies.ensures.bodies c.SIZE.ensures c.two_words.ensures
    c.two_words-2.ensures c.two_words-3.ensures size (c.SIZE-2.ensures ∙ met.its_size)
    (c.TYPE.ensures ∙ met.its_type) in
    on_ok_weaker c.put_parts.result
    (λ p. subst (λ b. g.S.PodSink.appends c.args.sink.now b c.put_parts.new.sink) encoding p)
    c.put_parts.ensures.ok

pub returns-clause-typed : goal.returns-clause-typed
returns-clause-typed g c =
    let xs = map (λ r. g.T.CanonicalFixedSizedPod.fixed r.now) c.args.first.now in
    let ys = map g.T.CanonicalFixedSizedPod.fixed c.args.more.now in
    on_ok_weaker c.put_parts.result
    (λ p. (
      c.ranges.flags.fits,
      AreOf-append g.T.CanonicalFixedSizedPod.kind xs ys
          c.first_bodies.ensures.typed p,
    )) c.put_parts.ensures.typed

pub returns-clause-fits : goal.returns-clause-fits
returns-clause-fits g c =
    let met = g.met.T.CanonicalFixedSizedPod in
    let size =
    c.in-Some.ensures.some ∙ choice_length c.args.shape c.args.flags g.T.CanonicalFixedSizedPod.kind
    (λ r. g.T.CanonicalFixedSizedPod.fixed r.now) g.T.CanonicalFixedSizedPod.fixed
    g.T.CanonicalFixedSizedPod.SIZE
    c.SIZE.result c.args.first.now c.args.more.now (λ r. met.its_kind r.now) met.its_kind
    met.its_size c.SIZE.ensures in
    on_ok_weaker c.put_parts.result (λ p. subst (λ n. n < size_limit) size c.in-Some.ensures.fits)
    c.put_parts.ensures.ok

pub returns-clause-refused : goal.returns-clause-refused
returns-clause-refused g c =
    let met = g.met.T.CanonicalFixedSizedPod in
    let xs = map (λ r. g.T.CanonicalFixedSizedPod.fixed r.now) c.args.first.now in
    let ys = map g.T.CanonicalFixedSizedPod.fixed c.args.more.now in
    let size =
    c.in-Some.ensures.some ∙ choice_length c.args.shape c.args.flags g.T.CanonicalFixedSizedPod.kind
    (λ r. g.T.CanonicalFixedSizedPod.fixed r.now) g.T.CanonicalFixedSizedPod.fixed
    g.T.CanonicalFixedSizedPod.SIZE
    c.SIZE.result c.args.first.now c.args.more.now (λ r. met.its_kind r.now) met.its_kind
    met.its_size c.SIZE.ensures in
    let encoding =
    choice_put g.T.CanonicalFixedSizedPod.kind (λ r. g.T.CanonicalFixedSizedPod.fixed r.now)
    g.T.CanonicalFixedSizedPod.fixed c.args.first.now c.args.more.now c.two_words.result
    c.two_words-2.result c.two_words-3.result c.first_bodies.result c.start_of-start.result
    c.in-Some.size c.args.shape c.args.flags c.SIZE-2.result c.TYPE.result
    g.T.CanonicalFixedSizedPod.SIZE c.SIZE.result
    c.start_of-start.ensures c.first_bodies.ensures.bodies c.SIZE.ensures c.two_words.ensures
    c.two_words-2.ensures c.two_words-3.ensures size (c.SIZE-2.ensures ∙ met.its_size)
    (c.TYPE.ensures ∙ met.its_type) in
    IfErr-weaker c.put_parts.result _ _ (λ e r. by_sink g.S.PodSink.refuses
    g.met.S.PodSink.never_nul g.met.S.PodSink.never_large c.args.sink.now _
    (length (encoded_pod choice_type (choice_body c.args.shape
    c.args.flags g.T.CanonicalFixedSizedPod.kind (xs ++ ys)))) e
    (refused_encoding g.S.PodSink.refuses c.args.sink.now _ _ _ e encoding r))
    c.put_parts.ensures.cause
