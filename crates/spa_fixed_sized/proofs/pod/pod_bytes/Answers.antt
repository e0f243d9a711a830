use Rattle.std.proofs.Common.{◌≡◌, ◌∙◌, ◌++◌, take, drop, ap}
use Rattle.spa_format.specs.Kind.{fixed_body}
use Rattle.spa_format.specs.Words.{word_bytes}
use Rattle.spa_fixed_sized.proofs.Pods.{body_length, encoding_of_fixed}
use Rattle.spa_fixed_sized.proofs.pod.pod_bytes.Goals as goal

pub returns-clause-encoding : goal.returns-clause-encoding
returns-clause-encoding g c =
    let met = g.met.T.CanonicalFixedSizedPod in
    let x = g.T.CanonicalFixedSizedPod.fixed c.args.value.now in
    let header : c.copy_from_slice-2.new.self ≡ word_bytes g.T.CanonicalFixedSizedPod.SIZE ++
    word_bytes g.T.CanonicalFixedSizedPod.TYPE =
    c.copy_from_slice-2.ensures.after ∙ c.two_words.ensures ∙ cc
    (c.SIZE.ensures, c.TYPE.ensures) in
    let body = c.copy_from_slice.ensures.after in
    encoding_of_fixed g.T.CanonicalFixedSizedPod.SIZE g.T.CanonicalFixedSizedPod.TYPE
    (fixed_body x) c.copy_from_slice-2.new.self c.copy_from_slice.new.self
    (body_length g.T.CanonicalFixedSizedPod.kind x g.T.CanonicalFixedSizedPod.SIZE
    (met.its_kind c.args.value.now) met.its_size)
    c.padded_body.ensures.within
    (ap (take g.T.CanonicalFixedSizedPod.SIZE) body ∙ c.padded_body.ensures.body)
    (ap (drop g.T.CanonicalFixedSizedPod.SIZE) body ∙ c.padded_body.ensures.zeros)
    header
