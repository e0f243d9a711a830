use Rattle.std.proofs.Common.{◌∙◌, ap, sym}
use Rattle.spa_format.specs.Kind.{fixed_body}
use Rattle.spa_format.specs.Words.{extent}
use Rattle.spa_format.proofs.Encodings.{length-encoded_pod}
use Rattle.spa_fixed_sized.proofs.Pods.{body_length}
use Rattle.spa_fixed_sized.proofs.sizes.pod_len.Goals as goal

pub returns : goal.returns
returns g c =
    let met = g.met.T.CanonicalFixedSizedPod in
    let x = g.T.CanonicalFixedSizedPod.fixed c.args._value.now in
    let body =
    body_length g.T.CanonicalFixedSizedPod.kind x g.T.CanonicalFixedSizedPod.SIZE
    (met.its_kind c.args._value.now) met.its_size in
    c.extent_of.ensures.extent ∙ ap extent (c.SIZE.ensures ∙ sym body)
    ∙ sym (length-encoded_pod g.T.CanonicalFixedSizedPod.TYPE (fixed_body x))
