use Rattle.std.proofs.Common.{◌∙◌, ap, sym}
use Rattle.std.proofs.lemmas.Result.{on_err_weaker}
use Rattle.spa_sink.proofs.Sending.{begun_as, begun_by}
use Rattle.spa_format.specs.Encoding.{encoded_pod}
use Rattle.spa_format.specs.Kind.{fixed_body, type_number}
use Rattle.spa_bodies.proofs.leaf.put_number.Goals as goal

pub returns-clause-begun : goal.returns-clause-begun
returns-clause-begun g c =
    let met = g.met.T.CanonicalFixedSizedPod in
    let x = g.T.CanonicalFixedSizedPod.fixed c.args.value.now in
    let type = met.its_type ∙ ap type_number (sym (met.its_kind c.args.value.now)) in
    on_err_weaker c.put_fixed.result
    (λ h. begun_as c.args.sink.now _ _ _ (ap (λ n. encoded_pod n (fixed_body x)) type) (begun_by _ _ h.0 _ h.1))
    c.put_fixed.ensures.begun
