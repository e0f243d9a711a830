use Rattle.std.proofs.Common.{◌≡◌, ◌∙◌, ◌+◌, length, take, ap, sym}
use Rattle.std.proofs.lemmas.Slice.{take-put_mid}
use Rattle.spa_format.specs.Kind.{fixed_body}
use Rattle.spa_fixed_sized.proofs.Pods.{body_length}
use Rattle.spa_fixed_sized.proofs.ElementWriting.{filled_more, within_slice}
use Rattle.spa_fixed_sized.proofs.elements.fill.Goals as goal

pub loop-value-preserved : goal.loop-value-preserved
loop-value-preserved g c =
    let met = g.met.T.CanonicalFixedSizedPod in
    let size = g.T.CanonicalFixedSizedPod.SIZE in
    let x = g.T.CanonicalFixedSizedPod.fixed c.value-item.result in
    let piece : c.copy_from_slice.new.self ≡ fixed_body x =
    c.copy_from_slice.ensures.after ∙ ap (λ n. take n c.padded_body.result)
    c.SIZE-in-loop-value.ensures ∙ c.padded_body.ensures.body in
    let long : length c.copy_from_slice.new.self ≡ c.SIZE-at.result =
    ap length piece ∙ body_length g.T.CanonicalFixedSizedPod.kind x size
    (met.its_kind c.value-item.result) met.its_size ∙ sym c.SIZE-at.ensures in
    filled_more g.T.CanonicalFixedSizedPod.kind g.T.CanonicalFixedSizedPod.fixed size
    c.SIZE-at.result c.loop-value.at c.loop-value.value-index c.loop-value.block _
    c.copy_from_slice.new.self c.args.values.now c.value-item.result c.loop-value.invariant
    c.loop-value-test.true c.value-item.is (met.its_kind c.value-item.result) c.SIZE-at.ensures
    (take-put_mid c.loop-value.at _ c.loop-value.block c.copy_from_slice.new.self
    (c.loop-value.at + c.SIZE-at.result) (ap (λ n. c.loop-value.at + n) (sym long))
    (within_slice c.loop-value.invariant.place c.loop-value-test.true c.padded_body.ensures.within
    c.requires c.loop-value.auto.block))
    piece
    c.padded_body.ensures.typed
