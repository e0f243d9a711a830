use Rattle.std.proofs.Common.{◌≡◌, ◌∙◌, sym, ap, drop}
use Rattle.spa_format.proofs.FixedKinds.{same_kind}
use Rattle.spa_view.specs.Elements.{values_in}
use Rattle.spa_view.proofs.ReadElements.{elements_read}
use Rattle.spa_view.proofs.arrays.PodArray.elements.Goals as goal

pub returns-clause-accepted : goal.returns-clause-accepted
returns-clause-accepted g c k xs h =
    let kind = g.T.CanonicalFixedSizedPod.kind in
    let e : k ≡ kind = same_kind k kind (sym h.child_type ∙ sym c.element_type.ensures ∙ sym c.as_raw.ensures ∙ c.if-as_raw-TYPE.false ∙ c.TYPE.ensures ∙ g.met.T.CanonicalFixedSizedPod.its_type) in
    ap (values_in kind) c.split_at.ensures.back
    ∙ ap (λ j. values_in j (drop 8 c.args.self.now.body.now)) (sym e)
    ∙ elements_read k xs (drop 8 c.args.self.now.body.now) h.elements
