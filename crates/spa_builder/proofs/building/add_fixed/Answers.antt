use Rattle.std.proofs.Common.{◌++◌, length, ap, sym, ◌∙◌}
use Rattle.spa_format.specs.Kind.{body_size, fixed_body, type_number}
use Rattle.spa_format.specs.Encoding.{encoded_pod, member_encodings}
use Rattle.spa_format.specs.Tree.{fixed}
use Rattle.spa_format.proofs.FixedKinds.{length-fixed_body}
use Rattle.spa_builder.specs.Fields.{fields_of}
use Rattle.spa_builder.proofs.Members.{no_place}
use Rattle.spa_builder.proofs.Steps.{has_its_room, is_nomem}
use Rattle.spa_builder.proofs.Placing.{exactly, not_admitted, admitted_nomem, admitted}
use Rattle.spa_builder.proofs.building.add_fixed.Goals as goal

pub admit-requires : goal.admit-requires
admit-requires g c = has_its_room (fields_of c.args.bytes.now c.args.frames.now) _ c.requires.holds c.len.ensures

pub returns-in_err-admit : goal.returns-in_err-admit
returns-in_err-admit g c s at =
    let met = g.met.T.CanonicalFixedSizedPod in
    let x = g.T.CanonicalFixedSizedPod.fixed c.args.value.now in
    let size = c.SIZE-2.ensures ∙ met.its_size ∙ ap body_size (sym (met.its_kind c.args.value.now)) ∙ sym (length-fixed_body x) in
    let base = length (member_encodings s.closed) in
    not_admitted s (fixed x) _ _ _ _ _ c.from_residual.ensures.1 at (exactly size)
    (no_place s.closed s.opened x
    (sym (c.takes_elements.ensures base s.opened (c.innermost-innermost.ensures.last base s.opened at.frames)) ∙ c.if-takes_elements.false))
    c.len.ensures c.in_err-admit.ensures

pub returns-in_err-put_fixed_pod : goal.returns-in_err-put_fixed_pod
returns-in_err-put_fixed_pod g c s at =
    let met = g.met.T.CanonicalFixedSizedPod in
    let x = g.T.CanonicalFixedSizedPod.fixed c.args.value.now in
    let size = c.SIZE-2.ensures ∙ met.its_size ∙ ap body_size (sym (met.its_kind c.args.value.now)) ∙ sym (length-fixed_body x) in
    admitted_nomem s (fixed x) _ _ _ _ _ _ at (exactly size) c.len.ensures c.in_ok-admit.ensures
    (is_nomem _ _ c.from_residual-in_err-put_fixed_pod.ensures.1 c.in_err-put_fixed_pod.ensures.memory)
    (ap (λ l. fields_of l c.args.frames.now) c.in_err-put_fixed_pod.ensures.unchanged)

pub returns : goal.returns
returns g c s at =
    let met = g.met.T.CanonicalFixedSizedPod in
    let x = g.T.CanonicalFixedSizedPod.fixed c.args.value.now in
    let k = met.its_kind c.args.value.now in
    let size = c.SIZE-2.ensures ∙ met.its_size ∙ ap body_size (sym k) ∙ sym (length-fixed_body x) in
    admitted s (fixed x) _ (fields_of c.put_fixed_pod.new.bytes c.fill.new.frames) _ _ _ _ _ at (exactly size) c.len.ensures
    c.in_ok-admit.ensures
    (c.in_ok-put_fixed_pod.ensures.ok
    ∙ ap (λ t. c.args.bytes.now ++ encoded_pod t (fixed_body x)) (met.its_type ∙ ap type_number (sym k)))
    c.fill.ensures c.innermost-innermost.ensures.last
