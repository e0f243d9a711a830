use Rattle.std.proofs.Common.{◌++◌, length, map, take, refl, ap, sym, ◌∙◌, arith}
use Rattle.spa_format.specs.Encoding.{encoding_of}
use Rattle.spa_format.specs.Tree.{array}
use Rattle.spa_builder.specs.Fields.{fields_of}
use Rattle.spa_fixed_sized.proofs.ArrayWriting.{length-array_body}
use Rattle.spa_builder.proofs.Steps.{has_its_room, no_element}
use Rattle.spa_builder.proofs.Placing.{computed, not_admitted, admitted_nomem, admitted}
use Rattle.spa_builder.proofs.Valued.{begun_back}
use Rattle.spa_builder.proofs.building.add_values.Goals as goal

pub admit-requires : goal.admit-requires
admit-requires g c = has_its_room (fields_of c.args.bytes.now c.args.frames.now) _ c.requires.holds c.len-had.ensures

pub returns-in_err-admit : goal.returns-in_err-admit
returns-in_err-admit g c s at =
    let trait = g.T.CanonicalFixedSizedPod in
    let met = g.met.T.CanonicalFixedSizedPod in
    let v = array trait.kind (map trait.fixed c.args.values.now) in
    let l = length-array_body trait.kind trait.fixed _ c.args.values.now met.its_kind met.its_size in
    let e = c.array_size-size.ensures in
    not_admitted s v _ _ _ _ _ c.from_residual.ensures.1 at (computed (sym l) e.exact e.large)
    (no_element s.closed s.opened v (λ x e. cc)) c.len-had.ensures c.in_err-admit.ensures

pub truncate-requires : goal.truncate-requires
truncate-requires g c =
    let b = begun_back c.reserve.new.self _ c.put_array.new.sink c.in-Err.ensures.begun in
    let l = b.1 in
    let n = c.len-had.ensures ∙ ap length (sym c.reserve.ensures) in
    omega arith

pub returns-in-Err : goal.returns-in-Err
returns-in-Err g c s at =
    let trait = g.T.CanonicalFixedSizedPod in
    let met = g.met.T.CanonicalFixedSizedPod in
    let v = array trait.kind (map trait.fixed c.args.values.now) in
    let l = length-array_body trait.kind trait.fixed _ c.args.values.now met.its_kind met.its_size in
    let e = c.array_size-size.ensures in
    let b = begun_back c.reserve.new.self _ c.put_array.new.sink c.in-Err.ensures.begun in
    admitted_nomem s v _ (fields_of c.truncate.new.self c.args.frames.now) _ _ _ _ at (computed (sym l) e.exact e.large)
    c.len-had.ensures c.in_ok-admit.ensures refl
    (ap (λ k. fields_of k c.args.frames.now) (c.truncate.ensures
    ∙ ap (λ n. take n c.put_array.new.sink) (c.len-had.ensures ∙ ap length (sym c.reserve.ensures)) ∙ b.0 ∙ c.reserve.ensures))

pub returns-in-Ok : goal.returns-in-Ok
returns-in-Ok g c s at =
    let trait = g.T.CanonicalFixedSizedPod in
    let met = g.met.T.CanonicalFixedSizedPod in
    let v = array trait.kind (map trait.fixed c.args.values.now) in
    let l = length-array_body trait.kind trait.fixed _ c.args.values.now met.its_kind met.its_size in
    let e = c.array_size-size.ensures in
    admitted s v _ (fields_of c.put_array.new.sink c.fill.new.frames) _ _ _ _ _ at (computed (sym l) e.exact e.large)
    c.len-had.ensures c.in_ok-admit.ensures (c.in-Ok.ensures.ok ∙ ap (λ l. l ++ encoding_of v) c.reserve.ensures)
    c.fill.ensures c.innermost-innermost.ensures.last
