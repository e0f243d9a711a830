use Rattle.std.proofs.Common.{◌+◌, ◌++◌, refl, length, take, ap, sym, ◌∙◌, arith}
use Rattle.spa_format.specs.Encoding.{encoding_of, member_encodings}
use Rattle.spa_format.specs.Tree.{array}
use Rattle.spa_format.proofs.Elements.{array_length, elements_length}
use Rattle.spa_builder.specs.Fields.{fields_of}
use Rattle.spa_builder.proofs.Bodies.{grown_back}
use Rattle.spa_builder.proofs.Steps.{has_its_room, base_and_more, no_element}
use Rattle.spa_builder.proofs.Placing.{exactly, not_admitted, admitted_nomem, admitted}
use Rattle.spa_builder.proofs.building.add_bodies.Goals as goal

pub admit-requires : goal.admit-requires
admit-requires g c = has_its_room (fields_of c.args.bytes.now c.args.frames.now) _ c.requires.holds c.len-had.ensures

pub put_bodies-requires : goal.put_bodies-requires
put_bodies-requires g c =
    let s = c.requires.holds.0 in
    let at = c.requires.holds.1 in
    let a = c.in_ok-admit.ensures (length (member_encodings s.closed)) s.opened at.frames
    (c.len-had.ensures ∙ base_and_more (fields_of c.args.bytes.now c.args.frames.now) s at) in
    record { whole = c.requires.whole; small = a.1 }

pub returns-in_err-admit : goal.returns-in_err-admit
returns-in_err-admit g c s xs at e =
    let kind = g.T.CanonicalFixedSizedPod.kind in
    let l = array_length kind xs ∙ ap (λ n. 8 + n) (elements_length _ xs c.args.bodies.now e) in
    not_admitted s (array kind xs) _ _ _ _ _ c.from_residual.ensures.1 at (exactly (sym l))
    (no_element s.closed s.opened (array kind xs) (λ x e. cc)) c.len-had.ensures c.in_err-admit.ensures

pub truncate-requires : goal.truncate-requires
truncate-requires g c =
    let b = grown_back c.reserve.new.self c.put_bodies.new.bytes c.put_bodies.ensures.grown in
    let l = b.1 in
    let n = c.len-had.ensures ∙ ap length (sym c.reserve.ensures) in
    omega arith

pub returns-in-Err : goal.returns-in-Err
returns-in-Err g c s xs at e =
    let kind = g.T.CanonicalFixedSizedPod.kind in
    let l = array_length kind xs ∙ ap (λ n. 8 + n) (elements_length _ xs c.args.bodies.now e) in
    let b = grown_back c.reserve.new.self c.put_bodies.new.bytes c.put_bodies.ensures.grown in
    admitted_nomem s (array kind xs) _ (fields_of c.truncate.new.self c.args.frames.now) _ _ _ _ at (exactly (sym l))
    c.len-had.ensures c.in_ok-admit.ensures refl
    (ap (λ k. fields_of k c.args.frames.now) (c.truncate.ensures
    ∙ ap (λ n. take n c.put_bodies.new.bytes) (c.len-had.ensures ∙ ap length (sym c.reserve.ensures)) ∙ b.0 ∙ c.reserve.ensures))

pub returns-in-Ok : goal.returns-in-Ok
returns-in-Ok g c s xs at e =
    let kind = g.T.CanonicalFixedSizedPod.kind in
    let l = array_length kind xs ∙ ap (λ n. 8 + n) (elements_length _ xs c.args.bodies.now e) in
    admitted s (array kind xs) _ (fields_of c.put_bodies.new.bytes c.fill.new.frames) _ _ _ _ _ at (exactly (sym l))
    c.len-had.ensures c.in_ok-admit.ensures
    (c.in-Ok.ensures.ok xs e ∙ ap (λ l. l ++ encoding_of (array kind xs)) c.reserve.ensures)
    c.fill.ensures c.innermost-innermost.ensures.last
