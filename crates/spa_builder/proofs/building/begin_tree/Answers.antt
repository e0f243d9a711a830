use Rattle.std.proofs.Common.{◌≡◌, ◌+◌, ◌*◌, ◌++◌, ◌∷◌, [], Err, false, true, length, ap, sym, refl, ◌∙◌, arith, length-append}
use Rattle.spa_format.specs.Encoding.{member_encodings}
use Rattle.spa_builder.specs.Step.{takes_trees, all_fit}
use Rattle.spa_builder.specs.Fields.{BuilderFields, fields_of, so_far}
use Rattle.spa_builder.proofs.FrameLists.{length-frames_of}
use Rattle.spa_builder.proofs.Steps.{sized_goes, sized_nomem, sized_nospc, begun_is, begun_fit, is_begun, has_its_room, base_and_more}
use Rattle.spa_builder.proofs.Placing.{passed}
use Rattle.spa_builder.proofs.building.begin_tree.Goals as goal

pub has_room-requires-clause-within : goal.has_room-requires-clause-within
has_room-requires-clause-within g c = has_its_room (fields_of c.args.bytes.now c.args.frames.now) _ c.requires.holds c.place-start.ensures.at

pub returns-then-not-has_room-clause-step : goal.returns-then-not-has_room-clause-step
returns-then-not-has_room-clause-step g c s p at w b f =
    let old : BuilderFields = fields_of c.args.bytes.now c.args.frames.now in
    let base = length (member_encodings s.closed) in
    let takes : takes_trees s.opened ≡ true =
    sym (c.takes_trees.ensures base s.opened (c.innermost.ensures.last base s.opened at.frames))
    ∙ c.if-not-takes_trees.false in
    let n = c.requires.head in
    let l : length (so_far p) ≡ 8 + 8 * n.0 = ap length (sym b) ∙ c.requires.size ∙ n.2 in
    let fit : all_fit 0 (p ∷ s.opened) ≡ false =
    begun_fit p s old n.0 _ n.1 l (sym c.requires.size ∙ ap length b) f takes at
    ∙ sym (c.has_room.ensures base s.opened at.frames
    (c.place-start.ensures.at ∙ base_and_more old s at))
    ∙ c.if-not-has_room.true in
    sized_nospc _ true _ _ old (begun_is s p takes) fit

pub returns-in_err-push-clause-step : goal.returns-in_err-push-clause-step
returns-in_err-push-clause-step g c s p at w b f =
    let old : BuilderFields = fields_of c.args.bytes.now c.args.frames.now in
    let base = length (member_encodings s.closed) in
    let takes : takes_trees s.opened ≡ true =
    sym (c.takes_trees.ensures base s.opened (c.innermost.ensures.last base s.opened at.frames))
    ∙ c.if-not-takes_trees.false in
    let n = c.requires.head in
    let l : length (so_far p) ≡ 8 + 8 * n.0 = ap length (sym b) ∙ c.requires.size ∙ n.2 in
    let fit : all_fit 0 (p ∷ s.opened) ≡ true =
    begun_fit p s old n.0 _ n.1 l (sym c.requires.size ∙ ap length b) f takes at
    ∙ sym (c.has_room.ensures base s.opened at.frames
    (c.place-start.ensures.at ∙ base_and_more old s at))
    ∙ c.if-not-has_room.false in
    sized_nomem true _ _ old _ _ refl (begun_is s p takes) fit
    (passed _ _ c.from_residual.ensures.1 ∙ ap (λ e. Err e) c.in_err-push.ensures.memory)
    (ap (λ l. fields_of l c.push.new.self) c.in_err-push.ensures.unchanged.1
    ∙ ap (λ l. fields_of c.args.bytes.now l) c.in_err-push.ensures.unchanged.0)

pub returns-clause-step : goal.returns-clause-step
returns-clause-step g c s p at w b f =
    let old : BuilderFields = fields_of c.args.bytes.now c.args.frames.now in
    let base = length (member_encodings s.closed) in
    let takes : takes_trees s.opened ≡ true =
    sym (c.takes_trees.ensures base s.opened (c.innermost.ensures.last base s.opened at.frames))
    ∙ c.if-not-takes_trees.false in
    let n = c.requires.head in
    let l : length (so_far p) ≡ 8 + 8 * n.0 = ap length (sym b) ∙ c.requires.size ∙ n.2 in
    let fit : all_fit 0 (p ∷ s.opened) ≡ true =
    begun_fit p s old n.0 _ n.1 l (sym c.requires.size ∙ ap length b) f takes at
    ∙ sym (c.has_room.ensures base s.opened at.frames
    (c.place-start.ensures.at ∙ base_and_more old s at))
    ∙ c.if-not-has_room.false in
    let new : BuilderFields = fields_of c.push.new.bytes c.push.new.self in
    let written = c.in_ok-push.ensures.appended ∙ ap (λ l. c.args.bytes.now ++ l) b in
    let pushed =
    c.in_ok-push.ensures.ok
    ∙ ap (λ x. c.args.frames.now ++ (record { start = c.place-start.result; what = x }) ∷ []) w in
    sized_goes true _ _ old new _ refl (begun_is s p takes) fit
    (is_begun old new s p c.place-start.result at f takes c.place-start.ensures.at written pushed fit)

pub returns-clause-frame : goal.returns-clause-frame
returns-clause-frame g c s at =
    let e = c.len.ensures in
    let e1 =
    ap length c.in_ok-push.ensures.ok
    ∙ length-append c.args.frames.now
    ((record { start = c.place-start.result; what = c.args.what }) ∷ []) in
    let e2 = ap length at.frames ∙ length-frames_of (length (member_encodings s.closed)) s.opened in
    omega arith
