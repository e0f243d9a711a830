use Rattle.std.proofs.Common.{◌≡◌, false, true, length, take, refl, ap, sym, ◌∙◌, arith}
use Rattle.std.proofs.lemmas.List.{take_at}
use Rattle.spa_format.specs.Tree.{type_of}
use Rattle.spa_format.proofs.Back.{body_fits}
use Rattle.spa_format.proofs.Encodings.{length-encoded_pod}
use Rattle.spa_format.specs.Encoding.{encoded_body, encoding_of, member_encodings}
use Rattle.spa_value.specs.View.{view}
use Rattle.spa_builder.specs.Fields.{BuilderFields, fields_of}
use Rattle.spa_builder.specs.Step.{takes_trees}
use Rattle.spa_builder.specs.Innermost.{has_room_for}
use Rattle.spa_builder.proofs.Placing.{passed}
use Rattle.spa_builder.proofs.Steps.{base_and_more, has_its_room, no_element}
use Rattle.spa_builder.proofs.Valued.{made_value, misplaced, value_added, value_beyond, value_refused}
use Rattle.spa_builder.proofs.values.add_written.Goals as goal

pub has_room-requires-clause-within : goal.has_room-requires-clause-within
has_room-requires-clause-within c = has_its_room (fields_of c.args.bytes.now c.args.frames.now) _ c.requires.holds c.len-had.ensures

pub returns-then-not-takes_trees : goal.returns-then-not-takes_trees
returns-then-not-takes_trees c s at =
    let old : BuilderFields = fields_of c.args.bytes.now c.args.frames.now in
    let v = view c.args.value.now in
    let t : takes_trees s.opened ≡ false = sym (c.takes_trees.ensures
    (length (member_encodings s.closed)) s.opened
    (c.innermost-innermost.ensures.last (length (member_encodings s.closed)) s.opened at.frames))
    ∙ c.if-not-takes_trees.true in
    made_value s v old old _
    (misplaced s v old (no_element s.closed s.opened v c.requires.long t))

pub returns-in_err-len : goal.returns-in_err-len
returns-in_err-len c s at =
    let old : BuilderFields = fields_of c.args.bytes.now c.args.frames.now in
    let v = view c.args.value.now in
    let base = length (member_encodings s.closed) in
    let inner = c.innermost-innermost.ensures.last base s.opened at.frames in
    let t : takes_trees s.opened ≡ true = sym (c.takes_trees.ensures base s.opened inner)
    ∙ c.if-not-takes_trees.false in
    value_refused s v old (fields_of c.put_value.new.bytes c.args.frames.now) c.from_residual.result _ t
    (passed _ _ c.from_residual.ensures.1)
    (ap (λ l. fields_of l c.args.frames.now) c.in_err-len.ensures.unchanged) c.in_err-len.ensures.refused

pub has_room-requires-clause-more : goal.has_room-requires-clause-more
has_room-requires-clause-more c =
    let v = view c.args.value.now in
    let l = body_fits v c.in_ok-len.ensures.writable.fits in
    let n = c.in_ok-len.ensures.length in
    let f = length-encoded_pod (type_of v) (encoded_body v) in
    omega arith

pub returns-then-not-has_room : goal.returns-then-not-has_room
returns-then-not-has_room c s at =
    let old : BuilderFields = fields_of c.args.bytes.now c.args.frames.now in
    let new : BuilderFields = fields_of c.truncate.new.self c.args.frames.now in
    let v = view c.args.value.now in
    let base = length (member_encodings s.closed) in
    let inner = c.innermost-innermost.ensures.last base s.opened at.frames in
    let t : takes_trees s.opened ≡ true = sym (c.takes_trees.ensures base s.opened inner)
    ∙ c.if-not-takes_trees.false in
    let w = c.in_ok-len.ensures.writable in
    let room = ap (λ n. has_room_for n s.opened) (sym c.in_ok-len.ensures.length)
    ∙ sym (c.has_room.ensures base s.opened at.frames (c.len-had.ensures ∙ base_and_more old s at))
    ∙ c.if-not-has_room.true in
    let same = c.truncate.ensures ∙ ap (λ n. take n c.put_value.new.bytes) c.len-had.ensures
    ∙ ap (take (length c.args.bytes.now)) c.in_ok-len.ensures.put
    ∙ take_at c.args.bytes.now (encoding_of v) (length c.args.bytes.now) refl in
    made_value s v old new _
    (value_beyond s v old new at t w room (ap (λ l. fields_of l c.args.frames.now) same))

pub returns : goal.returns
returns c s at =
    let old : BuilderFields = fields_of c.args.bytes.now c.args.frames.now in
    let new : BuilderFields = fields_of c.put_value.new.bytes c.fill.new.frames in
    let v = view c.args.value.now in
    let base = length (member_encodings s.closed) in
    let inner = c.innermost-innermost.ensures.last base s.opened at.frames in
    let t : takes_trees s.opened ≡ true = sym (c.takes_trees.ensures base s.opened inner)
    ∙ c.if-not-takes_trees.false in
    let w = c.in_ok-len.ensures.writable in
    let room = ap (λ n. has_room_for n s.opened) (sym c.in_ok-len.ensures.length)
    ∙ sym (c.has_room.ensures base s.opened at.frames (c.len-had.ensures ∙ base_and_more old s at))
    ∙ c.if-not-has_room.false in
    made_value s v old new _
    (value_added s v old new _ at t w room c.in_ok-len.ensures.put
    (c.fill.ensures base s.opened v t at.frames inner))
