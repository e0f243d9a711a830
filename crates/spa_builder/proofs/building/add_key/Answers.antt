use Rattle.std.proofs.Common.{◌∷◌, ◌++◌, true, length, ap, sym, refl, ◌∙◌, subst}
use Rattle.spa_format.specs.Encoding.{member_encodings}
use Rattle.spa_builder.specs.State.{open_object, open_property}
use Rattle.spa_builder.specs.Step.{state_with_key}
use Rattle.spa_builder.specs.Fields.{BuilderFields, fields_of, IsNested, frames_of, all_so_far}
use Rattle.spa_builder.specs.Innermost.{has_room_for}
use Rattle.spa_builder.proofs.Steps.{sized_goes, sized_nomem, sized_nospc, sized_inval, takes_key_is, keyed_not, keyed_fit, is_keyed, has_its_room, base_and_more, is_nomem}
use Rattle.spa_builder.proofs.building.add_key.Goals as goal

pub has_room-requires-clause-within : goal.has_room-requires-clause-within
has_room-requires-clause-within c = has_its_room (fields_of c.args.bytes.now c.args.frames.now) _ c.requires c.len.ensures

pub returns-then-not-has_room : goal.returns-then-not-has_room
returns-then-not-has_room c s at =
    let old : BuilderFields = fields_of c.args.bytes.now c.args.frames.now in
    let base = length (member_encodings s.closed) in
    let key = c.args.key in
    let flags = c.args.flags in
    let t = takes_key_is s.opened
    (sym (c.takes_key.ensures base s.opened
    (c.innermost.ensures.last base s.opened (at.frames))) ∙ c.if-not-takes_key.false) in
    let room = sym (c.has_room.ensures base s.opened (at.frames)
    (c.len.ensures ∙ base_and_more old s at)) ∙ c.if-not-has_room.true in
    let fit = keyed_fit t.0 t.1 t.2 key flags t.3 (subst IsNested t.4 at.nested)
    ∙ ap (has_room_for 8) (sym t.4) ∙ room in
    sized_nospc _ true _ (record
    { closed = s.closed; opened = open_property t.0 t.1 t.2 key flags ∷ t.3 }) old
    (ap (λ l. state_with_key s.closed l key flags) t.4) fit

pub returns-in_err-append_array : goal.returns-in_err-append_array
returns-in_err-append_array c s at =
    let old : BuilderFields = fields_of c.args.bytes.now c.args.frames.now in
    let base = length (member_encodings s.closed) in
    let key = c.args.key in
    let flags = c.args.flags in
    let t = takes_key_is s.opened
    (sym (c.takes_key.ensures base s.opened
    (c.innermost.ensures.last base s.opened (at.frames))) ∙ c.if-not-takes_key.false) in
    let room = sym (c.has_room.ensures base s.opened (at.frames)
    (c.len.ensures ∙ base_and_more old s at)) ∙ c.if-not-has_room.false in
    let fit = keyed_fit t.0 t.1 t.2 key flags t.3 (subst IsNested t.4 at.nested)
    ∙ ap (has_room_for 8) (sym t.4) ∙ room in
    sized_nomem true _ (record
    { closed = s.closed; opened = open_property t.0 t.1 t.2 key flags ∷ t.3 }) old _ _ refl
    (ap (λ l. state_with_key s.closed l key flags) t.4) fit
    (is_nomem c.from_residual.result _ c.from_residual.ensures.1
    c.in_err-append_array.ensures.memory)
    (ap (λ l. fields_of l c.args.frames.now) c.in_err-append_array.ensures.unchanged)

pub returns : goal.returns
returns c s at =
    let old : BuilderFields = fields_of c.args.bytes.now c.args.frames.now in
    let base = length (member_encodings s.closed) in
    let key = c.args.key in
    let flags = c.args.flags in
    let t = takes_key_is s.opened
    (sym (c.takes_key.ensures base s.opened
    (c.innermost.ensures.last base s.opened (at.frames))) ∙ c.if-not-takes_key.false) in
    let room = sym (c.has_room.ensures base s.opened (at.frames)
    (c.len.ensures ∙ base_and_more old s at)) ∙ c.if-not-has_room.false in
    let fit = keyed_fit t.0 t.1 t.2 key flags t.3 (subst IsNested t.4 at.nested)
    ∙ ap (has_room_for 8) (sym t.4) ∙ room in
    let frames = c.set_stage.ensures base (open_object t.0 t.1 t.2)
    (open_property t.0 t.1 t.2 key flags) t.3 (at.frames ∙ ap (frames_of base) t.4) refl in
    sized_goes true _ (record
    { closed = s.closed; opened = open_property t.0 t.1 t.2 key flags ∷ t.3 }) old
    (fields_of c.append_array.new.self c.set_stage.new.self) _ refl
    (ap (λ l. state_with_key s.closed l key flags) t.4) fit
    (is_keyed (fields_of c.append_array.new.self c.set_stage.new.self) s.closed t.0 t.1 t.2 key flags
    t.3 old.bytes (at.bytes ∙ ap (λ l. member_encodings s.closed ++ all_so_far l) t.4)
    (subst IsNested t.4 at.nested) (c.in_ok-append_array.ensures.ok
    ∙ ap (λ l. c.args.bytes.now ++ l) c.two_words.ensures) frames fit)

pub returns-then-not-takes_key : goal.returns-then-not-takes_key
returns-then-not-takes_key c s at =
    let old : BuilderFields = fields_of c.args.bytes.now c.args.frames.now in
    let base = length (member_encodings s.closed) in
    sized_inval _ true _ old (keyed_not s.closed s.opened c.args.key c.args.flags
    (sym (c.takes_key.ensures base s.opened
    (c.innermost.ensures.last base s.opened (at.frames))) ∙ c.if-not-takes_key.true))
