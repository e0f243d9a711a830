use Rattle.std.proofs.Common.{◌≡◌, ◌+◌, ◌-◌, ◌++◌, length, ap, sym, ◌∙◌, arith, length-append}
use Rattle.std.proofs.lemmas.Bool.{ne_eqb}
use Rattle.spa_format.specs.Words.{padding}
use Rattle.spa_format.specs.Encoding.{member_encodings, encoded_pod}
use Rattle.spa_builder.specs.Step.{closed_value}
use Rattle.spa_builder.specs.Fields.{BuilderFields, fields_of, all_so_far, body_so_far, frames_of, type_of_partial}
use Rattle.spa_builder.proofs.FrameLists.{length-frames_of}
use Rattle.spa_builder.proofs.Steps.{goes_ok, goes_nomem, goes_inval, closing_now, closes_is, closes_not, closes_other, is_value, is_no_value, is_closed, patched, is_nomem}
use Rattle.spa_builder.proofs.building.close.Goals as goal

pub returns-then-frame-len : goal.returns-then-frame-len
returns-then-frame-len c s at =
    let old : BuilderFields = fields_of c.args.bytes.now c.args.frames.now in
    let n : c.len.result ≡ length s.opened = c.len.ensures ∙ ap length at.frames
    ∙ length-frames_of (length (member_encodings s.closed)) s.opened in
    goes_inval _ _ old (closes_other s.closed s.opened c.args.frame
    (ne_eqb _ _ (λ e. c.if-frame-len.true (e ∙ sym n))))

pub returns-then-not-is_finished : goal.returns-then-not-is_finished
returns-then-not-is_finished c s at =
    let old : BuilderFields = fields_of c.args.bytes.now c.args.frames.now in
    let k = closing_now _ _ (s, at) c.in-Some.ensures.last in
    let none = is_no_value (closed_value k.0) (sym (c.is_finished.ensures k.0 k.2.what)
    ∙ c.if-not-is_finished.true) in
    goes_inval _ _ old (closes_not s.closed s.opened k.0 k.1 c.args.frame k.2.opened none)

pub overflow_add-size : goal.overflow_add-size
overflow_add-size c =
    let k = closing_now _ _ c.requires c.in-Some.ensures.last in
    let l = k.2.long in
    let e : c.len-2.result ≡ length c.args.bytes.now = c.len-2.ensures in
    let f = c.len-2.type_inv in
    omega arith

pub overflow_sub-size : goal.overflow_sub-size
overflow_sub-size c =
    let k = closing_now _ _ c.requires c.in-Some.ensures.last in
    let l = k.2.long in
    let e : c.len-2.result ≡ length c.args.bytes.now = c.len-2.ensures in
    omega arith

pub overflow_cast-size : goal.overflow_cast-size
overflow_cast-size c =
    let k = closing_now _ _ c.requires c.in-Some.ensures.last in
    let l = k.2.small in
    let z = k.2.size in
    let e : c.len-2.result ≡ length c.args.bytes.now = c.len-2.ensures in
    omega arith

pub patch-requires : goal.patch-requires
patch-requires c =
    let k = closing_now _ _ c.requires c.in-Some.ensures.last in
    let l = k.2.long in
    let p = ap length c.in_ok-put_padding.ensures.ok
    ∙ length-append c.args.bytes.now (padding (c.len-2.result - (c.in-Some.open.start + 8))) in
    omega arith

pub pop-requires : goal.pop-requires
pop-requires c =
    let s = c.requires.0 in
    let at = c.requires.1 in
    let base = length (member_encodings s.closed) in
    let k = closing_now _ _ (s, at) c.in-Some.ensures.last in
    (base, k.0, k.1, at.frames ∙ ap (frames_of base) k.2.opened)

pub returns-in_err-put_padding : goal.returns-in_err-put_padding
returns-in_err-put_padding c s at =
    let old : BuilderFields = fields_of c.args.bytes.now c.args.frames.now in
    let n : c.len.result ≡ length s.opened = c.len.ensures ∙ ap length at.frames
    ∙ length-frames_of (length (member_encodings s.closed)) s.opened in
    let k = closing_now _ _ (s, at) c.in-Some.ensures.last in
    let v = is_value (closed_value k.0) (sym (c.is_finished.ensures k.0 k.2.what)
    ∙ c.if-not-is_finished.false) in
    goes_nomem _ _ old _ c.from_residual.result
    (closes_is s.closed s.opened k.0 k.1 c.args.frame v.0 k.2.opened (c.if-frame-len.false ∙ n)
    v.1 k.2.takes) (is_nomem c.from_residual.result _ c.from_residual.ensures.1
    c.in_err-put_padding.ensures.memory)
    (ap (λ l. fields_of l c.args.frames.now) c.in_err-put_padding.ensures.unchanged)

pub returns : goal.returns
returns c s at =
    let old : BuilderFields = fields_of c.args.bytes.now c.args.frames.now in
    let new : BuilderFields = fields_of c.patch.new.self c.fill.new.frames in
    let n : c.len.result ≡ length s.opened = c.len.ensures ∙ ap length at.frames
    ∙ length-frames_of (length (member_encodings s.closed)) s.opened in
    let k = closing_now _ _ (s, at) c.in-Some.ensures.last in
    let v = is_value (closed_value k.0) (sym (c.is_finished.ensures k.0 k.2.what)
    ∙ c.if-not-is_finished.false) in
    let front = member_encodings s.closed ++ all_so_far k.1 in
    let e : c.len-2.result ≡ length c.args.bytes.now = c.len-2.ensures in
    let size : c.len-2.result - (c.in-Some.open.start + 8) ≡ length (body_so_far k.0) =
    ap (λ l. l - (c.in-Some.open.start + 8)) e ∙ k.2.size in
    let padded_size = c.in_ok-put_padding.ensures.ok
    ∙ ap (λ l. l ++ padding (c.len-2.result - (c.in-Some.open.start + 8))) k.2.bytes in
    let bytes : new.bytes ≡ front ++ encoded_pod (type_of_partial k.0) (body_so_far k.0) =
    c.patch.ensures ∙ patched front (body_so_far k.0) c.put_padding.new.bytes
    (type_of_partial k.0) _ c.in-Some.open.start k.2.start size padded_size in
    let popped = c.pop.ensures (length (member_encodings s.closed)) k.0 k.1
    (at.frames ∙ ap (frames_of (length (member_encodings s.closed))) k.2.opened) in
    goes_ok _ _ old new _ (closes_is s.closed s.opened k.0 k.1 c.args.frame v.0 k.2.opened
    (c.if-frame-len.false ∙ n) v.1 k.2.takes)
    (is_closed old new s c.in-Some.open k.0 k.1 v.0 k.2 v.1 bytes
    (c.fill.ensures (length (member_encodings s.closed)) k.1 v.0 k.2.takes popped
    (c.innermost-outer.ensures.last (length (member_encodings s.closed)) k.1 popped)))
