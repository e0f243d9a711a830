use Rattle.std.proofs.Common.{◌≡◌, length, ap, sym, ◌∙◌, arith}
use Rattle.std.proofs.lemmas.Bool.{ne_eqb}
use Rattle.spa_format.specs.Encoding.{member_encodings}
use Rattle.spa_builder.specs.Fields.{BuilderFields, fields_of, frames_of}
use Rattle.spa_builder.proofs.FrameLists.{length-frames_of}
use Rattle.spa_builder.proofs.Leaving.{abandoned_is, abandoned_other, is_without}
use Rattle.spa_builder.proofs.Steps.{closing_now, goes_inval, goes_ok}
use Rattle.spa_builder.proofs.building.leave.Goals as goal

pub returns-then-len-frame : goal.returns-then-len-frame
returns-then-len-frame c s at =
    let old : BuilderFields = fields_of c.args.bytes.now c.args.frames.now in
    let n : c.len.result ≡ length s.opened = c.len.ensures ∙ ap length at.frames
    ∙ length-frames_of (length (member_encodings s.closed)) s.opened in
    goes_inval _ _ old (abandoned_other s.closed s.opened c.args.frame
    (ne_eqb _ _ (λ e. c.if-len-frame.true (sym (e ∙ sym n)))))

pub truncate-requires : goal.truncate-requires
truncate-requires c =
    let k = closing_now _ _ c.requires c.in-Some.ensures.last in
    let l = k.2.long in
    omega arith

pub pop-requires : goal.pop-requires
pop-requires c =
    let s = c.requires.0 in
    let at = c.requires.1 in
    let base = length (member_encodings s.closed) in
    let k = closing_now _ _ (s, at) c.in-Some.ensures.last in
    (base, k.0, k.1, at.frames ∙ ap (frames_of base) k.2.opened)

pub returns : goal.returns
returns c s at =
    let old : BuilderFields = fields_of c.args.bytes.now c.args.frames.now in
    let new : BuilderFields = fields_of c.truncate.new.self c.pop.new.self in
    let base = length (member_encodings s.closed) in
    let n : c.len.result ≡ length s.opened = c.len.ensures ∙ ap length at.frames
    ∙ length-frames_of base s.opened in
    let k = closing_now _ _ (s, at) c.in-Some.ensures.last in
    let popped = c.pop.ensures base k.0 k.1 (at.frames ∙ ap (frames_of base) k.2.opened) in
    goes_ok _ _ old new _
    (abandoned_is s.closed s.opened k.0 k.1 c.args.frame k.2.opened (sym c.if-len-frame.false ∙ n))
    (is_without old new s c.in-Some.open k.0 k.1 k.2 c.truncate.ensures popped)
