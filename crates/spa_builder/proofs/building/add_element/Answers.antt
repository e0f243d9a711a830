use Rattle.std.proofs.Common.{◌≡◌, ◌-◌, ◌∷◌, ◌++◌, false, true, length, ap, sym, ◌∙◌, arith, subst, length-append}
use Rattle.std.proofs.lemmas.Bool.{and_right}
use Rattle.spa_format.specs.Encoding.{member_encodings}
use Rattle.spa_format.specs.Tree.{fixed}
use Rattle.spa_format.proofs.FixedKinds.{length-fixed_body}
use Rattle.spa_builder.specs.Step.{state_with_value}
use Rattle.spa_builder.specs.Fields.{BuilderFields, fields_of, IsNested, frames_of, all_so_far, so_far}
use Rattle.spa_builder.specs.Innermost.{has_room_for, has_elements, takes_elements, takes_element, with_element}
use Rattle.spa_builder.proofs.Steps.{sized_goes, sized_nomem, sized_nospc, sized_inval, has_its_room, base_and_more, is_nomem, closing_now}
use Rattle.spa_builder.proofs.Members.{element_fit, element_placed, element_not, element_bytes, is_element, small_body}
use Rattle.spa_builder.proofs.building.add_element.Goals as goal

pub has_room-requires-clause-within : goal.has_room-requires-clause-within
has_room-requires-clause-within c = has_its_room (fields_of c.args.bytes.now c.args.frames.now) _ c.requires.holds c.len.ensures

pub returns-then-not-takes_element : goal.returns-then-not-takes_element
returns-then-not-takes_element c s x at ty b el =
    let old : BuilderFields = fields_of c.args.bytes.now c.args.frames.now in
    let z = closing_now _ _ (s, at) c.in-Some.ensures.last in
    let p = z.0 in
    let ps = z.1 in
    let k = z.2 in
    let h : has_elements p ≡ true = ap takes_elements (sym k.opened) ∙ el in
    let len = ap length b in
    let t : takes_element p x ≡ false = sym (c.takes_element.ensures p x k.what (sym ty))
    ∙ c.if-not-takes_element.true in
    sized_inval _ _ _ old (ap (λ l. state_with_value s.closed l (fixed x)) k.opened
    ∙ element_not s.closed p ps x h t)

pub returns-then-not-has_room : goal.returns-then-not-has_room
returns-then-not-has_room c s x at ty b el =
    let old : BuilderFields = fields_of c.args.bytes.now c.args.frames.now in
    let base = length (member_encodings s.closed) in
    let z = closing_now _ _ (s, at) c.in-Some.ensures.last in
    let p = z.0 in
    let ps = z.1 in
    let k = z.2 in
    let h : has_elements p ≡ true = ap takes_elements (sym k.opened) ∙ el in
    let nested : IsNested (p ∷ ps) = subst IsNested k.opened at.nested in
    let len = ap length b in
    let t : takes_element p x ≡ true = sym (c.takes_element.ensures p x k.what (sym ty))
    ∙ c.if-not-takes_element.false in
    let is = ap (λ l. state_with_value s.closed l (fixed x)) k.opened ∙ element_placed s.closed p ps x h t in
    let room = sym (c.has_room.ensures base s.opened (at.frames)
    (c.len.ensures ∙ base_and_more old s at)) ∙ c.if-not-has_room.true in
    let fit = element_fit p ps x _ (sym len) h t nested
    ∙ ap (has_room_for (length c.args.body.now)) (sym k.opened) ∙ room in
    sized_nospc _ _ _ (record { closed = s.closed; opened = with_element p x ∷ ps }) old is
    (and_right _ _ fit)

pub returns-in_err-append : goal.returns-in_err-append
returns-in_err-append c s x at ty b el =
    let old : BuilderFields = fields_of c.args.bytes.now c.args.frames.now in
    let base = length (member_encodings s.closed) in
    let z = closing_now _ _ (s, at) c.in-Some.ensures.last in
    let p = z.0 in
    let ps = z.1 in
    let k = z.2 in
    let h : has_elements p ≡ true = ap takes_elements (sym k.opened) ∙ el in
    let nested : IsNested (p ∷ ps) = subst IsNested k.opened at.nested in
    let len = ap length b in
    let one = small_body x _ len c.requires.body in
    let t : takes_element p x ≡ true = sym (c.takes_element.ensures p x k.what (sym ty))
    ∙ c.if-not-takes_element.false in
    let is = ap (λ l. state_with_value s.closed l (fixed x)) k.opened ∙ element_placed s.closed p ps x h t in
    let room = sym (c.has_room.ensures base s.opened (at.frames)
    (c.len.ensures ∙ base_and_more old s at)) ∙ c.if-not-has_room.false in
    let fit = element_fit p ps x _ (sym len) h t nested
    ∙ ap (has_room_for (length c.args.body.now)) (sym k.opened) ∙ room in
    sized_nomem _ _ (record { closed = s.closed; opened = with_element p x ∷ ps }) old _ _ one is
    fit (is_nomem c.from_residual.result _ c.from_residual.ensures.1
    c.in_err-append.ensures.memory)
    (ap (λ l. fields_of l c.args.frames.now) c.in_err-append.ensures.unchanged)

pub overflow_sub-had : goal.overflow_sub-had
overflow_sub-had c =
    let k = closing_now _ _ c.requires.holds c.in-Some.ensures.last in
    let l = k.2.long in
    let e : c.len-had.result ≡ length c.args.bytes.now = c.len-had.ensures in
    omega arith

pub set_child-requires : goal.set_child-requires
set_child-requires c =
    let k = closing_now _ _ c.requires.holds c.in-Some.ensures.last in
    let l = k.2.long in
    let e : c.len-had.result ≡ length c.args.bytes.now = c.len-had.ensures in
    let f = ap length c.in_ok-append.ensures.ok ∙ length-append c.args.bytes.now c.args.body.now in
    omega arith

pub returns : goal.returns
returns c s x at ty b el =
    let old : BuilderFields = fields_of c.args.bytes.now c.args.frames.now in
    let base = length (member_encodings s.closed) in
    let z = closing_now _ _ (s, at) c.in-Some.ensures.last in
    let p = z.0 in
    let ps = z.1 in
    let k = z.2 in
    let h : has_elements p ≡ true = ap takes_elements (sym k.opened) ∙ el in
    let nested : IsNested (p ∷ ps) = subst IsNested k.opened at.nested in
    let len = ap length b in
    let one = small_body x _ len c.requires.body in
    let t : takes_element p x ≡ true = sym (c.takes_element.ensures p x k.what (sym ty))
    ∙ c.if-not-takes_element.false in
    let is = ap (λ l. state_with_value s.closed l (fixed x)) k.opened ∙ element_placed s.closed p ps x h t in
    let room = sym (c.has_room.ensures base s.opened (at.frames)
    (c.len.ensures ∙ base_and_more old s at)) ∙ c.if-not-has_room.false in
    let fit = element_fit p ps x _ (sym len) h t nested
    ∙ ap (has_room_for (length c.args.body.now)) (sym k.opened) ∙ room in
    let front = member_encodings s.closed ++ all_so_far ps in
    let new : BuilderFields = fields_of c.set_child.new.bytes c.set_innermost.new.self in
    let had : c.len-had.result ≡ length c.args.bytes.now = c.len-had.ensures in
    let mid = c.in_ok-append.ensures.ok ∙ ap (λ l. l ++ c.args.body.now) k.bytes
    ∙ ap (λ l. (front ++ so_far p) ++ l) (sym b) in
    let size = sym len ∙ length-fixed_body x in
    let bytes = element_bytes p x front c.append.new.self c.set_child.new.bytes
    (c.len-had.result - 8) (length c.args.body.now) c.args.type_ c.is_first.result (sym ty) h
    (c.is_first.ensures p k.what) mid (ap (λ n. n - 8) (had ∙ ap length k.bytes)) size
    c.set_child.ensures.first c.set_child.ensures.later in
    let frames = c.set_innermost.ensures base p (with_element p x) ps
    (at.frames ∙ ap (frames_of base) k.opened)
    (c.with_element.ensures.with p x k.what (sym ty) t) in
    sized_goes _ _ (record { closed = s.closed; opened = with_element p x ∷ ps }) old new _ one is
    fit
    (is_element new s.closed p ps x nested t bytes frames fit)
