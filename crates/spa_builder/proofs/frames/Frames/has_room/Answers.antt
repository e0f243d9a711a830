use Rattle.std.proofs.Common.{◌≡◌, sym, ◌∙◌, arith, false}
use Rattle.spa_builder.specs.Framed.{is_nothing}
use Rattle.spa_builder.proofs.Kept.{outermost_kept, room_kept, Outermost}
use Rattle.spa_builder.proofs.Sizes.{small_now}
use Rattle.spa_builder.proofs.frames.Frames.has_room.Goals as goal

pub overflow_add-result : goal.overflow_add-result
overflow_add-result c =
    let w = c.requires.within in
    let h : is_nothing c.self.inside.innermost.what ≡ false = sym c.is_nothing.ensures
    ∙ c.if-is_nothing.false in
    let o = outermost_kept _ _ _ _ w.0 w.1 c.self.invariant h (c.self.view_is ∙ w.2) in
    let p = o.place in
    let e = w.3 in
    let m = c.requires.more in
    let k = small_now w.1 o.some w.4 in
    let l = o.low in
    omega arith

pub returns : goal.returns
returns c base ps e f =
    let h : is_nothing c.self.inside.innermost.what ≡ false = sym c.is_nothing.ensures
    ∙ c.if-is_nothing.false in
    let o : Outermost c.self.inside.first c.self.inside.end base ps =
    outermost_kept _ _ _ _ base ps c.self.invariant h (c.self.view_is ∙ e) in
    let p = o.place in
    room_kept _ _ base ps c.args.more _ o (omega arith)
