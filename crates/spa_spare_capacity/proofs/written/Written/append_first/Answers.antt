use Rattle.std.proofs.Common.{◌≡◌, ◌+◌, ◌-◌, ◌++◌, length, take, drop, ap, ◌∙◌, arith, length-take, length-drop}
use borrow.Rule.Slice.PartMut.{Post-is}
use Rattle.std.proofs.lemmas.List.{with_items_is}
use Rattle.spa_spare_capacity.proofs.Pieces.{length-over, take_into}
use Rattle.spa_spare_capacity.proofs.written.Written.append_first.Goals as goal

pub returns-clause-ok : goal.returns-clause-ok
returns-clause-ok g c =
    let d = c.deref_mut.result.now in
    let n = c.self.inside.count in
    let back = drop (n + g.row.N - n) (drop n d) in
    let new = c.copy_from_slice.new.self in
    let v = c.deref_mut.ensures.value in
    let room = c.in_ok-make_room.ensures.room in
    let within = c.make_room.ensures.within in
    let lv = ap length v in
    let m0 = c.copy_from_slice.ensures.len in
    let m1 = length-take (n + g.row.N - n) (drop n d) in
    let m2 = length-drop n d in
    let l = length-take n d in
    let r = c.requires in
    let ok = c.make_room.new.bytes.ok.0 in
    let at : back ≡ drop (n + g.row.N) d = Post-is n (n + g.row.N) d (omega arith) in
    let whole = length-over d new back n (n + g.row.N) at (omega arith) (omega arith) in
    ap (take (n + c.args.count))
    (with_items_is c.make_room.new.bytes (take n d ++ (new ++ back)) (omega arith))
    ∙ take_into (take n d) new back n c.args.count (omega arith) (omega arith)
    ∙ ap (λ x. x ++ take c.args.count new) (ap (take n) v ∙ c.make_room.ensures.kept
    ∙ c.self.view_is)
    ∙ ap (λ x. c.args.self.now ++ take c.args.count x) c.copy_from_slice.ensures.after
