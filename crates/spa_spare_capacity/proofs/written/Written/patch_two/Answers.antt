use Rattle.std.proofs.Common.{◌≡◌, ◌+◌, ◌-◌, ◌++◌, length, take, drop, ap, sym, ◌∙◌, arith, length-take}
use borrow.Rule.Slice.PartMut.{Post-is}
use Rattle.std.proofs.lemmas.List.{with_items_is}
use Rattle.spa_format.proofs.Encodings.{two_words_length}
use Rattle.spa_spare_capacity.proofs.Pieces.{length-over, take_over}
use Rattle.spa_spare_capacity.proofs.written.Written.patch_two.Goals as goal

pub returns : goal.returns
returns c =
    let d = c.deref_mut.result.now in
    let n = c.self.inside.count in
    let v = c.deref_mut.ensures.value in
    let lv = ap length v in
    let i = c.self.invariant in
    let e = c.copy_from_slice.ensures.after ∙ c.two_words.ensures in
    let l = ap length e ∙ two_words_length c.args.first c.args.second in
    let r = c.requires in
    let w = ap length (sym c.self.view_is) ∙ length-take n c.self.inside.bytes.items in
    let ok = c.self.inside.bytes.ok.0 in
    let back = drop (c.args.at + 8 - c.args.at) (drop c.args.at d) in
    let at : back ≡ drop (c.args.at + 8) d = Post-is c.args.at (c.args.at + 8) d (omega arith) in
    let new = c.copy_from_slice.new.self in
    let whole = length-over d new back c.args.at (c.args.at + 8) at (omega arith) (omega arith) in
    ap (take n) (with_items_is c.self.inside.bytes (take c.args.at d ++ (new ++ back))
    (omega arith))
    ∙ take_over d new back n c.args.at (c.args.at + 8) at (omega arith) (omega arith) (omega arith)
    ∙ ap (λ x. take c.args.at x ++ (new ++ drop (c.args.at + 8) x)) (ap (take n) v ∙ c.self.view_is)
    ∙ ap (λ x. take c.args.at c.args.self.now ++ (x ++ drop (c.args.at + 8) c.args.self.now)) e
