use Rattle.std.proofs.Common.{◌≡◌, ◌+◌, ◌++◌, length, replicate, take, ap, ◌∙◌, arith}
use Rattle.spa_spare_capacity.proofs.written.Written.append_parts.Goals as goal

pub returns-clause-ok : goal.returns-clause-ok
returns-clause-ok c =
    let old = c.make_room.ensures.kept ∙ c.self.view_is in
    let one = c.write_over.ensures.written ∙ ap (λ l. l ++ c.args.header) old in
    let eight : 8 ≡ length c.args.header = omega arith in
    let headed = ap (λ n. take (c.self.inside.count + n) c.write_over.new.bytes.items) eight ∙ one in
    let two = c.write_over-2.ensures.written ∙ ap (λ l. l ++ c.args.front.now) headed in
    let three = c.write_over-3.ensures.written ∙ ap (λ l. l ++ c.args.back.now) two in
    c.write_zeros.ensures.written
    ∙ ap (λ l. l ++ replicate c.args.zeros 0) three
