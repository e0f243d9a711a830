use Rattle.std.proofs.Common.{rules, length, ◌-◌, refl}
use Rattle.spa_text_commands.specs.Unread.{place_of}
use Rattle.spa_text_commands.proofs.Extents.{all_passed, one_passed, text_passed}
use Rattle.spa_text_commands.proofs.extent.split_text.Goals as goal

pub returns-then-ends : goal.returns-then-ends
returns-then-ends c = λ some.
    text_passed c.args.bytes.now c.loop-byte.left.now c.in-Some.behind.now _ (place_of c.loop-byte.open.place) c.loop-byte.open.count
    c.in-Some.byte.now (length c.args.bytes.now - length c.loop-byte.left.now) c.ends.result c.loop-byte.invariant (search rules)
    c.ends.ensures c.if-ends.true refl refl some

pub loop-byte-preserved : goal.loop-byte-preserved
loop-byte-preserved c =
    one_passed c.args.bytes.now c.loop-byte.left.now c.in-Some.behind.now (place_of c.loop-byte.open.place)
    (place_of c.pass-open.result.place) c.loop-byte.open.count c.pass-open.result.count c.in-Some.byte.now c.ends.result
    c.loop-byte.invariant (search rules) c.ends.ensures c.if-ends.false c.pass-open.ensures.place c.pass-open.ensures.count

pub returns : goal.returns
returns c = λ some.
    all_passed c.args.bytes.now c.loop-byte.left.now (place_of c.loop-byte.open.place) c.loop-byte.open.count c.loop-byte.invariant
    (search rules) some
