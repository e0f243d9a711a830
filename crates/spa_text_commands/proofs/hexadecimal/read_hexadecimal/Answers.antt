use Rattle.std.proofs.Common.{ap, arith, length}
use Rattle.spa_text_commands.proofs.ReadHexadecimal.{fewer_behind, line_said, not_said}
use Rattle.spa_text_commands.proofs.hexadecimal.read_hexadecimal.Goals as goal

pub failure_at-requires : goal.failure_at-requires
failure_at-requires c =
    let within = c.in_ok-unread.ensures.within in
    let some = c.if-unread-gt0.true in
    (omega (arith, some), omega (arith, within))

pub returns-then-unread-gt0-clause-refused : goal.returns-then-unread-gt0-clause-refused
returns-then-unread-gt0-clause-refused c =
    let some = c.if-unread-gt0.true in
    not_said c.args.input.now c.loop-left.left.now c.loop-left.bytes.items c.add_line.new.bytes.items c.split_line.result.0.now c.loop-left.lines
    c.in_ok-unread.unread c.first_has_offset-offsets.result c.failure_at.result c.loop-left.invariant c.split_line.ensures.line
    c.first_has_offset-offsets.ensures c.in_ok-unread.ensures.said (omega (arith, some)) c.failure_at.ensures

pub loop-left-smaller : goal.loop-left-smaller
loop-left-smaller c =
    let fewer = fewer_behind c.loop-left.left.now (λ e. let l = ap length e in grind (arith, l, c.loop-left-test.true, c.is_empty.ensures)) in
    let behind = ap length c.split_line.ensures.behind in
    omega (arith, fewer, behind)

pub loop-left-preserved : goal.loop-left-preserved
loop-left-preserved c =
    let none = c.if-unread-gt0.false in
    line_said c.args.input.now c.loop-left.left.now c.split_line.result.1.now c.loop-left.bytes.items c.add_line.new.bytes.items
    c.split_line.result.0.now c.loop-left.lines c.in_ok-unread.unread c.first_has_offset-offsets.result c.loop-left.invariant
    (λ e. let l = ap length e in grind (arith, l, c.loop-left-test.true, c.is_empty.ensures)) c.split_line.ensures.line c.split_line.ensures.behind
    c.first_has_offset-offsets.ensures c.in_ok-unread.ensures.said (omega (arith, none))
