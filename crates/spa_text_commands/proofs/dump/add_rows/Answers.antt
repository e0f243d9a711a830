use Rattle.std.proofs.Common.{◌+◌, ◌<◌, arith, length, refl, rules}
use Rattle.std.proofs.lemmas.Result.{on_ok_weaker}
use Rattle.spa_text_commands.proofs.Dumped.{last_pushed, line_pushed, none_pushed}
use Rattle.spa_text_commands.proofs.dump.add_rows.Goals as goal

pub loop-left-preserved : goal.loop-left-preserved
loop-left-preserved c =
    let long : 16 < length c.loop-left.left.now = grind (arith, c.loop-left-test.true) in
    let left = c.split_at.ensures.back_len in
    let all = c.loop-left.invariant.1 in (
      line_pushed c.loop-left.left.now c.split_at.result.0.now c.split_at.result.1.now c.loop-left.lines.items c.add_row.new.lines.items _ c.loop-left.at
          (c.loop-left.at + 16) c.loop-left.invariant.0 c.in_ok-add_row.ensures long c.split_at.ensures.front c.split_at.ensures.back refl,
      omega (arith, long, left, all),
    )

pub returns-then-is_empty : goal.returns-then-is_empty
returns-then-is_empty c = none_pushed c.loop-left.left.now _ _ c.loop-left.at c.loop-left.invariant.0 (search rules)

pub returns : goal.returns
returns c =
    on_ok_weaker c.add_row-2.result (last_pushed c.loop-left.left.now c.loop-left.lines.items _ _ c.loop-left.at c.loop-left.invariant.0 (search rules) (search rules))
    c.add_row-2.ensures
