use Rattle.std.proofs.Common.{arith, rules}
use Rattle.spav.proofs.ItemsRead.{are_past, are_read}
use Rattle.spav.proofs.lenient.spav_read_leniently.Goals as goal

pub returns-then-listed-items-clause-past : goal.returns-then-listed-items-clause-past
returns-then-listed-items-clause-past c = λ e w. (
  c.spav_rewrite_leniently-answer.ensures.done (search rules),
  are_past _ _ _ _ c.in-Some.ensures.count c.in-Some.ensures.items c.if-listed-items.true,
)

pub returns-clause-done : goal.returns-clause-done
returns-clause-done c = λ e.
    let h = c.if-listed-items.false in (
      c.spav_rewrite_leniently-answer.ensures.done (search rules),
      are_read _ _ _ _ c.in-Some.ensures.count c.in-Some.ensures.items (omega arith),
    )
