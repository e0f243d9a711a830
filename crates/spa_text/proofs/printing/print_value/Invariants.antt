use Rattle.std.proofs.Common.{reverse}
use Rattle.spa_value.specs.View.{view}
use Rattle.spa_text_read.specs.Grammar.{ReadsAs, nothing}
use Rattle.spa_text.specs.Printed.{HasNoFloat, tokens_of}
use Rattle.spa_text.specs.Left.{Continues, IsWithin, LeavesWithin}
use Rattle.spa_text.proofs.Counting.{steps_left}
use Rattle.spa_text.proofs.printing.print_value.Given as goal

abbrev pub invariant-loop-outer : goal.invariant-loop-outer
invariant-loop-outer l =
    let v = view l.fn.value in
    Continues (IsWithin l.inner (reverse l.outer.items)) (ReadsAs nothing v) l.fn.out.tokens l.out.tokens
    × LeavesWithin (HasNoFloat v) (tokens_of nothing v) l.inner (reverse l.outer.items) l.fn.out.tokens l.out.tokens

abbrev pub decreases-loop-outer : goal.decreases-loop-outer
decreases-loop-outer l = steps_left l.inner l.outer.items
