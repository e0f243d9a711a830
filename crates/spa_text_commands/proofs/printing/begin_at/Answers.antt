use Rattle.std.proofs.Common.{arith, refl}
use Rattle.spa_text_commands.proofs.PrintedPods.{begun_at, begun_bare}
use Rattle.spa_text_commands.proofs.printing.begin_at.Goals as goal

pub returns-then-is_empty : goal.returns-then-is_empty
returns-then-is_empty c = begun_bare _ _ (grind (arith, c.if-is_empty.true, c.is_empty.ensures))

pub returns : goal.returns
returns c =
    begun_at c.args.path.now _ _ _ _ _ (λ e. grind (arith, e, c.if-is_empty.false, c.is_empty.ensures)) c.in_ok-extend_from_slice.ensures.items
    c.in_ok-add_path_field.ensures c.in_ok-extend_from_slice-2.ensures.items refl
