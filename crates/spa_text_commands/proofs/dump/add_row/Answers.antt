use Rattle.std.proofs.Common.{rules}
use Rattle.spa_text_commands.proofs.Dumped.{row_pushed}
use Rattle.spa_text_commands.proofs.dump.add_row.Goals as goal

pub returns : goal.returns
returns c =
    row_pushed _ _ _ _ _ _ _ c.args.place _ c.args.row.now c.in_ok-add_place.ensures c.in_ok-push.ensures.items c.in_ok-add_spaced.ensures (search rules)
    c.in_ok-add_blanks.ensures c.in_ok-add_letters.ensures c.in_ok-push-2.ensures.items
