use Rattle.std.proofs.lemmas.Result.{on_ok_weaker}
use Rattle.spa_text_commands.proofs.Dumped.{row_added}
use Rattle.spa_text_commands.proofs.page.Page.end_row.Goals as goal

pub returns : goal.returns
returns c =
    on_ok_weaker c.add_row.result (row_added _ _ _ _ c.args.place c.args.row.now c.in_ok-extend_from_slice.ensures.items) c.add_row.ensures
