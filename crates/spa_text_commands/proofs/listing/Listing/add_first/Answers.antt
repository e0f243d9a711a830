use Rattle.std.proofs.lemmas.Result.{on_ok_weaker}
use Rattle.spa_text_commands.proofs.Saying.{adds_adds}
use Rattle.spa_text_commands.proofs.listing.Listing.add_first.Goals as goal

pub returns : goal.returns
returns c = on_ok_weaker c.add_value-2.result (adds_adds _ _ _ c.in_ok-end_line.ensures) c.add_value-2.ensures
