use Rattle.std.proofs.lemmas.Result.{on_ok_weaker}
use Rattle.spa_text_commands.proofs.Saying.{adds_adds}
use Rattle.spa_text_commands.proofs.listing.Listing.add_item.Goals as goal

pub returns-in_ok-end_line-in-Value : goal.returns-in_ok-end_line-in-Value
returns-in_ok-end_line-in-Value c =
    on_ok_weaker c.add_value-in-Value.result (adds_adds _ _ _ c.in_ok-end_line-in-Value.ensures) c.add_value-in-Value.ensures
