use Rattle.spa_text_commands.proofs.Saying.{adds_may, on_any}
use Rattle.spa_text_commands.proofs.listing.Listing.add_value.Goals as goal

pub returns : goal.returns
returns c = on_any c.open.result (adds_may _ _ _ c.in_ok-end_line.ensures c.in_ok-add_refusal_of.ensures)
