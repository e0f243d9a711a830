use Rattle.spa_view.proofs.laws.bitmaps_are_read.Goals as goal

pub returns : goal.returns
returns c = record { test = λ b s h. h.its_type; value = λ b s h. h.content }
