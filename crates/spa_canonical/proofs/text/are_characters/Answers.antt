use Rattle.spa_canonical.proofs.Texts.{ascii_text}
use Rattle.spa_canonical.proofs.text.are_characters.Goals as goal

pub returns-then-is_ascii_text-clause-text : goal.returns-then-is_ascii_text-clause-text
returns-then-is_ascii_text-clause-text c = λ e. ascii_text _ (c.is_ascii_text.ensures e)
