use Rattle.std.proofs.Common.{refl, subst}
use Rattle.spa_text_commands.specs.Unread.{IsNoPod}
use Rattle.spa_text_commands.proofs.ReadTexts.{refused_at}
use Rattle.spa_text_commands.proofs.reading.failure_at.Goals as goal

pub returns-in-For : goal.returns-in-For
returns-in-For c =
    λ s none.
    refused_at s c.args.text.now _ c.min.result c.args.first _ _ (subst (IsNoPod s c.args.text.now) c.in-For.is none) refl
    c.position_behind-line.ensures.line c.position_behind-line.ensures.column
