use Rattle.std.proofs.Common.{sym, ◌∙◌}
use Rattle.spa_text.proofs.Continuing.{key_by_name}
use Rattle.spa_text.proofs.printing.key_name.Goals as goal

pub returns-in-None-clause-number : goal.returns-in-None-clause-number
returns-in-None-clause-number c = key_by_name c.args.keys _ c.args.key (sym c.in-None.is ∙ c.number_of_digits.ensures) c.in_ok-name.ensures.back
