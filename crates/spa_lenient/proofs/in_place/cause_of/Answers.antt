use Rattle.std.proofs.Common.{sym, ap, ◌∙◌}
use Rattle.spa_fixed_sized.specs.Faults.{kind_text}
use Rattle.spa_lenient.proofs.Causes.{same_cause}
use Rattle.spa_lenient.proofs.in_place.cause_of.Goals as goal

pub returns : goal.returns
returns c = λ place. ap kind_text c.error_at.ensures ∙ same_cause tt place c.args.why
