use Rattle.std.proofs.Common.{ap, rules, ◌∙◌}
use Rattle.spa_value.specs.View.{view}
use Rattle.spav.proofs.Texts.{no_value, some_nul}
use Rattle.spav.proofs.text.spav_from_json.Goals as goal

pub returns-in-Ok-read-clause-refused : goal.returns-in-Ok-read-clause-refused
returns-in-Ok-read-clause-refused c = λ e.
    some_nul _ _ _ _ c.in-Ok.ensures.cases.0 (ap view (c.deref.ensures ∙ c.from.ensures)) c.in-Ok-read.ensures.value (c.put_value.ensures.refused (search rules))

pub returns-else-eq-clause-refused : goal.returns-else-eq-clause-refused
returns-else-eq-clause-refused c = λ e. no_value _ _ _ c.in-Ok.ensures.cases.0 c.in-Err-read.ensures.refused (search rules)
