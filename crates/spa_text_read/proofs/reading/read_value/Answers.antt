use Rattle.std.proofs.Common.{rules, ◌∙◌, ap, refl, subst}
use Rattle.std.specs.Prelude.{None}
use Rattle.spa_text_read.specs.Begun.{Steps}
use Rattle.spa_text_read.proofs.Nesting.{leads_nowhere, leads_refused, leads_to, started_at}
use Rattle.spa_text_read.proofs.Strictly.{begun_reading, none_admitted, none_read, reading_on, whole_admitted}
use Rattle.spa_text_read.proofs.reading.read_value.Goals as goal

pub loop-nest-init : goal.loop-nest-init
loop-nest-init c =
    begun_reading c.args.strictness c.args.reader.now _ c.open.new.reader _ c.in-Ok-Begun.inside c.replace-outer.result.items c.in-Some.ensures.taken
    (search rules) (search rules) (ap (λ (v : _). v.items) c.replace-outer.ensures.value ∙ c.clear.ensures.items)

pub loop-nest-preserved : goal.loop-nest-preserved
loop-nest-preserved c =
    reading_on _ _ _ _ _ _ _ _ c.loop-nest.invariant (subst (λ b. Steps b c.loop-nest.nest c.loop-nest.reader c.step.new.self c.step.new.reader) c.in-Ok-true.field-0-test c.in-Ok-true.ensures.taken) c.in-None.ensures

pub returns-in-Err-clause-refused : goal.returns-in-Err-clause-refused
returns-in-Err-clause-refused c = λ m.
    none_read _ _ (started_at _ _ _ None None c.in-Some.ensures.taken (c.in-Err.ensures.refused (λ q. m (c.from-in-Err.ensures ∙ q))) refl)

pub returns-in-Some-misfit-clause-refused : goal.returns-in-Some-misfit-clause-refused
returns-in-Some-misfit-clause-refused c = λ m.
    none_admitted _ _ _ _ _ _ _ _ c.loop-nest.invariant (subst (λ b. Steps b c.loop-nest.nest c.loop-nest.reader c.step.new.self c.step.new.reader) c.in-Ok-true.field-0-test c.in-Ok-true.ensures.taken) c.in-Some-misfit.ensures

pub returns-in-Err-step-clause-refused : goal.returns-in-Err-step-clause-refused
returns-in-Err-step-clause-refused c = λ m.
    none_read _ _
    (leads_refused _ _ _ _ c.loop-nest.invariant.leads (c.in-Err-step.ensures.refused (λ q. m (c.from-in-Err-step.ensures ∙ q))))

pub returns-in-Ok-clause-value : goal.returns-in-Ok-clause-value
returns-in-Ok-clause-value c = search (rules, leads_to)

pub returns-in-Ok-clause-admitted : goal.returns-in-Ok-clause-admitted
returns-in-Ok-clause-admitted c = search (rules, whole_admitted)

pub returns-in-Err-into_value-clause-refused : goal.returns-in-Err-into_value-clause-refused
returns-in-Err-into_value-clause-refused c = λ m. none_read _ _ (search (rules, leads_nowhere))
