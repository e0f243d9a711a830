use Rattle.std.proofs.Common.{◌+◌, ◌≤◌, length, ap, ◌∙◌, subst, sym, inr}
use Rattle.spa_format.specs.Words.{body_of}
use Rattle.spa_format.specs.Walk.{property_walk, properties_of, walk}
use Rattle.spa_format.specs.Fixation.{walk_size}
use Rattle.spa_pod_commands.specs.Lines.{values_of}
use Rattle.spa_pod_commands.proofs.Levels.{fields_fit, nothing_fits, values_fit, walk_nothing}
use Rattle.spa_pod_commands.proofs.listing.inside.Goals as goal

pub returns-in-Ok-clause-smaller : goal.returns-in-Ok-clause-smaller
returns-in-Ok-clause-smaller c =
    let p = c.args.pod.bytes.now in
    subst (λ w. walk_size w + 8 ≤ length p) (sym (c.fields.ensures.walk ∙ ap (λ b. walk (body_of b)) c.in-Ok.ensures.value))
    (fields_fit p c.args.pod.whole)

pub returns-in-Ok-as_object-clause-smaller : goal.returns-in-Ok-as_object-clause-smaller
returns-in-Ok-as_object-clause-smaller c =
    let p = c.args.pod.bytes.now in
    subst (λ w. walk_size (values_of w) + 8 ≤ length p)
    (sym (c.props.ensures.walk ∙ ap (λ b. property_walk (properties_of b)) c.in-Ok-as_object.ensures.value)) (values_fit p c.args.pod.whole)

pub returns-in_default-as_object-clause-inside : goal.returns-in_default-as_object-clause-inside
returns-in_default-as_object-clause-inside c = inr (inr (c.in_default.ensures.refused.0, c.in_default-as_object.ensures.refused.0, walk_nothing))

pub returns-in_default-as_object-clause-smaller : goal.returns-in_default-as_object-clause-smaller
returns-in_default-as_object-clause-smaller c = nothing_fits c.args.pod.bytes.now c.args.pod.whole
