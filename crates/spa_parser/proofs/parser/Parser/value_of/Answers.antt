use Rattle.std.proofs.Common.{subst, sym, ap, ◌∙◌}
use Rattle.spa_format.specs.Pod.{IsPod}
use Rattle.spa_view.specs.View.{object_bytes, prop_bytes}
use Rattle.spa_parser.specs.State.{start_of}
use Rattle.spa_parser.proofs.Values.{no_value, some_value, value_found, value_is}
use Rattle.spa_parser.proofs.parser.Parser.value_of.Goals as goal

pub returns-in-Some-clause-found : goal.returns-in-Some-clause-found
returns-in-Some-clause-found c =
    value_found c.args.key (object_bytes c.args.view.now) (prop_bytes c.in-Some.property) _
    c.in-Some.ensures (c.from_pod.ensures.start ∙ ap start_of c.value.ensures)

pub returns-in-Some-clause-accepted : goal.returns-in-Some-clause-accepted
returns-in-Some-clause-accepted c type id ps v h e =
    c.from_pod.ensures.accepted v (subst (λ b. IsPod b v) (sym c.value.ensures)
    (value_is c.args.key (object_bytes c.args.view.now) (prop_bytes c.in-Some.property) type id ps
    v c.in-Some.ensures h e))

pub returns-in-Some-clause-absent : goal.returns-in-Some-clause-absent
returns-in-Some-clause-absent c type id ps h e =
    absurd (some_value c.args.key (object_bytes c.args.view.now) (prop_bytes c.in-Some.property)
    type id ps c.in-Some.ensures h e)

pub returns-in-None-clause-accepted : goal.returns-in-None-clause-accepted
returns-in-None-clause-accepted c type id ps v h e =
    absurd (no_value c.args.key (object_bytes c.args.view.now) type id ps v c.in-None.ensures h e)
