use Rattle.std.proofs.Common.{sym, ◌∙◌, subst}
use Rattle.spa_format.specs.Lenient.{Conveys}
use Rattle.spa_format.specs.Pod.{IsPod}
use Rattle.spa_view.specs.Settled.{settled_of}
use Rattle.spa_view.proofs.SettledPods.{stays, value_seen, settled_pod, settled_conveys}
use Rattle.spa_view.proofs.pod.Pod.settled.Goals as goal

pub returns-in-Some-clause-bytes : goal.returns-in-Some-clause-bytes
returns-in-Some-clause-bytes c =
    c.in-Some.ensures.value ∙ sym (value_seen c.args.self.now.bytes.now c.in-Some.ensures.there)

pub returns-in-Some-clause-accepted : goal.returns-in-Some-clause-accepted
returns-in-Some-clause-accepted c v h =
    subst (λ b. IsPod b (settled_of v)) (sym (returns-in-Some-clause-bytes c)) (settled_pod v c.args.self.now.bytes.now h)

pub returns-in-Some-clause-conveyed : goal.returns-in-Some-clause-conveyed
returns-in-Some-clause-conveyed c v h =
    subst (λ b. Conveys b (settled_of v)) (sym (returns-in-Some-clause-bytes c)) (settled_conveys v c.args.self.now.bytes.now h)

pub returns-in-None-clause-bytes : goal.returns-in-None-clause-bytes
returns-in-None-clause-bytes c = sym (stays c.args.self.now.bytes.now c.in-None.ensures.none)

pub returns-in-None-clause-accepted : goal.returns-in-None-clause-accepted
returns-in-None-clause-accepted c v h =
    subst (λ b. IsPod b (settled_of v)) (sym (returns-in-None-clause-bytes c)) (settled_pod v c.args.self.now.bytes.now h)

pub returns-in-None-clause-conveyed : goal.returns-in-None-clause-conveyed
returns-in-None-clause-conveyed c v h =
    subst (λ b. Conveys b (settled_of v)) (sym (returns-in-None-clause-bytes c)) (settled_conveys v c.args.self.now.bytes.now h)
