use Rattle.std.proofs.Common.{sym, ap, ◌∙◌}
use Rattle.spa_format.specs.Words.{word_at}
use Rattle.spa_format.proofs.Fronts.{type_of_front}
use Rattle.spa_typed_read.proofs.settled.choice_at.Goals as goal

pub returns-then-type_-clause-none : goal.returns-then-type_-clause-none
returns-then-type_-clause-none c s =
    let b = c.args.input.now in
    let seen = c.type_.ensures ∙ ap (λ l. word_at l 4) c.in_ok-pod.ensures.front ∙ type_of_front b in
    c.if-type_.true (seen ∙ s.1)

pub returns-clause-there : goal.returns-clause-there
returns-clause-there c =
    let b = c.args.input.now in
    let seen = c.type_.ensures ∙ ap (λ l. word_at l 4) c.in_ok-pod.ensures.front ∙ type_of_front b in
    (c.in_ok-pod.ensures.there, sym seen ∙ c.if-type_.false)
