use Rattle.std.proofs.Common.{◌≡◌, ◌∙◌, None, Some, refl, subst, sym}
use Rattle.spa_text_read.specs.Grammar.{key_number}
use Rattle.pod_commands.proofs.texts.params_of.Goals as goal

pub returns-in-Some-key_number-clause-texts : goal.returns-in-Some-key_number-clause-texts
returns-in-Some-key_number-clause-texts c = (
  sym c.key_number.ensures ∙ c.in-Some.is,
  subst (λ ids. key_number ids c.args.id.now ≡ Some c.in-Some-key_number.id) c.ids_of.ensures (sym c.key_number-2.ensures ∙ c.in-Some-key_number.is),
)

pub returns-in-None-clause-wrong : goal.returns-in-None-clause-wrong
returns-in-None-clause-wrong c = (
  refl,
  (
    c.in-Some.number,
    sym c.key_number.ensures ∙ c.in-Some.is,
    subst (λ ids. key_number ids c.args.id.now ≡ None) c.ids_of.ensures (sym c.key_number-2.ensures ∙ c.in-None.is),
  ),
)
