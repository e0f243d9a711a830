use Rattle.std.proofs.Common.{◌∙◌, subst, sym}
use Rattle.spa_text_forms.specs.Forms.{IsTextAs}
use Rattle.spa_value.specs.View.{view}
use Rattle.spa_text_commands.proofs.PrintedParams.{read_as}
use Rattle.spa_text_commands.proofs.params.is_read_as.Goals as goal

pub returns-in-Ok : goal.returns-in-Ok
returns-in-Ok c =
    read_as c.same.result _ _ (λ v. IsTextAs c.args.form v c.args.text.now) c.same.ensures
    (subst (λ value. IsTextAs c.args.form (view value) c.args.text.now) (sym (c.deref.ensures ∙ c.from.ensures)) c.in-Ok.ensures.value)
