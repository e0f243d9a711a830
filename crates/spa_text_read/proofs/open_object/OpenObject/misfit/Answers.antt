use Rattle.std.proofs.Common.{◌≡◌, ◌-◌, ◌∙◌, false, length, ap, subst, sym, true, MatchOption, Some}
use Rattle.std.specs.Prelude.{slice_get}
use Rattle.spa_value.specs.View.{view}
use Rattle.spa_text_read.specs.Fitting.{full_type, takes}
use Rattle.spa_text_read.proofs.Strictly.{last_is}
use Rattle.spa_text_read.proofs.open_object.OpenObject.misfit.Goals as goal

pub returns-in-Some : goal.returns-in-Some
returns-in-Some c =
    let was = c.args.self.now in
    let last = c.in-Some.property.now in
    let e = subst (λ ps. Some last ≡ slice_get ps (length ps - 1)) c.deref.ensures.value c.in-Some.ensures.value in
    let fits = ap (λ w. takes w (full_type (view last.value))) c.type_under.ensures in
    subst (λ b. MatchOption c.misfit_of.result (b ≡ true) (λ _. b ≡ false)) (fits ∙ sym (last_is was.type_ was.properties.items last e)) c.misfit_of.ensures
