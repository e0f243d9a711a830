use Rattle.std.proofs.Common.{refl, sym, ap, ◌∙◌, subst, true, false}
use Rattle.std.specs.Prelude.{IsUtf8, Some}
use Rattle.std.proofs.lemmas.Str.{is_utf8-from_IsUtf8}
use Rattle.spav.proofs.Runs.{no_text, tested_made, text_made}
use Rattle.spav.proofs.building.add_text.Goals as goal

pub returns-in-Ok : goal.returns-in-Ok
returns-in-Ok c = λ s at.
    let same = c.in-Ok.ensures.cases.0 in
    let is = is_utf8-from_IsUtf8 c.in-Ok.text.now (subst IsUtf8 (sym same) c.in-Ok.ensures.cases.1) in
    text_made _ c.args.call.now s _ _ _ _ (c.in-Some.ensures.some ∙ ap Some (sym same))
    (tested_made c.in-Ok.text.now true s _ _ _ is (c.add_string.ensures s at))

pub returns-in-Err : goal.returns-in-Err
returns-in-Err c = λ s at.
    let is = no_text c.in-Some.bytes.now c.in-Err.ensures.cases.0 in
    text_made _ c.args.call.now s _ _ _ _ c.in-Some.ensures.some
    (tested_made c.in-Some.bytes.now false s _ _ _ is (refl, refl))
