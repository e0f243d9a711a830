use Rattle.std.proofs.Common.{sym, subst, ◌∙◌}
use Rattle.std.specs.Prelude.{IsUtf8}
use Rattle.spa_format.specs.Tree.{string}
use Rattle.spa_view.specs.Settled.{Says}
use Rattle.spa_view.proofs.SaidTexts.{text_said, said_text}
use Rattle.spa_view.proofs.lookup.RefStrFromPod.from_pod.Goals as goal

pub returns-in-Ok-from_utf8-clause-value : goal.returns-in-Ok-from_utf8-clause-value
returns-in-Ok-from_utf8-clause-value c =
    let b = c.args.pod.now.bytes.now in
    let cases = c.in-Ok-from_utf8.ensures.cases in
    let e = c.in-Ok.ensures.value in
    subst (λ s. Says (string s) b) (sym (cases.0 ∙ e)) (text_said b c.args.pod.now.whole c.in-Ok.ensures.ok (subst IsUtf8 e cases.1))

pub returns-in-Err-clause-none : goal.returns-in-Err-clause-none
returns-in-Err-clause-none c x h =
    let b = c.args.pod.now.bytes.now in
    c.in-Err.ensures.cases.0 (subst IsUtf8 (sym (c.in-Ok.ensures.value ∙ said_text b x.now h)) h.content.text.utf8)
