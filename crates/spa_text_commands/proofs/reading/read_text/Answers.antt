use Rattle.std.proofs.Common.{inl, inr, subst}
use Rattle.spa_text_forms.specs.Forms.{IsTextAs}
use Rattle.spa_text_commands.proofs.ReadTexts.{is_for, no_value}
use Rattle.spa_text_commands.proofs.reading.read_text.Goals as goal

pub returns-in-Err-clause-refused : goal.returns-in-Err-clause-refused
returns-in-Err-clause-refused c = is_for _ _ _ (inl c.in-Err.ensures.cases.0) c.unread_at.ensures

pub returns-in-Some-clause-refused : goal.returns-in-Some-clause-refused
returns-in-Some-clause-refused c =
    no_value c.args.form c.args.bytes.now c.in-Ok.text.now c.in-Err-read_in.error.cause c.in-Ok.ensures.cases.0 c.in-Err-read_in.ensures.refused
    c.in-Some.ensures

pub returns-then-add_at_once-clause-found : goal.returns-then-add_at_once-clause-found
returns-then-add_at_once-clause-found c =
    let a = c.add_at_once.ensures.added c.if-add_at_once.true in inr (a.0, subst (IsTextAs c.args.form a.0) c.in-Ok.ensures.cases.0 a.1, a.2)
