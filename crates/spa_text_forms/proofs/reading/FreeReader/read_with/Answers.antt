use Rattle.std.proofs.Common.{rules}
use Rattle.spa_text_forms.proofs.Forms.{not_taken}
use Rattle.spa_text_forms.proofs.reading.FreeReader.read_with.Goals as goal

pub returns-in-Err-read_in_order-clause-refused : goal.returns-in-Err-read_in_order-clause-refused
returns-in-Err-read_in_order-clause-refused c = λ m.
    not_taken c.args.strictness c.args.text.now (c.in-Err.ensures.refused (search rules)) (c.in-Err-read_in_order.ensures.refused m)
