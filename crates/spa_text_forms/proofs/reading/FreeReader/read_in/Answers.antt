use Rattle.std.proofs.Common.{◌≢◌, subst, sym}
use Rattle.std.specs.Prelude.{IfErr}
use Rattle.spa_format.specs.Tree.{Tree}
use Rattle.spa_text_read.specs.declared.cause.Cause.TheVariants as Cause
use Rattle.spa_text_forms.specs.Forms.{IsTextAs}
use Rattle.spa_text_forms.proofs.reading.FreeReader.read_in.Goals as goal

pub returns-in-Dump-clause-refused : goal.returns-in-Dump-clause-refused
returns-in-Dump-clause-refused c =
    let none = rw c.in-Dump.is at c.read_in_order.ensures.refused in
    subst (λ f. IfErr c.read_in_order.result (λ e. e.cause ≢ Cause.OutOfMemory → (v : Tree) → ¬ (IsTextAs f v c.args.text.now))) (sym c.in-Dump.is) none
