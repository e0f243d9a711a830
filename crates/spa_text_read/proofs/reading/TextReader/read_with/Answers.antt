use Rattle.std.proofs.Common.{[], ◌∙◌, subst, sym}
use Rattle.spa_text_read.specs.Grammar.{ReadsAs, nothing}
use Rattle.spa_text_read.proofs.reading.TextReader.read_with.Goals as goal

pub returns-in-Err-clause-refused : goal.returns-in-Err-clause-refused
returns-in-Err-clause-refused c = λ m v r.
    c.in-Err.ensures.refused (λ q. m (c.refusal.ensures.cause m ∙ q)) v (subst (λ ts. ReadsAs nothing v ts []) (sym c.in-Ok.ensures.ok) r)
