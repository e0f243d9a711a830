use Rattle.std.proofs.Common.{◌++◌, ◌∙◌, ap}
use Rattle.std.proofs.lemmas.Result.{on_ok_weaker}
use Rattle.spa_write.proofs.nested.put_any_leaf.Goals as goal

pub returns-in-Some-clause-put : goal.returns-in-Some-clause-put
returns-in-Some-clause-put c =
    on_ok_weaker c.append.result
    (λ p. record {
      bytes = p ∙ ap (λ l. c.args.out.now.items ++ l) c.in-Some.ensures.encoding;
      typed = c.in-Some.ensures.typed;
      writable = c.in-Some.ensures.writable;
    })
    c.append.ensures.ok
