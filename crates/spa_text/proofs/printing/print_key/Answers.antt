use Rattle.std.proofs.Common.{[], ◌∷◌, ◌++◌, ap, sym, ◌∙◌}
use Rattle.std.proofs.lemmas.Result.{on_ok_weaker}
use Rattle.std.specs.Prelude.{decimal}
use Rattle.json.specs.Token.{Token}
use Rattle.spa_text.proofs.Continuing.{key_by_digits}
use Rattle.spa_text.proofs.printing.print_key.Goals as goal

pub returns-in-Some : goal.returns-in-Some
returns-in-Some c = on_ok_weaker c.key.result (λ e. record { name = _; appended = e; numbered = c.in-Some.ensures.number; named = sym c.in-Some.ensures.text }) c.key.ensures.ok

pub returns-in-None : goal.returns-in-None
returns-in-None c =
    on_ok_weaker c.key-in-None.result
    (λ e. record {
      name = decimal c.args.key;
      appended = e ∙ ap (λ l. c.args.out.now.tokens ++ Token.key l ∷ []) c.format.ensures.text;
      numbered = key_by_digits c.args.keys c.args.key c.ranges.key.fits;
      named = sym c.in-None.ensures.text;
    })
    c.key-in-None.ensures.ok
