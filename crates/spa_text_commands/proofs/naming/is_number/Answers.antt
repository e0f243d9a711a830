use Rattle.std.proofs.Common.{arith, sym}
use Rattle.std.proofs.lemmas.Fmt.{parse-decimal}
use Rattle.spa_text_commands.proofs.Names.{not_parsed, parsed}
use Rattle.spa_text_commands.proofs.naming.is_number.Goals as goal

pub returns-in-Ok-clause-other : goal.returns-in-Ok-clause-other
returns-in-Ok-clause-other c = λ differs key small is.
    parsed _ c.in-Ok.number key c.args.name.now c.format.result.now c.eq.result c.in-Ok.is
    (parse-decimal 32 key c.args.name.now c.parse.result small (omega (arith, small)) (sym is) c.parse.ensures.value.0) c.format.ensures.text c.eq.ensures is differs

pub returns-in-Err-clause-other : goal.returns-in-Err-clause-other
returns-in-Err-clause-other c = λ none key small is.
    not_parsed _ _ key c.in-Err.is
    (parse-decimal 32 key c.args.name.now c.parse.result small (omega (arith, small)) (sym is) c.parse.ensures.value.0)
