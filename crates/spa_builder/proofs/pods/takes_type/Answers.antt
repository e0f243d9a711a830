use Rattle.std.proofs.Common.{◌≡◌, Some, true, sym, ◌∙◌, arith}
use Rattle.spa_builder.specs.Innermost.{innermost_of, takes_elements}
use Rattle.spa_builder.proofs.AtHand.{element_may}
use Rattle.spa_builder.proofs.pods.takes_type.Goals as goal

pub returns : goal.returns
returns c base closed ps v at of =
    let there : Some c.in-Some.open ≡ innermost_of base ps =
    (let i = c.in-Some.is in let j = at in cc) in
    let e : takes_elements ps ≡ true = sym (c.takes_elements.ensures base ps there)
    ∙ c.if-not-takes_elements.false in
    let short = c.if-fixed_len-gt-HEADER_LEN.false in
    let k = c.fixed_len.ensures.is_len (omega arith) in
    element_may base closed ps v c.in-Some.open k.0 c.args.type_ c.takes_element.result there e of
    k.1 c.takes_element.ensures
