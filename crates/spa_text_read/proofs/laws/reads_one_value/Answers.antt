use Rattle.std.proofs.Common.{ap, List}
use Rattle.std.specs.Prelude.{Option, Some, None}
use Rattle.json.specs.Token.{Token}
use Rattle.spa_format.specs.Tree.{Tree}
use Rattle.spa_text_read.proofs.Completeness.{comes_to, same_follows}
use Rattle.spa_text_read.proofs.laws.reads_one_value.Goals as goal

abbrev or_these : Tree × List Token → Option (Tree × List Token) → Tree × List Token
or_these p None = p
or_these p (Some q) = q

pub returns : goal.returns
returns c = λ x v w ts rest left p q.
    let e = same_follows _ _ _ (comes_to x v ts rest p) (comes_to x w ts left q) in
    (ap (λ o. (or_these (v, rest) o).0) e, ap (λ o. (or_these (v, rest) o).1) e)
