use Rattle.std.proofs.Common.{◌∙◌, ap, refl, Some}
use Rattle.spa_parser.specs.State.{next_pod}
use Rattle.spa_parser.proofs.NextPods.{next_of-whole}
use Rattle.spa_parser.proofs.parser.Parser.from_pod.Goals as goal

pub returns-clause-first : goal.returns-clause-first
returns-clause-first c =
    ap next_pod c.new.ensures.start ∙ next_of-whole _ refl c.whole_bytes.ensures.whole ∙ ap (λ b. Some b) c.whole_bytes.ensures.bytes
