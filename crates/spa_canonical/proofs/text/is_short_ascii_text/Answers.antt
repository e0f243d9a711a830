use Rattle.std.proofs.Common.{◌≡◌, ◌+◌, ◌-◌, arith, length, subst}
use Rattle.std.proofs.lemmas.Bool.{and_parts}
use Rattle.spa_canonical.specs.Canonical.{IsAsciiFor}
use Rattle.spa_canonical.proofs.Texts.{ascii_on}
use Rattle.spa_canonical.proofs.text.is_short_ascii_text.Goals as goal

pub returns : goal.returns
returns c = λ e.
    let text = c.args.text.now in
    let both = and_parts _ _ e in
    let all : length text - 4 + 4 ≡ length text = omega arith in
    subst (λ n. IsAsciiFor n text) all
    (ascii_on (length text - 4) 4 4 text (omega arith) (c.are_four_ascii.ensures both.0) (subst (IsAsciiFor 4) c.split_at.ensures.back (c.are_four_ascii-2.ensures both.1)))
