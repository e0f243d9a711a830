use Rattle.std.proofs.Common.{[], subst, sym}
use Rattle.json.specs.Lex.{tokens}
use Rattle.spa_value.specs.View.{view}
use Rattle.spa_text_read.specs.Grammar.{IsTextOf, nothing}
use Rattle.spa_text.proofs.laws.read_again.Goals as goal

pub returns-in-Ok-read : goal.returns-in-Ok-read
returns-in-Ok-read c = λ v printed.
    (c.reads_one_value.ensures nothing (view c.in-Ok-read.again) v (tokens c.in-Ok.text.now) [] [] c.in-Ok-read.ensures.value
    (subst (IsTextOf v) (sym c.in-Ok.ensures.cases.0) printed)).0

pub unreachable-requires-in_default-cause : goal.unreachable-requires-in_default-cause
unreachable-requires-in_default-cause c =
    let printed = c.requires.1 in
    c.in-Err.ensures.refused c.in_default-cause.not-OutOfMemory printed.0
    (subst (IsTextOf printed.0) (sym c.in-Ok.ensures.cases.0) printed.1)
