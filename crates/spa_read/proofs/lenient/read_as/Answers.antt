use Rattle.std.proofs.Common.{refl, subst, sym}
use Rattle.spa_read.specs.Reading.{ReadsAs, same_type}
use Rattle.spa_read.proofs.Replaced.{never_choice}
use Rattle.spa_read.proofs.lenient.read_as.Goals as goal

pub returns-then-not-is_none_choice-clause-reads : goal.returns-then-not-is_none_choice-clause-reads
returns-then-not-is_none_choice-clause-reads c =
    same_type (never_choice _ _ (c.if-not-is_none_choice.ensures.1)) refl c.body_as.ensures

pub returns-clause-reads : goal.returns-clause-reads
returns-clause-reads c =
    let front = c.args.front in
    let read = c.none_choice_as-type_.result in
    subst (λ t. ReadsAs t front.body.now read.0 read.1.now) (sym (c.if-not-is_none_choice.ensures.0 refl).its_type)
    c.none_choice_as-type_.ensures
