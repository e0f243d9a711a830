use Rattle.std.proofs.Common.{sym, subst}
use Rattle.std.specs.Prelude.{MatchBool, ◌≤◌, ◌-◌, length}
use Rattle.spa_format.specs.Words.{size_limit}
use Rattle.spa_object_view.proofs.Meetings.{unless_large}
use Rattle.spa_object_view.proofs.answer.ended.Goals as goal

pub returns-then-is_large-clause-large : goal.returns-then-is_large-clause-large
returns-then-is_large-clause-large c =
    subst (λ b. MatchBool b (Unit {0}) (16 ≤ length c.args.out.bytes.items → size_limit ≤ length c.args.out.bytes.items - 8)) (sym c.if-is_large.true) tt

pub returns-then-not-finish-clause-large : goal.returns-then-not-finish-clause-large
returns-then-not-finish-clause-large c = unless_large c.args.out.is_large _ (c.finish.ensures.large c.if-not-finish.true)

pub returns-clause-ended : goal.returns-clause-ended
returns-clause-ended c =
    record {
      small = c.if-is_large.false;
      size = c.finish.ensures.size c.if-not-finish.false;
      parts = c.finish.ensures.bytes c.if-not-finish.false;
    }
