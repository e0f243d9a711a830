use Rattle.std.proofs.Common.{refl}
use Rattle.spa_parser.proofs.NextPods.{next_of-there, next_of-end}
use Rattle.spa_parser.proofs.parser.Remainder.next.Goals as goal

pub returns-in-Some-clause-pod : goal.returns-in-Some-clause-pod
returns-in-Some-clause-pod c =
    rw (← c.self.view_is) (next_of-there _ _ c.if-self.false c.in-Some.ensures.there c.in-Some.ensures.front)

pub returns-in-None-clause-ended : goal.returns-in-None-clause-ended
returns-in-None-clause-ended c =
    (rw (← c.self.view_is) (next_of-end _ c.if-self.false c.in-None.ensures.none), refl)
