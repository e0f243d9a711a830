use Rattle.std.proofs.Common.{arith, ap}
use Rattle.spa_format.specs.Words.{extent}
use Rattle.spa_events.proofs.Places.{event_of-behind}
use Rattle.spa_events.proofs.level.next_event.Goals as goal

pub returns-clause-next : goal.returns-clause-next
returns-clause-next c =
    let e = ap extent c.u32_at-size.ensures in
    record {
      whole = omega (arith, e);
      its_event = event_of-behind _ _ _ _ _ _ _ c.u32_at.ensures c.u32_at-size.ensures;
    }
