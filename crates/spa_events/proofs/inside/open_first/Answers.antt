use Rattle.spa_events.proofs.Firsts.{no_first, none_opened}
use Rattle.spa_events.proofs.inside.open_first.Goals as goal

pub returns-clause-short : goal.returns-clause-short
returns-clause-short c =
    none_opened c.open.result (no_first _ _ _ c.in-Some.ensures.there) c.open.ensures.short
