use Rattle.spa_items.proofs.Firsts.{stands_first}
use Rattle.spa_items.proofs.listing.first_pod.Goals as goal

pub returns-clause-first : goal.returns-clause-first
returns-clause-first c = stands_first _ _ _ c.in-Some.ensures.there c.word_before.ensures c.word_before-2.ensures
