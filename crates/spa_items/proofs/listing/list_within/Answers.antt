use Rattle.spa_items.proofs.Levels.{all_listed}
use Rattle.spa_items.proofs.listing.list_within.Goals as goal

pub returns-clause-count : goal.returns-clause-count
returns-clause-count c = (all_listed _ _ _ _ _ _ c.min.ensures c.requires.shallow c.list_pods.ensures).0

pub returns-clause-items : goal.returns-clause-items
returns-clause-items c = (all_listed _ _ _ _ _ _ c.min.ensures c.requires.shallow c.list_pods.ensures).1
