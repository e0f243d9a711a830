use Rattle.std.proofs.Common.{◌∙◌}
use Rattle.spa_items.proofs.Listed.{front_head, has_first, none_there}
use Rattle.spa_items.proofs.listing.front_item.Goals as goal

pub returns-clause-item : goal.returns-clause-item
returns-clause-item c = c.head.ensures ∙ front_head _ _ _ c.in-Some.ensures.first

pub returns-clause-there : goal.returns-clause-there
returns-clause-there c = has_first _ _ c.in-Some.ensures.first

pub returns-in_default-clause-none : goal.returns-in_default-clause-none
returns-in_default-clause-none c = none_there _ c.in_default.ensures.none
