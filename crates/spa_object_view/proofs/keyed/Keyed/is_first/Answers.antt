use Rattle.spa_object_view.proofs.Passed.{new_first, found_left}
use Rattle.spa_object_view.proofs.keyed.Keyed.is_first.Goals as goal

pub returns-in-Some : goal.returns-in-Some
returns-in-Some c = λ ps done left w p h.
    new_first _ _ _ ps done _ left _ _ c.requires.bytes w p h (c.in-Some.ensures.behind ps w)

pub returns-in-None : goal.returns-in-None
returns-in-None c = λ ps done left w p h.
    absurd (found_left _ _ ps done _ left _ _ c.requires.bytes w p h (c.in-None.ensures.found ps w))
