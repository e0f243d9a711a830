use Rattle.spa_object_view.proofs.Listed.{has_key-none, has_key-some}
use Rattle.spa_object_view.proofs.keyed.Keyed.lacks.Goals as goal

pub returns-in-Some : goal.returns-in-Some
returns-in-Some c = λ ps w. let f = c.in-Some.ensures.found ps w in has_key-some _ _ ps f.is_found

pub returns-in-None : goal.returns-in-None
returns-in-None c = λ ps w. has_key-none _ ps (c.in-None.ensures.found ps w)
