use Rattle.std.proofs.Common.{◌∙◌, sym, ap, not}
use Rattle.spa_object_view.proofs.Passed.{new_beside, old_beside}
use Rattle.spa_object_view.proofs.keyed.Keyed.is_new_beside.Goals as goal

pub returns-then-lacks : goal.returns-then-lacks
returns-then-lacks c = λ ps qs done left w x p b h.
    new_beside _ ps done (c.lacks.ensures ps w ∙ ap not c.if-lacks.true) ∙ c.is_new.ensures qs done left x p b h

pub returns-else-lacks : goal.returns-else-lacks
returns-else-lacks c = λ ps qs done left w x p b h.
    old_beside _ ps done (c.lacks.ensures ps w ∙ ap not c.if-lacks.false) ∙ sym (ap not c.if-lacks.false)
