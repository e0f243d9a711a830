use Rattle.std.proofs.Common.{◌+◌, ap, ◌∙◌}
use Rattle.spa_builder.proofs.Kept.{popped_some, still_kept, most_kept}
use Rattle.spa_builder.proofs.frames.Frames.pop.Goals as goal

pub invariant_of-self-2 : goal.invariant_of-self-2
invariant_of-self-2 c =
    let w = c.requires in
    let f = c.in-Some.ensures.items in
    let n = popped_some _ _ _ c.in-Some.frame _ _ w.0 w.1 w.2 c.self.invariant
    (c.self.view_is ∙ w.3) f in
    let m = most_kept _ _ _ c.pop.new.self.items c.most_bytes.ensures c.is_empty.ensures
    c.pop.new.self.ok.0 in
    let first = c.self.inside.first in
    still_kept _ _ _ c.in-Some.frame _ _ _ c.self.invariant f n.0
    (λ h. ap (λ b. first + b) (m.0 h)) (λ q r h. ap (λ b. first + b) (m.1 q r h))

pub returns : goal.returns
returns c base p ps e =
    (popped_some _ _ _ c.in-Some.frame _ _ base p ps c.self.invariant (c.self.view_is ∙ e)
    c.in-Some.ensures.items).1
