use Rattle.std.proofs.Common.{◌∷◌, ◌++◌, [], ap, sym, ◌∙◌}
use Rattle.spa_builder.proofs.Kept.{pushed_kept}
use Rattle.spa_builder.proofs.frames.Frames.push.Goals as goal

pub invariant_of-self-2 : goal.invariant_of-self-2
invariant_of-self-2 g c =
    let o = c.self.inside in
    let added = c.put.ensures ∙ ap (λ xs. xs ++ o.innermost ∷ []) c.make_room.ensures.same in
    pushed_kept o.outer.items c.put.new.outer.items o.innermost c.args.frame o.first o.end
    c.most_bytes-2.result c.self.invariant (sym c.is_nothing.ensures ∙ c.if-is_nothing.false)
    c.requires.something added c.most_bytes-2.ensures
