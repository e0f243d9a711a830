use Rattle.std.proofs.Common.{◌+◌, sym, ap, ◌∙◌}
use Rattle.std.specs.Prelude.{if◌then◌else◌}
use Rattle.spa_events.specs.Levels.{level_behind, level_inside}
use Rattle.spa_events.specs.declared.level.Level.{Level}
use Rattle.spa_events.proofs.Places.{holds_none, holds_some}
use Rattle.spa_events.proofs.level.following.Goals as goal

pub returns-in-Some : goal.returns-in-Some
returns-in-Some c =
    let h = holds_some _ _ _ c.in-Some.ensures.some in
    c.inside.ensures ∙ ap (λ b. if b then level_inside c.args.index c.args.event else level_behind c.args.level c.args.event) (sym h.0)

pub returns-in-None : goal.returns-in-None
returns-in-None c =
    let h = holds_none _ _ c.in-None.ensures.none in
    let l = c.args.level in
    ap (λ n. let x : Level = record { at = c.args.event.at + n; end = l.end; before = l.before; depth = l.depth; parent = l.parent } in x) c.extent_of.ensures.extent
    ∙ ap (λ b. if b then level_inside c.args.index c.args.event else level_behind l c.args.event) (sym h.0)
