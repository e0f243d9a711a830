use Rattle.std.proofs.Common.{◌≡◌, sym, ap, ◌∙◌}
use Rattle.spa_events.specs.Events.{bytes_before}
use Rattle.spa_events.specs.Levels.{bytes_held}
use Rattle.spa_events.proofs.Places.{holds_none, holds_some, level_is}
use Rattle.spa_events.proofs.level.inside.Goals as goal
use Rattle.spa_events.proofs.level.inside.Goals.{in-Some, in-None}

pub returns : goal.returns
returns c =
    let m = c.match-keyed_inside in
    let e = c.args.event in
    let both : (m.before.0 ≡ bytes_before e.type_ e.size) × (m.before.1 ≡ bytes_held e.type_ e.size) =
    elim m.branch [
      | in-Some w ↦ (let h = holds_some _ _ _ w.in-Some.ensures.some in (ap (λ p. p.0) w.before-is ∙ w.key_len.ensures ∙ sym h.1, ap (λ p. p.1) w.before-is ∙ sym h.2))
      | in-None w ↦ (let h = holds_none _ _ w.in-None.ensures.none in (ap (λ p. p.0) w.before-is ∙ sym h.1, ap (λ p. p.1) w.before-is ∙ sym h.2))
    ] in
    level_is _ _ _ e both.0 both.1
