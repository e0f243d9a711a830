use Rattle.std.proofs.Common.{◌+◌, ◌++◌, ◌∙◌, ap, drop, rules, take}
use Rattle.std.proofs.lemmas.List.{places, with_items_is}
use Rattle.spa_recordings.proofs.Holding.{held_more}
use Rattle.spa_recordings.proofs.blocks.Blocks.read_more.Goals as goal

pub returns-clause-read : goal.returns-clause-read
returns-clause-read g c =
    let held = c.args.self.now.held in
    let count = c.in_ok-count.count in
    let new = c.read_behind.new.buffer in (
      take count (drop held new),
      c.in_ok-count.ensures.read,
      ap (take (held + count)) (with_items_is c.make_room.new.buffer new (search (rules, places)))
          ∙ held_more c.as_mut_slice.result.now new held count c.read_behind.ensures.front
          ∙ ap (λ z. z ++ take count (drop held new)) (ap (take held) c.as_mut_slice.ensures.value ∙ c.make_room.ensures.kept),
    )
