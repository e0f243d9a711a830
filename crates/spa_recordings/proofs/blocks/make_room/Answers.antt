use Rattle.std.proofs.Common.{rules}
use Rattle.std.proofs.lemmas.List.{places}
use Rattle.spa_recordings.proofs.Holding.{kept_held}
use Rattle.spa_recordings.proofs.blocks.make_room.Goals as goal

pub returns-clause-kept : goal.returns-clause-kept
returns-clause-kept c =
    kept_held c.args.buffer.now.items c.lengthen.new.buffer.items c.args.held _ c.lengthen.ensures.kept
    (search (rules, places)) (search (rules, places))
