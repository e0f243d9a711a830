use Rattle.std.proofs.Common.{◌-◌, ◌∙◌, ◌≤◌, ap, length, rules, take}
use Rattle.std.proofs.lemmas.List.{places}
use Rattle.spa_recordings.proofs.Holding.{passed_over}
use Rattle.spa_recordings.proofs.blocks.Blocks.pass.Goals as goal

pub returns-clause-ahead : goal.returns-clause-ahead
returns-clause-ahead c =
    let within : c.args.self.now.held ≤ length c.args.self.now.buffer.items = search (rules, places) in
    ap (take (c.args.self.now.held - c.args.len)) c.copy_within.ensures.items
    ∙ passed_over c.args.self.now.buffer.items c.args.len c.args.self.now.held c.requires.within within
