use Rattle.std.proofs.Common.{refl}
use Rattle.spa_read.proofs.Bodies.{properties_grown}
use Rattle.spa_read.proofs.inside.OpenObjectTakes.put.Goals as goal

pub returns : goal.returns
returns c = properties_grown c.args.self.now _ _ refl refl c.push_reserved.ensures.items
