use Rattle.std.proofs.Common.{◌++◌, drop, refl}
use Rattle.spa_canonical.proofs.Moved.{last_moved, others_replaced}
use Rattle.spa_canonical.proofs.emitting.encode_pods.Goals as goal

pub returns-clause-written : goal.returns-clause-written
returns-clause-written c =
    let pods = c.args.pods.now in
    let changed = c.args.changed in
    let sub = c.emit-len.new.bytes in
    let done = c.emit-len.ensures in
    others_replaced pods sub c.move_down.new.bytes changed c.emit-len.result c.requires done
    (last_moved pods sub (sub ++ drop changed pods) c.move_down.new.bytes changed c.emit-len.result _ c.requires.within c.emit-len.auto.bytes
    done.within refl refl c.move_down.ensures)
