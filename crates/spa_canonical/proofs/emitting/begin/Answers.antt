use Rattle.std.proofs.Common.{arith, refl}
use Rattle.spa_canonical.proofs.Emitted.{begun_there}
use Rattle.spa_canonical.proofs.emitting.begin.Goals as goal

pub returns : goal.returns
returns c =
    let k = c.key_len-head.ensures in
    let ki = c.key_len.ensures in
    begun_there c.args.list c.args.inner c.args.size c.args.from c.args.to _ c.key_len-head.result c.key_len.result _ c.args.bytes.now
    c.move_down.new.bytes c.put_words.new.bytes c.link_of-back.result c.requires.down (omega arith) k ki refl refl c.link_of-back.ensures.small
    c.link_of-back.ensures.link c.move_down.ensures c.put_words.ensures
