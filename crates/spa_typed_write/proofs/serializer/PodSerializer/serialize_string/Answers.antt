use Rattle.std.proofs.Common.{arith}
use Rattle.spa_format.specs.Encoding.{encoding_of}
use Rattle.spa_format.specs.Tree.{string}
use Rattle.spa_typed_write.proofs.OpenPods.{behind_length}
use Rattle.spa_typed_write.proofs.serializer.PodSerializer.serialize_string.Goals as goal

pub written_since-requires : goal.written_since-requires
written_since-requires g c =
    let put = g.met.O.PodOutput.content_appends _ _ _ c.in_ok-put_text.ensures.put.encoding in
    let old = g.O.PodOutput.content c.self.inside.out in
    let new = g.O.PodOutput.content c.put_text.new.sink in
    let encoding = encoding_of (string c.args.text.now) in
    omega (arith, c.len-start.ensures, behind_length old new encoding put)

pub returns-clause-encoding : goal.returns-clause-encoding
returns-clause-encoding g c =
    let put = g.met.O.PodOutput.content_appends _ _ _ c.in_ok-put_text.ensures.put.encoding in
    rw (← c.self.view_is, c.written_since.ensures.output) put

pub returns-clause-count : goal.returns-clause-count
returns-clause-count g c =
    let put = g.met.O.PodOutput.content_appends _ _ _ c.in_ok-put_text.ensures.put.encoding in
    let old = g.O.PodOutput.content c.self.inside.out in
    let new = g.O.PodOutput.content c.put_text.new.sink in
    let encoding = encoding_of (string c.args.text.now) in
    omega (arith, c.written_since.ensures.count, c.len-start.ensures, behind_length old new encoding put)
