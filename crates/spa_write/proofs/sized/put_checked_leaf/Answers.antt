use Rattle.spa_format.specs.Encoding.{encoding_of}
use Rattle.spa_value.specs.View.{view}
use Rattle.spa_bodies.proofs.Parts.{both, stop_as, stop_by}
use Rattle.spa_write.proofs.sized.put_checked_leaf.Goals as goal

pub returns-in-Some-clause-stops : goal.returns-in-Some-clause-stops
returns-in-Some-clause-stops g c =
    both c.append.result
    (λ e h k. stop_as c.args.sink.now c.append.new.self c.in-Some.pod (encoding_of (view c.args.value.now)) e c.in-Some.ensures.encoding
    (stop_by c.args.sink.now c.append.new.self h.0 c.in-Some.pod e h.1 k))
    c.append.ensures.begun c.append.ensures.cause
