use Rattle.std.proofs.Common.{arith}
use Rattle.spa_format.specs.Typed.{IsBytes}
use Rattle.spa_object_view.proofs.ObjectPods.{view_inside}
use Rattle.std.proofs.lemmas.Option.{IfSome_then}
use Rattle.spa_object_view.proofs.front.object_in.Goals as goal

pub returns-clause-object : goal.returns-clause-object
returns-clause-object c =
    let bytes : IsBytes c.args.pod.now = λ i. omega (arith, c.type_inv.pod i) in
    IfSome_then c.object_of.result c.object_of.ensures.parts (λ view its input b. view_inside input c.args.pod.now _ _ _ view bytes c.in_ok-front.ensures.there its b)
