use Rattle.std.proofs.Common.{take}
use Rattle.std.specs.Prelude.{map}
use Rattle.spa_text.specs.Written.{Lists}
use Rattle.spa_text.proofs.leaves.print_elements.Given as goal

abbrev pub invariant-loop-value : goal.invariant-loop-value
invariant-loop-value g l =
    let pod = g.T.CanonicalFixedSizedPod in
    Lists l.expected pod.kind (map pod.fixed (take l.value-index l.values)) l.initial.out.tokens l.out.tokens
