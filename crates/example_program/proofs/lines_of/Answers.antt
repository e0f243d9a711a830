use Rattle.std.proofs.Common.{◌≡◌, ◌-◌, ap, arith, length}
use Rattle.std.proofs.lemmas.List.{length-drop}
use Rattle.libspa.specs.Front.{rest_of}
use Rattle.libspa.specs.Words.{extent, word_at}
use Rattle.example_program.proofs.lines_of.Goals as goal

pub loop-left-smaller : goal.loop-left-smaller
loop-left-smaller c =
    let b = c.loop-left.left.now in
    let rest = ap length c.in_ok-rest.ensures.rest in
    let drop : length (rest_of b) ≡ length b - extent (word_at b 0) = length-drop (extent (word_at b 0)) b in
    let header = c.in_ok-rest.ensures.value.there.header in omega (arith, drop, rest, header)
