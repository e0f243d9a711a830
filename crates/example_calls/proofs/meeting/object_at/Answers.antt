use Rattle.std.proofs.Common.{sym, subst, arith}
use Rattle.libspa.specs.Typed.{IsBytes}
use Rattle.libspa.specs.View.{view}
use Rattle.example_calls.specs.Meeting.{ReadsBack}
use Rattle.example_calls.proofs.Fronts.{ReadsBack-begun}
use Rattle.example_calls.proofs.meeting.object_at.Goals as goal

pub returns-then-is_object-clause-back : goal.returns-then-is_object-clause-back
returns-then-is_object-clause-back c =
    let law = c.readings_are_normal.ensures in
    let input = c.args.bytes.now in
    let bytes : IsBytes input = λ i. omega (arith, c.type_inv.bytes i) in
    subst (λ value. ReadsBack (view value)) (sym c.from-held.ensures)
    (ReadsBack-begun law.normal law.writable input bytes (view c.in-Ok.value) c.in-Ok.ensures.value)
