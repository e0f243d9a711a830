use Rattle.std.proofs.Common.{sym, true≢false}
use Rattle.example_calls.proofs.Fronts.{not_object}
use Rattle.example_calls.proofs.meeting.is_object.Goals as goal

pub returns-in_default : goal.returns-in_default
returns-in_default c =
    let law = c.trees_have_their_types.ensures in
    let no = not_object law.arrays law.choices c.args.value.now c.in_default.not-Object in
    (λ h. absurd (true≢false (sym h)), λ h. absurd (no h))
