use Rattle.std.proofs.Common.{ℕ, List, [], arith}
use Rattle.std.specs.Borrow.{Bor}
use Rattle.pod_commands.proofs.Made.{one_name, two_names}
use Rattle.pod_commands.proofs.Running.{answers}
use Rattle.pod_commands.proofs.run.Io.seek.Goals as goal

pub returns-in-len1 : goal.returns-in-len1
returns-in-len1 g c =
    let d : Bor (List ℕ) = record { ref_ptr = (0, 0); now = [] } in
    rw (one_name c.args.task.names.now d (omega arith))
    (answers c.agree-made.result (λ v. v.items) _ _ _ c.answered.result.0 c.agree-made.ensures.made c.agree-made.ensures.refused
    c.answered.ensures.made c.answered.ensures.refused)

pub returns-in-len2 : goal.returns-in-len2
returns-in-len2 g c =
    let d : Bor (List ℕ) = record { ref_ptr = (0, 0); now = [] } in
    rw (two_names c.args.task.names.now d (omega arith))
    (answers c.agree_of_lists-made.result (λ v. v.items) _ _ _ c.answered-in-len2.result.0 c.agree_of_lists-made.ensures.made
    c.agree_of_lists-made.ensures.refused c.answered-in-len2.ensures.made c.answered-in-len2.ensures.refused)
