use Rattle.std.proofs.Common.{◌≡◌, ℕ, List, [], arith, get_or, inl}
use Rattle.std.proofs.lemmas.List.{nil_from_length}
use Rattle.std.specs.Borrow.{Bor}
use Rattle.pod_commands.proofs.Made.{two_names}
use Rattle.pod_commands.proofs.Paired.{same_sent}
use Rattle.pod_commands.proofs.Running.{untouched}
use Rattle.pod_commands.proofs.run.Io.diff.Goals as goal

pub returns-in-Err : goal.returns-in-Err
returns-in-Err g c =
    let d : Bor (List ℕ) = record { ref_ptr = (0, 0); now = [] } in
    rw (two_names c.args.task.names.now d (omega arith))
    (inl (c.in-Err.ensures.refused, untouched c.args.task.target (g.W.Write.contents c.args.self.device) (g.S.Files.holds c.args.self.files.now)))

pub returns-then-is_empty : goal.returns-then-is_empty
returns-then-is_empty g c =
    let d : Bor (List ℕ) = record { ref_ptr = (0, 0); now = [] } in
    let none : c.in-Ok.lines.items ≡ [] = nil_from_length c.in-Ok.lines.items (grind (arith, c.if-is_empty.true, c.is_empty.ensures)) in
    rw (two_names c.args.task.names.now d (omega arith))
    (same_sent _ _ _ (get_or c.args.task.names.now 0 d) (get_or c.args.task.names.now 1 d) c.in-Ok.lines.items _ c.answered.result.0 none (c.in-Ok.ensures.same none) c.answered.ensures.made)
