use Rattle.std.proofs.Common.{◌∙◌, refl, sym}
use Rattle.std.proofs.KnownBytes.{Keeps-refl}
use Rattle.pod_commands.specs.Answers.{asked, no_memory, nothing, said, to_terminal}
use Rattle.pod_commands.proofs.Requested.{among}
use Rattle.pod_commands.proofs.run.run.Goals as goal

pub returns-in-OutOfMemory : goal.returns-in-OutOfMemory
returns-in-OutOfMemory g c = no_memory (Keeps-refl _) (λ name. refl)

pub returns-then-fills_terminal : goal.returns-then-fills_terminal
returns-then-fills_terminal g c =
    to_terminal c.in-Ok-Ok.request (rw c.in-Ok-Ok.field-0-is at c.in-Ok-Ok.ensures.asked) (sym c.fills_terminal.ensures ∙ c.if-fills_terminal.true)
    (Keeps-refl _) (λ name. refl)

pub returns-in-Ok-Ok : goal.returns-in-Ok-Ok
returns-in-Ok-Ok g c =
    asked c.in-Ok-Ok.request c.do_work-done.result.0 (rw c.in-Ok-Ok.field-0-is at c.in-Ok-Ok.ensures.asked)
    (sym c.fills_terminal.ensures ∙ c.if-fills_terminal.false)
    (rw (c.file_of.ensures, c.as_slice.ensures.value) at c.do_work-done.ensures)

pub returns-in-Ok-Err : goal.returns-in-Ok-Err
returns-in-Ok-Err g c = nothing c.in-Ok-Err.why (rw c.in-Ok-Err.field-0-is at c.in-Ok-Err.ensures.nothing) (Keeps-refl _) (λ name. refl)

pub returns : goal.returns
returns g c =
    said c.in-Err.error (among _ c.in-Err.error c.in-Err.ensures.refused (λ e. c.in_default.not-OutOfMemory (c.kind.ensures ∙ e))) (Keeps-refl _)
    (λ name. refl)
