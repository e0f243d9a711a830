-- What is printed of inputs that are read leniently.
use Rattle.std.proofs.Common.{◌≡◌, ◌∙◌, inl, inr, [], sym, subst, List, ℕ, Option}
use Rattle.std.specs.Prelude.{Decides}
use Rattle.std.specs.Borrow.{Bor}
use Rattle.spa_recordings.specs.declared.reading.Reading.TheVariants.{Lenient}
use Rattle.spa_recordings.specs.declared.streaming.Made.{Made}
use Rattle.spa_text_commands.specs.declared.selection.Selection.{Selection}
use Rattle.pod_commands.specs.Answers.{AreUnmade, IsFound, IsOutcome, IsPrintedLeniently, Course, course, outlet, sought_in}
use Rattle.pod_commands.specs.Inputs.{AreMade}
use Rattle.pod_commands.specs.Making.{MakesAll}
use Rattle.pod_commands.specs.Sending.{IsSent}
use Rattle.pod_commands.specs.declared.answer.Answer.{Answer}
use Rattle.pod_commands.specs.declared.answer.Answer.TheVariants.{Refused}
use Rattle.pod_commands.specs.declared.answer.Failure.{Failure}
use Rattle.pod_commands.specs.declared.request.Making.TheVariants.{Print}
use Rattle.pod_commands.specs.declared.request.Printing.{Printing}
use Rattle.pod_commands.proofs.Running.{untouched}
use Rattle.pod_commands.proofs.Streamed.{found_by}

-- all was printed and sent, or that couldn't be written
pub all_printed : (printing : Printing) (c : Course) (made : List ℕ) (its : Made) (given answer : Answer) →
    AreMade (MakesAll Lenient (Print printing)) c.remaining c.outlet.before c.names made 0 → its.refused ≡ 0 → Decides its.nothing (made ≡ []) →
    (sought : Option Selection) → sought ≡ sought_in printing.printout.selection → IsOutcome sought its given → IsSent made given answer c.outlet →
    IsPrintedLeniently printing answer c
all_printed printing c made its given answer m none d sought looks (inl e) (inl k) =
    subst (λ a. IsPrintedLeniently printing a c) (sym (k.0 ∙ e.2))
    (made, (m, subst (λ z. IsFound z made) looks (found_by sought its made d e.1)), k.1)
all_printed printing c made its given answer m none d sought looks (inr (inl e)) (inl k) = absurd (e.0 none)
all_printed printing c made its given answer m none d sought looks (inr (inr e)) (inl k) =
    subst (λ a. IsPrintedLeniently printing a c) (sym (k.0 ∙ e.4)) (sym looks ∙ e.3, (made, (m, d.0 e.2), k.1))
all_printed printing c made its given answer m none d sought looks e (inr k) =
    subst (λ a. IsPrintedLeniently printing a c) (sym k.1) (inr (k.2, (made, m, k.3)))

-- not all inputs are read
pub none_printed : (printing : Printing) (target : Option (Bor (List ℕ))) (remaining : Option (List ℕ)) (holds : List ℕ → Option (List ℕ))
    (names : List (Bor (List ℕ))) (old : Option (List ℕ)) (why : Failure) → AreUnmade Lenient (Print printing) remaining holds names why →
    IsPrintedLeniently printing (Refused why) (course remaining names (outlet target old old holds holds))
none_printed printing target remaining holds names old why h = inl (h, untouched target old holds)
