-- What became of what was made. Only private clauses cite it.
use Rattle.std.specs.Prelude.{◌≡◌, ◌⊎◌, ℕ, List}
use Rattle.pod_commands.specs.Answers.{Begins, Gets, IsUnwritten, Outlet}
use Rattle.pod_commands.specs.declared.answer.Answer.{Answer}
use Rattle.pod_commands.specs.declared.answer.Answer.TheVariants.{Refused}
use Rattle.pod_commands.specs.declared.answer.Failure.{Failure}

-- it was written, and the answer is this; or a write failed
abbrev pub IsSent : (made : List ℕ) → (done answer : Answer) → Outlet → Type 0
IsSent made done answer o =
    ((answer ≡ done) × Gets o.target o made) ⊎ ((why : Failure) × (answer ≡ Refused why) × IsUnwritten why × Begins o.target o made)
