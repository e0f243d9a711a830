-- How a run ends: docs/PROVED.md, "The programs".
use Rattle.std.specs.Prelude.{◌≡◌, ℕ, codes, List, Option, take}
use Rattle.std.specs.Borrow.{Bor}
use Rattle.std.specs.Io.KnownBytes.{Appends, Keeps}
use Rattle.spa_pod_commands.specs.Answers.{Fixates, IsNotListed, IsOneWord, IsUndone, IsUse, OnAnswer, Rewrites, Writes, line_of, status_of}
use Rattle.spa_pod_commands.specs.Lines.{Lists}
use Rattle.spa_pod_commands.specs.declared.answer.Answer.{Answer}
use Rattle.spa_pod_commands.specs.declared.answer.Answer.TheVariants.{Misused}

-- What an answer says of a run whose words are these: what it wrote where the work was done, and where it was refused.
pub record IsAnswer (words : List (Bor (List ℕ))) (remaining old new : Option (List ℕ)) (answer : Answer) : Type 0 where
  pub rewrite : IsOneWord words (codes "rewrite") → OnAnswer answer (Writes Rewrites remaining old new) (IsUndone Rewrites remaining old new)
  pub fixate : IsOneWord words (codes "fixate") → OnAnswer answer (Writes Fixates remaining old new) (IsUndone Fixates remaining old new)
  pub show : IsOneWord words (codes "show") → OnAnswer answer (Writes Lists remaining old new) (IsNotListed remaining old new)
  pub misuse : ¬ (IsUse words) → (answer ≡ Misused) × Keeps old new

-- A run ended with the status of an answer of which this holds, and so many first bytes of the answer's line were written, maybe all.
pub record EndsBy (IsSo : Answer → Type 0) (status : ℕ) (old new : Option (List ℕ)) : Type 0 where
  pub answer : Answer
  pub its : IsSo answer
  pub its_status : status ≡ status_of answer
  pub count : ℕ
  pub line : Appends old new (take count (line_of answer))
