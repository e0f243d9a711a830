-- What is made of two inputs.
use Rattle.std.proofs.Common.{◌≡◌, [], ◌∷◌, inl, inr, sym, subst, List, ℕ, Option, Bor}
use Rattle.spa_text_commands.specs.Differences.{SayTheSame}
use Rattle.spa_text_commands.specs.declared.comparing.Comparison.{Comparison}
use Rattle.spa_recordings.specs.declared.reading.Reading.{Reading}
use Rattle.pod_commands.specs.Answers.{Gets, IsCompared, Outlet, course}
use Rattle.pod_commands.specs.Inputs.{OfTwo}
use Rattle.pod_commands.specs.Sending.{IsSent}
use Rattle.pod_commands.specs.declared.answer.Answer.{Answer}
use Rattle.pod_commands.specs.declared.answer.Answer.TheVariants.{Done}

-- two inputs that are compared say the same values, or others
pub same_sent : (k : Comparison) (reading : Reading) (remaining : Option (List ℕ)) (n m : Bor (List ℕ)) (lines : List ℕ) (o : Outlet) (answer : Answer) →
    lines ≡ [] → OfTwo reading remaining o.before n.now m.now (SayTheSame k) → IsSent lines Done answer o →
    IsCompared k reading answer (n ∷ m ∷ []) (course remaining (n ∷ m ∷ []) o)
same_sent k reading remaining n m lines o answer none h (inl sent) =
    subst (λ a. IsCompared k reading a (n ∷ m ∷ []) (course remaining (n ∷ m ∷ []) o)) (sym sent.0) (h, subst (Gets o.target o) none sent.1)
same_sent k reading remaining n m lines o answer none h (inr failed) =
    subst (λ a. IsCompared k reading a (n ∷ m ∷ []) (course remaining (n ∷ m ∷ []) o)) (sym failed.1)
    (inr (
      failed.2,
      (
        lines,
        record { first = h.first; second = h.second; first_read = h.first_read; second_read = h.second_read; fact = inl (none, h.fact) },
        failed.3,
      ),
    ))
