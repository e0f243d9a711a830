-- What was made is sent, and answered.
use Rattle.std.proofs.Common.{◌≡◌, inl, inr, refl, sym, subst, List, ℕ, Option}
use Rattle.std.proofs.KnownBytes.{Keeps-refl}
use Rattle.std.specs.Borrow.{Bor}
use Rattle.std.specs.Prelude.{Result, Ok, Err, IfOk, IfErr}
use Rattle.pod_commands.specs.Answers.{Gives, IsUntouched, OnAnswer, Outlet, Refuses, outlet}
use Rattle.pod_commands.specs.Sending.{IsSent}
use Rattle.pod_commands.specs.declared.answer.Answer.{Answer}
use Rattle.pod_commands.specs.declared.answer.Answer.TheVariants.{Done, Refused}
use Rattle.pod_commands.specs.declared.answer.Failure.{Failure}

-- nothing was written
pub untouched : (target : Option (Bor (List ℕ))) (old : Option (List ℕ)) (holds : List ℕ → Option (List ℕ)) →
    IsUntouched (outlet target old old holds holds)
untouched target old holds = (Keeps-refl old, λ name. refl)

-- what was made was sent
pub sent : (IsSo : List ℕ → Type 0) (IsRefused : Failure → Type 0) (o : Outlet) (made : List ℕ) (answer : Answer) → IsSo made →
    IsSent made Done answer o → OnAnswer answer (Gives IsSo o) ⊥ (Refuses IsSo IsRefused o)
sent IsSo IsRefused o made answer so (inl k) = subst (λ a. OnAnswer a (Gives IsSo o) ⊥ (Refuses IsSo IsRefused o)) (sym k.0) (made, so, k.1)
sent IsSo IsRefused o made answer so (inr k) =
    subst (λ a. OnAnswer a (Gives IsSo o) ⊥ (Refuses IsSo IsRefused o)) (sym k.1) (inr (k.2, (made, so, k.3)))

-- what was made was sent, or nothing was made
pub answers : {V : Type 0} (r : Result V Failure) (items : V → List ℕ) (IsSo : List ℕ → Type 0) (IsRefused : Failure → Type 0) (o : Outlet)
    (answer : Answer) → IfOk r (λ v. IsSo (items v)) → IfErr r IsRefused → IfOk r (λ v. IsSent (items v) Done answer o) →
    IfErr r (λ why. (answer ≡ Refused why) × IsUntouched o) → OnAnswer answer (Gives IsSo o) ⊥ (Refuses IsSo IsRefused o)
answers (Ok v) items IsSo IsRefused o answer so refused sent_ok kept = sent IsSo IsRefused o (items v) answer so sent_ok
answers (Err why) items IsSo IsRefused o answer so refused sent_ok kept =
    subst (λ a. OnAnswer a (Gives IsSo o) ⊥ (Refuses IsSo IsRefused o)) (sym kept.0) (inl (refused, kept.1))
