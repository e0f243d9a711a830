use Rattle.std.proofs.Common.{Some, ap, inr, subst, sym}
use Rattle.std.specs.Option.{option_map}
use Rattle.pod_commands.specs.Requests.{IsNoNumber, IsNumber, number_given}
use Rattle.pod_commands.proofs.Numbered.{no_number}
use Rattle.pod_commands.proofs.request.number_given.Goals as goal

pub returns-in-Ok-clause-number : goal.returns-in-Ok-clause-number
returns-in-Ok-clause-number c =
    subst (λ p. IsNumber (number_given (option_map (λ s. s.now) p) (option_map (λ s. s.now) c.args.nth)) c.in-Ok.number) (sym c.in-Some.is)
    (subst (λ t. IsNumber (Some t) c.in-Ok.number) c.number_in.ensures c.in-Ok.ensures.number)

pub returns-in-Err-clause-unknown : goal.returns-in-Err-clause-unknown
returns-in-Err-clause-unknown c =
    inr (ap (option_map (λ s. s.now)) c.in-Some.is, subst IsNoNumber c.number_in.ensures (no_number _ _ c.in-Err.ensures.unknown))
