use Rattle.std.proofs.Common.{subst, sym}
use Rattle.std.proofs.lemmas.Result.{IfErr-weaker}
use Rattle.spa_filter_pods.specs.Fronts.{BeginBoth, FilterIn}
use Rattle.spa_meet_commands.proofs.Agreeing.{unsettled_apart}
use Rattle.spa_meet_commands.proofs.pair.worked.Goals as goal

pub returns-in-Negotiate-clause-cause : goal.returns-in-Negotiate-clause-cause
returns-in-Negotiate-clause-cause c =
    IfErr-weaker c.settled.result _ _
    (λ e f a b h. rw c.in-Negotiate.is
    (unsettled_apart a b _ e (subst (λ pod. BeginBoth a b (FilterIn pod)) (sym c.as_slice.ensures.value) h) f))
    c.settled.ensures.cause
