use Rattle.std.proofs.Common.{◌≡◌, ◌∙◌, ap, codes, subst}
use Rattle.std.specs.Prelude.{IfOk}
use Rattle.clap.specs.Words.{app_of, with_rule}
use Rattle.pod_commands.specs.Program.{flag}
use Rattle.pod_commands.proofs.command.over_pods.Goals as goal

pub returns-clause-app : goal.returns-clause-app
returns-clause-app c =
    subst (λ app. IfOk c.with_flag-2.result (λ it. app_of it ≡ with_rule app (flag (codes "resync"))))
    (c.in_ok-going_on.ensures.app ∙ ap (λ app. with_rule app (flag (codes "keep-going"))) c.in_ok-with_lenient.ensures.app) c.with_flag-2.ensures.app
