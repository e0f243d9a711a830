use Rattle.std.proofs.Common.{◌∙◌, ap}
use Rattle.std.specs.Prelude.{is_some}
use Rattle.clap.specs.Words.{found_of}
use Rattle.clap.proofs.WalkLemmas.{first_value-rows}
use Rattle.pod_commands.proofs.Requested.{same_some}
use Rattle.pod_commands.proofs.request.has_value.Goals as goal

pub returns : goal.returns
returns c =
    c.is_some.ensures ∙ same_some (λ s. s.now) c.get_str.result
    ∙ ap is_some (c.get_str.ensures ∙ first_value-rows (found_of c.args.given.now) c.args.name.now)
