use Rattle.std.proofs.Common.{◌∙◌, ap}
use Rattle.clap.specs.Words.{found_of}
use Rattle.clap.proofs.WalkLemmas.{first_value-rows}
use Rattle.pod_commands.specs.Requests.{is_true_text}
use Rattle.pod_commands.proofs.request.is_set.Goals as goal

pub returns : goal.returns
returns c = c.is_true.ensures ∙ ap is_true_text (c.get_str.ensures ∙ first_value-rows (found_of c.args.given.now) c.args.name.now)
