use Rattle.std.proofs.Common.{◌∙◌, ap}
use Rattle.pod_commands.specs.Requests.{layout_by}
use Rattle.pod_commands.proofs.request.layout_of.Goals as goal

pub returns : goal.returns
returns c = c.layout_by.ensures ∙ ap layout_by c.is_set.ensures
