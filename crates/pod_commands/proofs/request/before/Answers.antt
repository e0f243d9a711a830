use Rattle.std.proofs.lemmas.Str.Pattern.{split_once_first}
use Rattle.pod_commands.proofs.Numbered.{none_before}
use Rattle.pod_commands.proofs.request.before.Goals as goal

pub returns-in-Some : goal.returns-in-Some
returns-in-Some c =
    (rw c.in-Some.is at (split_once_first c.args.sign c.args.path.now c.split_once.result c.split_once.ensures.cases c.requires)).1

pub returns-in-None : goal.returns-in-None
returns-in-None c =
    none_before c.args.sign c.args.path.now (rw c.in-None.is at (split_once_first c.args.sign c.args.path.now c.split_once.result c.split_once.ensures.cases c.requires))
