use Rattle.spav.proofs.WholePods.{not_missed}
use Rattle.spav.proofs.pods.canonical_pod.Goals as goal

pub returns-in_default-clause-none : goal.returns-in_default-clause-none
returns-in_default-clause-none c = λ v. not_missed _ v c.in_default.ensures.missed
