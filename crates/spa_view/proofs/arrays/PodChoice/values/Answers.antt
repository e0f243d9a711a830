use Rattle.std.proofs.Common.{◌∷◌, sym, subst, arith}
use Rattle.std.proofs.lemmas.Grind.{common_steps}
use Rattle.spa_format.specs.Pod.{IsArray}
use Rattle.spa_format.specs.Words.{body_of}
use Rattle.spa_view.proofs.ReadElements.{chosen_values}
use Rattle.spa_view.proofs.arrays.PodChoice.values.Goals as goal

pub returns-clause-values : goal.returns-clause-values
returns-clause-values c = grind (arith, common_steps)

pub returns-clause-accepted : goal.returns-clause-accepted
returns-clause-accepted c s f k x xs h =
    subst (IsArray k (x ∷ xs)) (sym (returns-clause-values c)) (chosen_values s f k x xs (body_of c.args.self.now.pod.bytes.now) h.content)
