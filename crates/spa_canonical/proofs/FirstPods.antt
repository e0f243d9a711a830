-- First pods of an input, and what is true of all if it is of the others.
use Rattle.std.proofs.Common.{◌≡◌, ℕ, List, ◌++◌, sym, ap, ◌∙◌, append_assoc}
use Rattle.spa_format.specs.Tree.{Trees, join_members}
use Rattle.spa_format.specs.Pod.{AreMembers}
use Rattle.spa_format.proofs.Sequences.{members_joined}
use Rattle.spa_canonical.specs.Rewriting.{IsLeft}

-- what is left behind first pods, and others
pub left_behind_pods : (input first rest left : List ℕ) (vs : Trees) → input ≡ first ++ rest → AreMembers vs first → IsLeft rest left → IsLeft input left
left_behind_pods input first rest left vs e m l = (
  join_members vs l.0,
  first ++ l.1,
  e ∙ ap (λ x. first ++ x) l.2 ∙ sym (append_assoc first l.1 left),
  members_joined vs l.0 first l.1 m l.3,
  l.4,
)
