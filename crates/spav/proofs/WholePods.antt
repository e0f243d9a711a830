-- Canonical pods, and what adding their values comes to.
use Rattle.std.proofs.Common.{◌≡◌, ◌<◌, ℕ, List, [], refl, sym, ◌∙◌, arith, append-nil}
use Rattle.spa_format.specs.Front.{HasFront, front_of, rest_of}
use Rattle.spa_format.specs.Pod.{IsBody, IsPod}
use Rattle.spa_format.specs.Tree.{Tree, type_of}
use Rattle.spa_format.proofs.Fronts.{front_of_whole, pod_begins}
use Rattle.spa_canonical.specs.Canonical.{BeginsCanonical}
use Rattle.spa_canonical.specs.Depth.{depth_of, levels_looked_into}
use Rattle.spa_view.specs.Tests as t
use Rattle.spav.specs.Building.{IsPodOf}

-- a pod is at the front of itself, and nothing follows it
pub whole_pod : (b : List ℕ) (v : Tree) → IsPod b v → HasFront b × (b ≡ front_of b) × ([] ≡ rest_of b)
whole_pod b v h = front_of_whole b b [] (type_of v) (IsBody v) (sym (append-nil b)) h

-- none is missed
pub not_missed : (b : List ℕ) (v : Tree) → ((rest : List ℕ) (c : BeginsCanonical b rest) → levels_looked_into < depth_of c.value) → ¬ (IsPodOf b v)
not_missed b v m h =
    let w = whole_pod b v h.pod in
    let l : levels_looked_into < depth_of v =
    m (rest_of b) (record { value = v; begins = record { begins = pod_begins b v h.pod; follows = refl }; same = sym w.1 ∙ h.own }) in
    let s = h.shallow in
    absurd (omega arith)
