-- What is left to compare of two values, and the steps of a comparison: docs/FORMAT.md, "Values".
use Rattle.std.specs.Prelude.{◌≡◌, ℕ, ◌+◌, ◌≤◌, Bool, true, ◌&&◌, List, [], ◌∷◌}
use Rattle.spa_format.specs.Tree.{Tree, member_node_count, node_count, property_node_count}
use Rattle.spa_value.specs.Equality.{members_eq, properties_eq, tree_eq}
use Rattle.spa_value.specs.Views.{property_views, views}
use Rattle.spa_value.specs.declared.comparison.Pair.{Pair}
use Rattle.spa_value.specs.declared.comparison.Pair.TheVariants as pair
use Rattle.spa_value.specs.declared.comparison.Verdict.{Verdict}
use Rattle.spa_value.specs.declared.comparison.Verdict.TheVariants as verdict
use Rattle.spa_value.specs.declared.comparison.Step.{Step}
use Rattle.spa_value.specs.declared.comparison.Step.TheVariants as step

-- whether the members, or the properties, that are left of the two are equal
abbrev pub pair_eq : Pair → Bool
pair_eq (pair.Members vs ws) = members_eq (views vs.now) (views ws.now)
pair_eq (pair.Properties ps qs) = properties_eq (property_views ps.now) (property_views qs.now)

-- how many values are left of the first, with all values in them
abbrev pub first_count : Pair → ℕ
first_count (pair.Members vs ws) = member_node_count (views vs.now)
first_count (pair.Properties ps qs) = property_node_count (property_views ps.now)

-- whether the two of each of these pairs are equal
abbrev pub all_eq : List Pair → Bool
all_eq [] = true
all_eq (p ∷ ps) = pair_eq p && all_eq ps

-- the verdict fits the two trees: settled, it says whether they are equal; else it gives contents that are equal exactly where the trees are
abbrev pub Compares : Tree → Tree → Verdict → Type 0
Compares v w (verdict.Settled b) = b ≡ tree_eq v w
Compares v w (verdict.Inside p) = (pair_eq p ≡ tree_eq v w) × (first_count p + 1 ≡ node_count v)

-- The step fits a pair whose equality is `answer`, and whose first part has `count` values left: it ends with the answer, or it gives two pairs
-- that are both equal exactly where the whole pair is, with fewer values left.
abbrev pub Steps : Bool → ℕ → Step → Type 0
Steps answer count (step.Ended b) = b ≡ answer
Steps answer count (step.Inside inner left) =
    ((pair_eq inner && pair_eq left) ≡ answer) × (first_count inner + first_count left + 1 ≤ count)
