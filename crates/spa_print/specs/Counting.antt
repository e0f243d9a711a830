-- How many values are left to print: docs/FORMAT.md, "Values".
use Rattle.std.specs.Prelude.{ℕ, ◌+◌, ◌≤◌}
use Rattle.spa_format.specs.Tree.{member_node_count, property_node_count}
use Rattle.spa_value.specs.Views.{property_views, views}
use Rattle.spa_print.specs.declared.left.Inside.{Inside}
use Rattle.spa_print.specs.declared.left.Left.{Left}
use Rattle.spa_print.specs.declared.left.Left.TheVariants as left

-- how many values are left of a container
abbrev pub left_count : Left → ℕ
left_count (left.Members vs) = member_node_count (views vs.now)
left_count (left.Properties ps) = property_node_count (property_views ps.now)

-- one of `n` values is begun, and those in it and those left behind it are at most the others
abbrev pub GoesInside : ℕ → Inside → Type 0
GoesInside count it = left_count it.inner + left_count it.behind + 1 ≤ count
