-- Steps of a print: what is left of structs and objects, one within another.
use Rattle.std.proofs.Common.{◌+◌, ◌*◌, ℕ, List, length, sum_by}
use Rattle.spa_print.specs.declared.left.Left.{Left}
use Rattle.spa_print.specs.Counting.{left_count}

-- steps that are left: each goes through some values, or ends the innermost
abbrev pub steps : Left → List Left → ℕ
steps l around = 2 * (left_count l + sum_by left_count around) + length around
