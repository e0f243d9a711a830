-- The direction opposite to another: docs/FORMAT.md, "Directions".
use Rattle.std.specs.Prelude.{ℕ, if◌then◌else◌, ◌==◌}

-- input (0) and output (1) are swapped, and any other number stays
abbrev pub reversed : ℕ → ℕ
reversed n = if n == 0 then 1 else (if n == 1 then 0 else n)
