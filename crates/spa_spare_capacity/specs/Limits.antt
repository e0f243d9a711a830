-- How many bytes may be written.
use Rattle.std.specs.Prelude.{ℕ, ◌^◌}

-- the greatest number of bytes that `append_array` and its kin append at once
abbrev pub longest_piece : ℕ
longest_piece = 64

-- the length of a vector is below this number
abbrev pub vector_limit : ℕ
vector_limit = 2 ^ 63
