-- How long lists of bytes are.
use Rattle.std.proofs.Common.{◌≡◌, ℕ, ◌+◌, ◌-◌, ◌≤◌, List, ◌++◌, length, drop, take, arith, length-append, length-drop}
use Rattle.std.proofs.lemmas.List.{length-take-le}
use Rattle.spa_format.proofs.Encodings.{length-word_bytes}

pub append_length : (a b : List ℕ) → length (a ++ b) ≡ length a + length b
append_length = length-append

pub drop_length : (n : ℕ) (b : List ℕ) → length (drop n b) ≡ length b - n
drop_length = length-drop

pub take_length : (n : ℕ) (b : List ℕ) → n ≤ length b → length (take n b) ≡ n
take_length = length-take-le

-- numbers, and the lengths of what bytes are put together of
pub ruleset lengths = (arith, append_length, drop_length, take_length, length-word_bytes)
