-- The pod at the front of an input, opened: docs/FORMAT.md, "The front of an input".
use Rattle.std.specs.Prelude.{◌≡◌, ℕ, ◌+◌, ◌<◌, ◌≤◌, List, length}
use Rattle.spa_format.specs.Words.{word_at, body_of, header_size, size_limit}
use Rattle.spa_format.specs.Front.{HasFront, rest_of}

-- the front is there, and these are its type number, its body and the bytes that follow it
pub record Opens (input : List ℕ) (type : ℕ) (body rest : List ℕ) : Type 0 where
  pub there : HasFront input
  pub its_type : type ≡ word_at input 4
  pub its_body : body ≡ body_of input
  pub its_rest : rest ≡ rest_of input
  pub shorter : length body + header_size ≤ length input
  pub fits : length body < size_limit
