-- How many pod headers a reader opens in an input that it refuses: docs/FORMAT.md, "Counting pods".
use Rattle.std.specs.Prelude.{◌≡◌, ◌≢◌, ℕ, ◌+◌, ◌<◌, ◌≤◌, List, [], ◌++◌, length, drop}
use Rattle.spa_format.specs.Words.{word_at, body_of, header_size}
use Rattle.spa_format.specs.Tree.{struct_type, object_type, Trees, Properties, member_node_count, property_node_count}
use Rattle.spa_format.specs.Pod.{AreMembers, AreProperties}
use Rattle.spa_format.specs.Front.{HasFront, IsRefused}

-- Only the header at the front is opened: the front isn't there, or is neither a struct nor an object, or is an object too short for its type
-- and id.
pub data OpensHeaderAlone (b : List ℕ) : Type 0 where
  no_front : ¬ (HasFront b) → OpensHeaderAlone b
  no_parts : word_at b 4 ≢ struct_type → word_at b 4 ≢ object_type → OpensHeaderAlone b
  short_object : word_at b 4 ≡ object_type → length (body_of b) < header_size → OpensHeaderAlone b

-- this many pod headers are opened in an input that is refused
pub data OpensHeaders : List ℕ → ℕ → Type 0 where
  no_header : (b : List ℕ) → length b < header_size → OpensHeaders b 0
  one_header : (b : List ℕ) → header_size ≤ length b → OpensHeaderAlone b → OpensHeaders b 1
  -- a struct's own header, those of the first members that are pods, and those of the member behind them, which is refused
  in_member : (b : List ℕ) (vs : Trees) (first left : List ℕ) (n : ℕ) → HasFront b → word_at b 4 ≡ struct_type → body_of b ≡ first ++ left → AreMembers vs first → left ≢ [] → IsRefused left → OpensHeaders left n → OpensHeaders b (1 + member_node_count vs + n)
  -- an object's own header, those of the values of the first properties that are pods, and those of the next property's value, which is refused
  in_property : (b : List ℕ) (ps : Properties) (first left : List ℕ) (n : ℕ) → HasFront b → word_at b 4 ≡ object_type → header_size ≤ length (body_of b) → drop header_size (body_of b) ≡ first ++ left → AreProperties ps first → header_size ≤ length left → IsRefused (drop header_size left) → OpensHeaders (drop header_size left) n → OpensHeaders b (1 + property_node_count ps + n)
  -- an object's own header and those of the values of the first properties: the next property's key and flags are cut short
  in_key : (b : List ℕ) (ps : Properties) (first left : List ℕ) → HasFront b → word_at b 4 ≡ object_type → header_size ≤ length (body_of b) → drop header_size (body_of b) ≡ first ++ left → AreProperties ps first → left ≢ [] → length left < header_size → OpensHeaders b (1 + property_node_count ps)
