-- The text that is printed on lines of its own: docs/TEXT.md, "What a program has to know".
use Rattle.std.specs.Prelude.{ℕ, ◌+◌, ◌-◌, List, [], ◌∷◌, Bool, true, ◌&&◌, nat_le, if◌then◌else◌}
use Rattle.json.specs.Token.{Token, begin_object, end_object, begin_array, end_array}
use Rattle.json.specs.Layout.{pretty}
use Rattle.json.specs.Print.{print}

-- how deep brackets may stand in one another where each member has a line of its own
abbrev pub LEVEL_LIMIT : ℕ
LEVEL_LIMIT = 32

-- how many brackets are open behind a token
abbrev pub open_behind : (count : ℕ) → Token → ℕ
open_behind count begin_object = count + 1
open_behind count begin_array = count + 1
open_behind count end_object = count - 1
open_behind count end_array = count - 1
open_behind count _ = count

-- where `count` brackets are open before these tokens, at most LEVEL_LIMIT are open behind each of them
abbrev pub is_shallow_behind : (count : ℕ) → List Token → Bool
is_shallow_behind count [] = true
is_shallow_behind count (t ∷ ts) = nat_le (open_behind count t) LEVEL_LIMIT && is_shallow_behind (open_behind count t) ts

-- brackets stand at most 32 deep in one another
abbrev pub is_shallow : List Token → Bool
is_shallow = is_shallow_behind 0

-- on lines of their own, each two spaces deeper for each bracket that is open; on one line where the brackets stand too deep
abbrev pub indented : List Token → List ℕ
indented ts = if is_shallow ts then pretty ts else print ts
