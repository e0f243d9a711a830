-- Where in a text a token stands: docs/TEXT.md, "Refusals".
use Rattle.std.specs.Prelude.{◌≡◌, ℕ, ◌+◌, ◌-◌, ◌^◌, ◌==◌, List, [], ◌∷◌, ◌++◌, length, reverse, min, decimal, codes, if◌then◌else◌, nat_lt, Option, Some, None}
use Rattle.json.specs.Token.{Token}
use Rattle.spa_text_read.specs.Letters.{shown_text}

-- an object that is open, with the key that was read last, or an array, with how many values are begun in it
pub data Open : Type 0 where
  object : Option (List ℕ) → Open
  array : ℕ → Open

-- a value begins in the innermost; past 2^64 - 1 they aren't counted
abbrev pub one_more : List Open → List Open
one_more (array n ∷ os) = array (min (n + 1) (2 ^ 64 - 1)) ∷ os
one_more os = os

-- a key is read in the innermost
abbrev pub under : List ℕ → List Open → List Open
under s (object k ∷ os) = object (Some s) ∷ os
under s os = os

-- those around the innermost
abbrev pub outer : List Open → List Open
outer [] = []
outer (o ∷ os) = os

-- what is open behind a token, the innermost first
abbrev pub after : Token → List Open → List Open
after Token.begin_object os = object None ∷ one_more os
after Token.begin_array os = array 0 ∷ one_more os
after Token.end_object os = outer os
after Token.end_array os = outer os
after (Token.key s) os = under s os
after _ os = one_more os

-- a front of the tokens opens these, and these tokens are left
pub data Opens : List Token → List Open → List Token → Type 0 where
  none : {ts : List Token} → Opens ts [] ts
  one : {ts us : List Token} {os : List Open} {t : Token} → Opens ts os (t ∷ us) → Opens ts (after t os) us

-- how many bytes of a key, and of a path, are printed before two points stand for the rest
abbrev pub key_limit : ℕ
key_limit = 64

abbrev pub path_limit : ℕ
path_limit = 256

abbrev pub key_text : List ℕ → List ℕ
key_text s = if nat_lt key_limit (length s) then codes ".." else shown_text s

-- a step of a path: a key, or the number of the value begun last
abbrev pub step_text : Open → List ℕ
step_text (object None) = []
step_text (object (Some s)) = codes "." ++ key_text s
step_text (array n) = if n == 0 then [] else codes "[" ++ (decimal (n - 1) ++ codes "]")

-- the path through these, the outermost first, behind this path
abbrev pub path_behind : List ℕ → List Open → List ℕ
path_behind path [] = path
path_behind path (o ∷ os) = if nat_lt path_limit (length path) then path ++ codes ".." else path_behind (path ++ step_text o) os

-- the path of a place in the text: some tokens are read, and the last of them stands there
abbrev pub IsPlace : List Token → List ℕ → Type 0
IsPlace ts path = (os : List Open) × (left : List Token) × Opens ts os left × (path ≡ path_behind [] (reverse os))
