-- What stands at the front of a list of tokens: docs/TEXT.md, "The grammar".
use Rattle.std.specs.Prelude.{ℕ, List, [], ◌∷◌, if◌then◌else◌, Option, Some, None}
use Rattle.std.specs.Str.{bytes_eq}
use Rattle.json.specs.Token.{Token}
use Rattle.spa_text_read.specs.Names.{number_of}
use Rattle.spa_names.specs.declared.table.Table.{Table}
use Rattle.spa_text_read.specs.Options.{Reading, and_then}
use Rattle.spa_text_read.specs.Numerals.{unsigned_number}

-- what follows the brace that closes an object
abbrev pub after_end_object : List Token → Option (List Token)
after_end_object [] = None
after_end_object (Token.end_object ∷ ts) = Some ts
after_end_object (_ ∷ ts) = None

-- what follows the brace that opens an object, and the bracket that opens an array
abbrev pub after_begin_object : List Token → Option (List Token)
after_begin_object [] = None
after_begin_object (Token.begin_object ∷ ts) = Some ts
after_begin_object (_ ∷ ts) = None

abbrev pub after_begin_array : List Token → Option (List Token)
after_begin_array [] = None
after_begin_array (Token.begin_array ∷ ts) = Some ts
after_begin_array (_ ∷ ts) = None

-- a key, and what follows the key of this name
abbrev pub any_key : Reading (List ℕ)
any_key [] = None
any_key (Token.key s ∷ ts) = Some (s, ts)
any_key (_ ∷ ts) = None

abbrev pub after_key : List ℕ → List Token → Option (List Token)
after_key name [] = None
after_key name (Token.key s ∷ ts) = if bytes_eq s name then Some ts else None
after_key name (_ ∷ ts) = None

-- a text
abbrev pub any_text : Reading (List ℕ)
any_text [] = None
any_text (Token.string s ∷ ts) = Some (s, ts)
any_text (_ ∷ ts) = None

-- any token
abbrev pub any_token : Reading Token
any_token [] = None
any_token (t ∷ ts) = Some (t, ts)

-- a number of 32 bits
abbrev pub word : Reading ℕ
word [] = None
word (Token.number s ∷ ts) = and_then ts (unsigned_number s)
word (_ ∷ ts) = None

-- a number of 32 bits, by its name in the table or by its digits
abbrev pub number_by_name : Table → Token → Option ℕ
number_by_name t (Token.string s) = number_of t s
number_by_name t (Token.number s) = unsigned_number s
number_by_name t _ = None

abbrev pub name_or_word : Table → Reading ℕ
name_or_word t [] = None
name_or_word t (x ∷ ts) = and_then ts (number_by_name t x)

-- the key of an object that is begun
abbrev pub first_key : Reading Token
first_key [] = None
first_key (Token.key s ∷ ts) = Some (Token.key s, ts)
first_key (_ ∷ ts) = None

-- the first token of a value; of an object its first key in place of the brace
abbrev pub head : Reading Token
head [] = None
head (Token.begin_object ∷ ts) = first_key ts
head (Token.end_object ∷ ts) = None
head (Token.end_array ∷ ts) = None
head (Token.key s ∷ ts) = None
head (Token.bad ∷ ts) = None
head (t ∷ ts) = Some (t, ts)
