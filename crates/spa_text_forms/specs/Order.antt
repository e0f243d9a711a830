-- The tokens of a text in the order of the grammar: docs/TEXT.md, "Texts in another order".
use Rattle.std.specs.Prelude.{ℕ, zero, suc, ◌==◌, ◌||◌, ◌&&◌, Bool, true, false, codes, decimal, List, [], ◌∷◌, ◌++◌, if◌then◌else◌, Option, Some, None, unwrap_or}
use Rattle.std.specs.Option.{option_map_or}
use Rattle.std.specs.Str.{bytes_eq}
use Rattle.json.specs.Json.{Json, null, boolean, number, string, array, object, Items, no_items, item, Members, no_members, member}
use Rattle.json.specs.Token.{Token}
use Rattle.spa_format.specs.Tree.{array_type}
use Rattle.spa_names.specs.declared.table.Table.TheVariants.{Types}
use Rattle.spa_text_read.specs.Fitting.{full, type_under}
use Rattle.spa_text_read.specs.Grammar.{key_number}
use Rattle.spa_text_read.specs.Names.{keys_of, number_of}
use Rattle.spa_text_read.specs.Numerals.{unsigned_number}
use Rattle.spa_text_read.specs.declared.fitting.FullType.{FullType}
use Rattle.spa_text_read.specs.declared.fitting.Strictness.{Strictness}
use Rattle.spa_text_read.specs.declared.fitting.Strictness.TheVariants.{Plain, Strict}
use Rattle.spa_text_forms.specs.declared.order.Place.{Place}
use Rattle.spa_text_forms.specs.declared.order.Place.TheVariants.{Wants, Properties}

-- where a key comes among those that the grammar has in an order; other keys come last
abbrev pub rank : List ℕ → ℕ
rank s =
    if bytes_eq s (codes "type") then 0 else if bytes_eq s (codes "choice") then 1 else if bytes_eq s (codes "array") then 2
    else if bytes_eq s (codes "width") then 3 else if bytes_eq s (codes "num") then 4 else if bytes_eq s (codes "pointer") then 5
    else if bytes_eq s (codes "id") then 6 else if bytes_eq s (codes "flags") then 7 else if bytes_eq s (codes "of") then 8
    else if bytes_eq s (codes "height") then 9 else if bytes_eq s (codes "denom") then 10 else if bytes_eq s (codes "address") then 11
    else if bytes_eq s (codes "props") then 12 else if bytes_eq s (codes "value") then 13 else if bytes_eq s (codes "values") then 14 else 15

-- how many ranks there are
abbrev pub ranks : ℕ
ranks = 16

-- properties stay in their order
abbrev pub rank_in : Place → List ℕ → ℕ
rank_in (Properties t) s = 0
rank_in (Wants w) s = rank s

-- the place of a value of which no type is known
abbrev pub anywhere : Place
anywhere = Wants (full 0 0)

-- the number, or 0
abbrev pub or_zero : Option ℕ → ℕ
or_zero (Some n) = n
or_zero None = 0

-- the value under the first of these keys that has this name
abbrev pub under : List ℕ → Members → Option Json
under s no_members = None
under s (member k j ms) = if bytes_eq k s then Some j else under s ms

-- the number of the type that a value names, and of the one that an object names; 0 where it names none
abbrev pub type_named : Json → ℕ
type_named (string s) = or_zero (number_of Types s)
type_named (number s) = or_zero (unsigned_number s)
type_named _ = 0

abbrev pub type_in : Members → ℕ
type_in ms = option_map_or type_named (under (codes "type") ms) 0

-- the type that belongs under a key of an object of this type
abbrev pub type_of_key : (type : ℕ) → Option ℕ → FullType
type_of_key t (Some k) = type_under t k
type_of_key t None = full 0 0

abbrev pub wanted_under : (type : ℕ) → List ℕ → FullType
wanted_under t s = type_of_key t (key_number (keys_of t) s)

-- where the value under a key is, in an object of this place and this type
abbrev pub place_under : Place → (type : ℕ) → List ℕ → Place
place_under (Properties of) t s = Wants (wanted_under of s)
place_under (Wants w) t s =
    if bytes_eq s (codes "props") then Properties t else if bytes_eq s (codes "value") then Wants w else anywhere

-- the element type of the array that a list at this place stands for; None where it stands for a struct, as for a reader that isn't strict
abbrev pub element_in : Strictness → Place → Option ℕ
element_in Plain p = None
element_in Strict (Properties t) = None
element_in Strict (Wants w) = if w.type_.0 == array_type then Some w.element.0 else None

-- what stands before the items of a list and behind its bracket: of an array, the type of whose elements this is, a tag and a brace
abbrev pub list_head : Option ℕ → List Token
list_head None = Token.begin_array ∷ []
list_head (Some n) =
    Token.begin_object ∷ Token.key (codes "array") ∷ Token.number (decimal n) ∷ Token.key (codes "values") ∷ Token.begin_array ∷ []

abbrev pub list_end : Option ℕ → List Token
list_end None = []
list_end (Some n) = Token.end_object ∷ []

abbrev pub list_in : Option ℕ → List Token → List Token
list_in e ts = list_head e ++ (ts ++ list_end e)

-- of keys with the tokens of their values: the tokens of those of one rank, and of those of all ranks below one, rank by rank
abbrev pub at_rank : (List ℕ → ℕ) → ℕ → List (List ℕ × List Token) → List Token
at_rank f r [] = []
at_rank f r (x ∷ xs) = if f x.0 == r then Token.key x.0 ∷ (x.1 ++ at_rank f r xs) else at_rank f r xs

abbrev pub below : (List ℕ → ℕ) → ℕ → List (List ℕ × List Token) → List Token
below f zero xs = []
below f (suc r) xs = below f r xs ++ at_rank f r xs

abbrev pub object_in : Place → List (List ℕ × List Token) → List Token
object_in p xs = Token.begin_object ∷ (below (rank_in p) ranks xs ++ Token.end_object ∷ [])

abbrev mutual
  -- the tokens of a value at this place, the keys of its objects in the grammar's order
  pub ordered : Strictness → Place → Json → List Token
  ordered s p null = Token.null ∷ []
  ordered s p (boolean b) = Token.boolean b ∷ []
  ordered s p (number x) = Token.number x ∷ []
  ordered s p (string x) = Token.string x ∷ []
  ordered s p (array js) = list_in (element_in s p) (items_in s js)
  ordered s p (object ms) = object_in p (pieces s p (type_in ms) ms)

  -- the items of a list, with the bracket behind them
  pub items_in : Strictness → Items → List Token
  items_in s no_items = Token.end_array ∷ []
  items_in s (item j js) = ordered s anywhere j ++ items_in s js

  -- the keys of an object of this place and this type, each with the tokens of its value
  pub pieces : Strictness → Place → (type : ℕ) → Members → List (List ℕ × List Token)
  pieces s p t no_members = []
  pieces s p t (member k j ms) = (k, ordered s (place_under p t k) j) ∷ pieces s p t ms

-- ---- Values with a place

-- the path to a value, or the head of the message in which it was found
abbrev pub is_place : List ℕ → Json → Bool
is_place k (string s) = bytes_eq k (codes "path") || bytes_eq k (codes "head")
is_place k _ = false

abbrev pub are_places : Members → Bool
are_places no_members = true
are_places (member k j ms) = is_place k j && are_places ms

-- the members are those of a place, and one more under `value`
abbrev pub has_place : Members → Bool
has_place no_members = false
has_place (member k j ms) = if is_place k j then has_place ms else bytes_eq k (codes "value") && are_places ms

-- the first member that is none of a place's
abbrev pub beside_place : Members → Option Json
beside_place no_members = None
beside_place (member k j ms) = if is_place k j then beside_place ms else Some j

abbrev pub placed_in : Members → Option Json
placed_in ms = if has_place ms then beside_place ms else None

-- the value of an object that has nothing but a value and its place; any other JSON as it is
abbrev pub without_place : Json → Json
without_place (object ms) = unwrap_or (placed_in ms) (object ms)
without_place j = j
