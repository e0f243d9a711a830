-- The tokens of what pw-dump prints of params, in the grammar's words: docs/TEXT.md, "What `pw-dump` prints".
use Rattle.std.specs.Prelude.{ℕ, zero, suc, ◌==◌, ◌||◌, ◌&&◌, nat_eq, nat_lt, Bool, true, false, codes, decimal, List, [], ◌∷◌, ◌++◌, if◌then◌else◌, Option, Some, None}
use Rattle.std.specs.List.{starts_with}
use Rattle.std.specs.Option.{is_none, option_map_or}
use Rattle.std.specs.Str.{bytes_eq}
use Rattle.json.specs.Json.{Json, null, boolean, number, string, array, object, Items, no_items, item, Members, no_members, member}
use Rattle.json.specs.Token.{Token}
use Rattle.spa_text_read.specs.Fitting.{object_types}
use Rattle.spa_text_read.specs.declared.fitting.FullType.{FullType}
use Rattle.spa_text_read.specs.declared.fitting.Strictness.TheVariants.{Strict}
use Rattle.spa_text_forms.specs.Order.{anywhere, ordered, under, wanted_under}
use Rattle.spa_text_forms.specs.declared.order.Place.TheVariants.{Wants}

-- ---- Choices

-- a key of a choice of this shape
abbrev pub is_key_of : (shape : List ℕ) → List ℕ → Bool
is_key_of shape s =
    bytes_eq s (codes "default")
    || (if bytes_eq shape (codes "Enum") then starts_with nat_eq s (codes "alt")
    else if bytes_eq shape (codes "Flags") then starts_with nat_eq s (codes "flag")
    else ((bytes_eq s (codes "min") || bytes_eq s (codes "max")) || (bytes_eq shape (codes "Step") && bytes_eq s (codes "step"))))

abbrev pub are_keys_of : (shape : List ℕ) → Members → Bool
are_keys_of shape no_members = true
are_keys_of shape (member k j ms) = is_key_of shape k && are_keys_of shape ms

-- the shape of the choice that these members are of, if they are of one
abbrev pub shape_in : Members → Option (List ℕ)
shape_in ms =
    if is_none (under (codes "default") ms) then None
    else if are_keys_of (codes "Enum") ms then Some (codes "Enum") else if are_keys_of (codes "Flags") ms then Some (codes "Flags")
    else if are_keys_of (codes "Range") ms then Some (codes "Range") else if are_keys_of (codes "Step") ms then Some (codes "Step") else None

-- the turn in which a value of a choice is written, by its key: alternatives and flags share the last one, and stay in their order
abbrev pub turn : List ℕ → ℕ
turn s =
    if bytes_eq s (codes "default") then 0 else if bytes_eq s (codes "min") then 1 else if bytes_eq s (codes "max") then 2
    else if bytes_eq s (codes "step") then 3 else 4

-- how many turns there are
abbrev pub turns : ℕ
turns = 5

-- the tokens of the values of one turn, and of those of all turns below one, turn by turn
abbrev pub values_at : ℕ → Members → List Token
values_at r no_members = []
values_at r (member k j ms) = if turn k == r then ordered Strict anywhere j ++ values_at r ms else values_at r ms

abbrev pub values_below : ℕ → Members → List Token
values_below zero ms = []
values_below (suc r) ms = values_below r ms ++ values_at r ms

abbrev pub choice_head : (shape : List ℕ) → List Token
choice_head shape =
    Token.begin_object ∷ Token.key (codes "choice") ∷ Token.string shape ∷ Token.key (codes "values") ∷ Token.begin_array ∷ []

abbrev pub choice_in : (shape : List ℕ) → Members → List Token
choice_in shape ms = choice_head shape ++ (values_below turns ms ++ Token.end_array ∷ Token.end_object ∷ [])

-- an object with these members: a choice of this shape, else with its keys in the grammar's order
abbrev pub choice_or : FullType → Option (List ℕ) → Members → List Token
choice_or w (Some shape) ms = choice_in shape ms
choice_or w None ms = ordered Strict (Wants w) (object ms)

-- ---- Objects

-- the value under mediaType says video
abbrev pub is_video_type : Json → Bool
is_video_type (string s) = bytes_eq s (codes "video")
is_video_type _ = false

abbrev pub is_video : Members → Bool
is_video ms = option_map_or is_video_type (under (codes "mediaType") ms) false

-- pw-dump prints some keys of audio and of video by one name: the grammar's name of the key, for formats of video and for other objects
abbrev pub key_meant : (video : Bool) → List ℕ → List ℕ
key_meant false s = s
key_meant true s =
    if bytes_eq s (codes "format") then codes "Video:format" else if bytes_eq s (codes "profile") then codes "Video:profile"
    else if bytes_eq s (codes "streamFormat") then codes "H264:streamFormat" else s

abbrev pub object_head : (type id : ℕ) → List Token
object_head t i =
    Token.begin_object ∷ Token.key (codes "type") ∷ Token.number (decimal t) ∷ Token.key (codes "id") ∷ Token.number (decimal i)
    ∷ Token.key (codes "props") ∷ []

abbrev pub object_of : (type id : ℕ) → (props : List Token) → List Token
object_of t i ps = object_head t i ++ (ps ++ Token.end_object ∷ [])

abbrev mutual
  -- a value where this type belongs: an object where one of an object's does, with the id 0
  pub dumped : FullType → Json → List Token
  dumped w (object ms) =
      if nat_lt object_types w.type_.0 then object_of w.type_.0 0 (Token.begin_object ∷ dumped_properties w.type_.0 (is_video ms) ms)
      else choice_or w (shape_in ms) ms
  dumped w null = ordered Strict (Wants w) null
  dumped w (boolean b) = ordered Strict (Wants w) (boolean b)
  dumped w (number s) = ordered Strict (Wants w) (number s)
  dumped w (string s) = ordered Strict (Wants w) (string s)
  dumped w (array js) = ordered Strict (Wants w) (array js)

  -- the properties of an object of this type, and the brace behind them
  pub dumped_properties : (type : ℕ) → (video : Bool) → Members → List Token
  dumped_properties t v no_members = Token.end_object ∷ []
  dumped_properties t v (member k j ms) =
      Token.key (key_meant v k) ∷ (dumped (wanted_under t (key_meant v k)) j ++ dumped_properties t v ms)

-- the properties that the text of an object is
abbrev pub props_of : (type : ℕ) → Json → List Token
props_of t (object ms) = Token.begin_object ∷ dumped_properties t (is_video ms) ms
props_of t j = ordered Strict anywhere j

-- an object of this type and id for each item of a list, with the bracket behind them
abbrev pub objects_of : (type id : ℕ) → Items → List Token
objects_of t i no_items = Token.end_array ∷ []
objects_of t i (item j js) = object_of t i (props_of t j) ++ objects_of t i js

-- what is dumped of params of this type and id: an object, or a list of objects, which is read as a Struct
abbrev pub dump_of : (type id : ℕ) → Json → List Token
dump_of t i (array js) = Token.begin_array ∷ objects_of t i js
dump_of t i j = object_of t i (props_of t j)
