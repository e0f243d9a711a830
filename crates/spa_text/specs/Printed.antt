-- What is printed of a value without floats: docs/TEXT.md, "What is printed".
use Rattle.std.specs.Prelude.{⊤, ℕ, zero, suc, List, [], ◌∷◌, ◌++◌, Bool, false, ◌==◌, if◌then◌else◌, Option, Some, None, codes, decimal}
use Rattle.std.specs.Fmt.{signed_decimal}
use Rattle.std.specs.Int.{w64, to_be_bytes}
use Rattle.std.specs.Str.{bytes_eq}
use Rattle.hex.specs.Hex.{encode_lower}
use Rattle.json.specs.Token.{Token}
use Rattle.json.specs.Print as json
use Rattle.spa_format.specs.Kind.{type_number, Fixed, none, bool, id, int, long, float, double, rectangle, fraction, fd}
use Rattle.spa_format.specs.Tree.{Shape, none_choice, range_choice, step_choice, enum_choice, flags_choice, Tree, fixed, bytes, bitmap, array, choice, pointer, struct, object, Trees, no_trees, member, Properties, no_properties, property}
use Rattle.spa_names.specs.declared.entry.Expected.{Expected}
use Rattle.spa_names.specs.declared.table.Table.{Table}
use Rattle.spa_names.specs.declared.table.Table.TheVariants.{Types}
use Rattle.spa_text_read.specs.Grammar.{Opening, a_struct, an_array, a_choice, an_object, bare, element, nothing, takes_text}
use Rattle.spa_text_read.specs.Names.{expected_under, ids_of, keys_of, name_of}
use Rattle.spa_text_read.specs.Numerals.{unsigned_number}
use Rattle.spa_text_read.specs.declared.tag.Scalar.{Scalar}
use Rattle.spa_text_read.specs.declared.tag.Scalar.TheVariants as scalar

-- ---- No floats

-- the number is no float, and none of these is
abbrev pub IsNoFloat : Fixed → Type 0
IsNoFloat (float n) = ⊥
IsNoFloat (double n) = ⊥
IsNoFloat _ = ⊤

abbrev pub AreNoFloats : List Fixed → Type 0
AreNoFloats [] = ⊤
AreNoFloats (x ∷ xs) = IsNoFloat x × AreNoFloats xs

abbrev mutual
  -- no float is in the value
  pub HasNoFloat : Tree → Type 0
  HasNoFloat (fixed x) = IsNoFloat x
  HasNoFloat (array k xs) = AreNoFloats xs
  HasNoFloat (choice s f k x xs) = AreNoFloats (x ∷ xs)
  HasNoFloat (struct vs) = HaveNoFloat vs
  HasNoFloat (object t i ps) = HoldNoFloat ps
  HasNoFloat _ = ⊤

  -- nor in one of these members, or of these properties
  pub HaveNoFloat : Trees → Type 0
  HaveNoFloat no_trees = ⊤
  HaveNoFloat (member v vs) = HasNoFloat v × HaveNoFloat vs

  pub HoldNoFloat : Properties → Type 0
  HoldNoFloat no_properties = ⊤
  HoldNoFloat (property k f v ps) = HasNoFloat v × HoldNoFloat ps

-- ---- Names

-- a number by its name in the table, by its digits where it has none
abbrev pub name_or_digits : Option (List ℕ) → ℕ → Token
name_or_digits (Some name) n = Token.string name
name_or_digits None n = Token.number (decimal n)

-- the token of a number, by its name in this table
abbrev pub name_token : Table → ℕ → Token
name_token t n = name_or_digits (name_of t n) n

-- a key by its name; by its digits where it has none, or one that is a number itself
abbrev pub unless_number : List ℕ → ℕ → Option ℕ → List ℕ
unless_number name k None = name
unless_number name k (Some n) = decimal k

abbrev pub key_or_digits : Option (List ℕ) → ℕ → List ℕ
key_or_digits None k = decimal k
key_or_digits (Some name) k = unless_number name k (unsigned_number name)

-- the text of a key, by its name in this table
abbrev pub key_text : Table → ℕ → List ℕ
key_text t k = key_or_digits (name_of t k) k

-- ---- Values without members

-- one token in an object of this key
abbrev pub tagged : List ℕ → Token → List Token
tagged name x = Token.begin_object ∷ Token.key name ∷ x ∷ Token.end_object ∷ []

-- the tag of a type
abbrev pub scalar_text : Scalar → List ℕ
scalar_text scalar.Id = codes "id"
scalar_text scalar.Int = codes "int"
scalar_text scalar.Long = codes "long"
scalar_text scalar.Float = codes "float"
scalar_text scalar.Double = codes "double"
scalar_text scalar.Fd = codes "fd"

-- the two are the same: they have one tag
abbrev pub same_scalar : Scalar → Scalar → Bool
same_scalar j k = bytes_eq (scalar_text j) (scalar_text k)

-- a number bare where one of its type is expected, else with its tag
abbrev pub scalar_tokens : Expected → Scalar → Token → List Token
scalar_tokens c k x = if same_scalar (bare c.type_.0) k then x ∷ [] else tagged (scalar_text k) x

-- an object of two numbers
abbrev pub two_tokens : List ℕ → ℕ → List ℕ → ℕ → List Token
two_tokens first m second n =
    Token.begin_object ∷ Token.key first ∷ Token.number (decimal m) ∷ Token.key second ∷ Token.number (decimal n) ∷ Token.end_object ∷ []

-- the tokens of a value of fixed size; which a float has isn't stated, and no clause asks for it
abbrev pub fixed_tokens : Expected → Fixed → List Token
fixed_tokens c none = Token.null ∷ []
fixed_tokens c (bool b) = Token.boolean b ∷ []
fixed_tokens c (id n) = scalar_tokens c scalar.Id (name_token c.ids n)
fixed_tokens c (int z) = scalar_tokens c scalar.Int (Token.number (signed_decimal z))
fixed_tokens c (long z) = scalar_tokens c scalar.Long (Token.number (signed_decimal z))
fixed_tokens c (fd z) = scalar_tokens c scalar.Fd (Token.number (signed_decimal z))
fixed_tokens c (rectangle m n) = two_tokens (codes "width") m (codes "height") n
fixed_tokens c (fraction m n) = two_tokens (codes "num") m (codes "denom") n
fixed_tokens c (float n) = []
fixed_tokens c (double n) = []

-- the tokens of several such values, one after another
abbrev pub list_tokens : Expected → List Fixed → List Token
list_tokens c [] = []
list_tokens c (x ∷ xs) = fixed_tokens c x ++ list_tokens c xs

-- a text with its tag where a bare one would be a number
abbrev pub text_tokens : Expected → List ℕ → List Token
text_tokens c s = if takes_text c.type_.0 then tagged (codes "string") (Token.string s) else Token.string s ∷ []

-- a pointer, with its address by its bits
abbrev pub pointer_tokens : (type address : ℕ) → List Token
pointer_tokens t a =
    Token.begin_object ∷ Token.key (codes "pointer") ∷ name_token Types t ∷ Token.key (codes "address")
    ∷ Token.string (codes "0x" ++ encode_lower (to_be_bytes w64 a)) ∷ Token.end_object ∷ []

-- ---- Values with members, up to these

-- the name of a shape
abbrev pub shape_text : Shape → List ℕ
shape_text none_choice = codes "None"
shape_text range_choice = codes "Range"
shape_text step_choice = codes "Step"
shape_text enum_choice = codes "Enum"
shape_text flags_choice = codes "Flags"

-- a choice's flags under their key, if there are any
abbrev pub flag_tokens : ℕ → List Token
flag_tokens zero = []
flag_tokens (suc n) = Token.key (codes "flags") ∷ Token.number (decimal (suc n)) ∷ []

-- its type, unless it is expected
abbrev pub type_tokens : (expected type : ℕ) → List Token
type_tokens e t = if e == t then [] else Token.key (codes "of") ∷ name_token Types t ∷ []

-- an array, a choice, a struct or an object that is begun
abbrev pub front_of : Expected → Opening → List Token
front_of c (a_struct b) = Token.begin_array ∷ []
front_of c (an_array t k) =
    Token.begin_object ∷ Token.key (codes "array") ∷ name_token Types (type_number k) ∷ Token.key (codes "values") ∷ Token.begin_array ∷ []
front_of c (a_choice s f t k) =
    Token.begin_object ∷ Token.key (codes "choice") ∷ Token.string (shape_text s)
    ∷ (flag_tokens f ++ (type_tokens c.type_.0 (type_number k) ++ Token.key (codes "values") ∷ Token.begin_array ∷ []))
front_of c (an_object t i) =
    Token.begin_object ∷ Token.key (codes "type") ∷ name_token Types t ∷ Token.key (codes "id") ∷ name_token (ids_of t) i
    ∷ Token.key (codes "props") ∷ Token.begin_object ∷ []

-- a property's flags before its value, if there are any, and the brace behind it
abbrev pub flags_front : ℕ → List Token
flags_front zero = []
flags_front (suc n) =
    Token.begin_object ∷ Token.key (codes "flags") ∷ Token.number (decimal (suc n)) ∷ Token.key (codes "value") ∷ []

abbrev pub flags_end : ℕ → List Token
flags_end zero = []
flags_end (suc n) = Token.end_object ∷ []

-- ---- Values

-- an array or a choice of these elements
abbrev pub listed : List Token → List Token → List Token
listed front ts = front ++ (ts ++ Token.end_array ∷ Token.end_object ∷ [])

abbrev mutual
  -- a value, where this is expected
  pub tokens_of : Expected → Tree → List Token
  tokens_of c (fixed x) = fixed_tokens c x
  tokens_of c (Tree.string s) = text_tokens c s
  tokens_of c (bytes s) = tagged (codes "bytes") (Token.string (encode_lower s))
  tokens_of c (bitmap s) = tagged (codes "bitmap") (Token.string (encode_lower s))
  tokens_of c (pointer t a) = pointer_tokens t a
  tokens_of c (array k xs) = listed (front_of c (an_array c.ids k)) (list_tokens (element c.ids k) xs)
  tokens_of c (choice s f k x xs) = listed (front_of c (a_choice s f c.ids k)) (list_tokens (element c.ids k) (x ∷ xs))
  tokens_of c (struct vs) = front_of c (a_struct false) ++ member_tokens vs
  tokens_of c (object t i ps) = front_of c (an_object t i) ++ property_tokens (keys_of t) ps

  -- members, and properties under keys of this table, with the end behind them
  pub member_tokens : Trees → List Token
  member_tokens no_trees = Token.end_array ∷ []
  member_tokens (member v vs) = tokens_of nothing v ++ member_tokens vs

  pub property_tokens : Table → Properties → List Token
  property_tokens t no_properties = Token.end_object ∷ Token.end_object ∷ []
  property_tokens t (property k f v ps) =
      Token.key (key_text t k) ∷ (flags_front f ++ (tokens_of (expected_under t k) v ++ (flags_end f ++ property_tokens t ps)))

-- the line of a value
abbrev pub line_of : Tree → List ℕ
line_of v = json.print (tokens_of nothing v)
