-- The text of a value, as the tokens of strict JSON: docs/TEXT.md, "The grammar".
use Rattle.std.specs.Prelude.{◌≡◌, ℕ, List, [], ◌∷◌, Bool, true, false, ◌||◌, ◌==◌, if◌then◌else◌, ℤ, Option, Some, None, codes, option_map}
use Rattle.std.specs.Str.{bytes_eq}
use Rattle.hex.specs.Hex.{decode_of}
use Rattle.json.specs.Token.{Token}
use Rattle.json.specs.Json.{after_end_array, read_key}
use Rattle.json.specs.Lex.{tokens}
use Rattle.spa_format.specs.Kind.{Kind, none_kind, bool_kind, id_kind, int_kind, long_kind, float_kind, double_kind, rectangle_kind, fraction_kind, fd_kind, Fixed, none, bool, id, int, long, float, double, rectangle, fraction, fd, kind_of, type_number}
use Rattle.spa_format.specs.Tree.{Shape, none_choice, range_choice, step_choice, enum_choice, flags_choice, Tree, fixed, bytes, bitmap, array, choice, pointer, struct, object, Trees, no_trees, member, Properties, no_properties, property}
use Rattle.spa_value.specs.Equality.{kind_eq}
use Rattle.spa_names.specs.declared.entry.Expected.{Expected}
use Rattle.spa_names.specs.declared.table.Table.{Table}
use Rattle.spa_names.specs.declared.table.Table.TheVariants.{Types, Nothing}
use Rattle.spa_text_read.specs.Names.{number_of, keys_of, ids_of, expected_under}
use Rattle.spa_text_read.specs.declared.tag.Tag.{Tag}
use Rattle.spa_text_read.specs.declared.tag.Tag.TheVariants as tag
use Rattle.spa_text_read.specs.declared.tag.Scalar.{Scalar}
use Rattle.spa_text_read.specs.declared.tag.Scalar.TheVariants as scalar
use Rattle.spa_text_read.specs.Options.{◌>>=◌, Reading, and_then}
use Rattle.spa_text_read.specs.Numerals.{ok_of, unsigned_number, signed_number, word_bits, wide_bits, float_digits, double_digits}
use Rattle.spa_text_read.specs.Tokens.{after_begin_array, after_begin_object, after_end_object, after_key, any_key, any_text, any_token, head, name_or_word, number_by_name, word}

-- ---- What is expected

-- nothing is known of the place
abbrev pub nothing : Expected
nothing = record { type_ = record { 0 = 0 }; element = record { 0 = 0 }; ids = Nothing }

-- an element of this kind, whose ids have these names
abbrev pub element : Table → Kind → Expected
element t k = record { type_ = record { 0 = type_number k }; element = record { 0 = 0 }; ids = t }

-- the kind of this type number
abbrev pub type_kind : ℕ → Option Kind
type_kind n =
    if n == 1 then Some none_kind else if n == 2 then Some bool_kind else if n == 3 then Some id_kind
    else if n == 4 then Some int_kind else if n == 5 then Some long_kind else if n == 6 then Some float_kind
    else if n == 7 then Some double_kind else if n == 10 then Some rectangle_kind
    else if n == 11 then Some fraction_kind else if n == 18 then Some fd_kind else None

-- what a bare number is where this type is expected
abbrev pub bare : ℕ → Scalar
bare n =
    if n == 3 then scalar.Id else if n == 5 then scalar.Long else if n == 6 then scalar.Float
    else if n == 7 then scalar.Double else if n == 18 then scalar.Fd else scalar.Int

-- a bare text is a number there: an id's name, or a float's bits
abbrev pub takes_text : ℕ → Bool
takes_text n = n == 3 || (n == 6 || n == 7)

-- ---- Values without members

-- what one token says of a number
abbrev pub int_of : Token → Option Fixed
int_of (Token.number s) = option_map (λ n. int n) (signed_number 31 s)
int_of _ = None

abbrev pub wide_of : Token → Option ℤ
wide_of (Token.number s) = signed_number 63 s
wide_of _ = None

abbrev pub float_of : Token → Option Fixed
float_of (Token.string s) = option_map (λ n. float n) (word_bits s)
float_of (Token.number s) = option_map (λ n. float n) (float_digits s)
float_of _ = None

abbrev pub double_of : Token → Option Fixed
double_of (Token.string s) = option_map (λ n. double n) (wide_bits s)
double_of (Token.number s) = option_map (λ n. double n) (double_digits s)
double_of _ = None

abbrev pub scalar_of : Scalar → Table → Token → Option Fixed
scalar_of scalar.Id t x = option_map (λ n. id n) (number_by_name t x)
scalar_of scalar.Int t x = int_of x
scalar_of scalar.Long t x = option_map (λ n. long n) (wide_of x)
scalar_of scalar.Fd t x = option_map (λ n. fd n) (wide_of x)
scalar_of scalar.Float t x = float_of x
scalar_of scalar.Double t x = double_of x

-- a struct, an array, a choice or an object that is begun
pub data Opening : Type 0 where
  a_struct : (tagged : Bool) → Opening
  an_array : Table → Kind → Opening
  a_choice : Shape → (flags : ℕ) → Table → Kind → Opening
  an_object : (type id : ℕ) → Opening

-- a value without members
pub data Leaf : Type 0 where
  a_number : Fixed → Leaf
  a_text : List ℕ → Leaf
  some_bytes : List ℕ → Leaf
  a_bitmap : List ℕ → Leaf
  a_pointer : (type address : ℕ) → Leaf

abbrev pub tree : Leaf → Tree
tree (a_number x) = fixed x
tree (a_text s) = Tree.string s
tree (some_bytes s) = bytes s
tree (a_bitmap s) = bitmap s
tree (a_pointer t a) = pointer t a

-- a whole value, or one that is begun
pub data Opened : Type 0 where
  leaf : Leaf → Opened
  begun : Opening → Opened

-- the value that an object's last value makes of it
abbrev pub ending : {A : Type 0} → (A → Leaf) → Option (A × List Token) → Option (Opened × List Token)
ending f r = r >>= (λ p. option_map (λ us. (leaf (f p.0), us)) (after_end_object p.1))

-- two numbers, the second under this key
abbrev pub two_words : List ℕ → Reading (ℕ × ℕ)
two_words name ts = do
  m ← word ts
  us ← after_key name m.1
  n ← word us
  Some ((m.0, n.0), n.1)

-- a number in one token
abbrev pub tagged_scalar : Scalar → Table → Reading Fixed
tagged_scalar k t ts = any_token ts >>= (λ p. and_then p.1 (scalar_of k t p.0))

-- a text of two digits for each byte
abbrev pub hex_bytes : Reading (List ℕ)
hex_bytes ts = any_text ts >>= (λ p. and_then p.1 (ok_of (decode_of p.0)))

-- a type and an address
abbrev pub pointer_at : Reading (ℕ × ℕ)
pointer_at ts = do
  t ← name_or_word Types ts
  us ← after_key (codes "address") t.1
  a ← any_text us
  n ← wide_bits a.0
  Some ((t.0, n), a.1)

-- ---- Values with members

abbrev pub shape_named : List ℕ → Option Shape
shape_named s =
    if bytes_eq s (codes "None") then Some none_choice else if bytes_eq s (codes "Range") then Some range_choice
    else if bytes_eq s (codes "Step") then Some step_choice else if bytes_eq s (codes "Enum") then Some enum_choice
    else if bytes_eq s (codes "Flags") then Some flags_choice else None

-- a number under this key, if that is the key that was read, and the key behind it
abbrev pub field : List ℕ → Reading ℕ → ℕ → (List ℕ × List Token) → Option (ℕ × (List ℕ × List Token))
field name f other p =
    if bytes_eq p.0 name then (f p.1 >>= (λ n. option_map (λ k. (n.0, k)) (any_key n.1))) else Some (other, p)

abbrev pub choice_flags : (List ℕ × List Token) → Option (ℕ × (List ℕ × List Token))
choice_flags p = field (codes "flags") word 0 p

abbrev pub choice_type : ℕ → (List ℕ × List Token) → Option (ℕ × (List ℕ × List Token))
choice_type n p = field (codes "of") (name_or_word Types) n p

abbrev pub choice_at : Expected → Reading Opening
choice_at c ts = do
  s ← any_text ts
  shape ← shape_named s.0
  k ← any_key s.1
  flags ← choice_flags k
  of ← choice_type c.type_.0 flags.1
  kind ← type_kind of.0
  us ← if bytes_eq of.1.0 (codes "values") then after_begin_array of.1.1 else None
  Some (a_choice shape flags.0 c.ids kind, us)

abbrev pub array_at : Expected → Reading Opening
array_at c ts = do
  n ← name_or_word Types ts
  kind ← type_kind n.0
  us ← after_key (codes "values") n.1
  vs ← after_begin_array us
  Some (an_array c.ids kind, vs)

abbrev pub object_at : Reading Opening
object_at ts = do
  t ← name_or_word Types ts
  us ← after_key (codes "id") t.1
  i ← name_or_word (ids_of t.0) us
  vs ← after_key (codes "props") i.1
  ws ← after_begin_object vs
  Some (an_object t.0 i.0, ws)

abbrev pub starting : Option (Opening × List Token) → Option (Opened × List Token)
starting r = option_map (λ p. (begun p.0, p.1)) r

-- an object by its first key
abbrev pub tagged_at : Expected → Tag → Reading Opened
tagged_at c (tag.Scalar k) ts = ending (λ x. a_number x) (tagged_scalar k c.ids ts)
tagged_at c tag.String ts = ending (λ s. a_text s) (any_text ts)
tagged_at c tag.Bytes ts = ending (λ s. some_bytes s) (hex_bytes ts)
tagged_at c tag.Bitmap ts = ending (λ s. a_bitmap s) (hex_bytes ts)
tagged_at c tag.Width ts = ending (λ p. a_number (rectangle p.0 p.1)) (two_words (codes "height") ts)
tagged_at c tag.Num ts = ending (λ p. a_number (fraction p.0 p.1)) (two_words (codes "denom") ts)
tagged_at c tag.Pointer ts = ending (λ p. a_pointer p.0 p.1) (pointer_at ts)
tagged_at c tag.Struct ts = option_map (λ us. (begun (a_struct true), us)) (after_begin_array ts)
tagged_at c tag.Array ts = starting (array_at c ts)
tagged_at c tag.Choice ts = starting (choice_at c ts)
tagged_at c tag.Object ts = starting (object_at ts)
tagged_at c tag.Other ts = None

abbrev pub tag_named : List ℕ → Tag
tag_named s =
    if bytes_eq s (codes "type") then tag.Object else if bytes_eq s (codes "choice") then tag.Choice
    else if bytes_eq s (codes "width") then tag.Width else if bytes_eq s (codes "num") then tag.Num
    else if bytes_eq s (codes "int") then tag.Scalar scalar.Int else if bytes_eq s (codes "id") then tag.Scalar scalar.Id
    else if bytes_eq s (codes "long") then tag.Scalar scalar.Long
    else if bytes_eq s (codes "float") then tag.Scalar scalar.Float
    else if bytes_eq s (codes "double") then tag.Scalar scalar.Double
    else if bytes_eq s (codes "fd") then tag.Scalar scalar.Fd else if bytes_eq s (codes "array") then tag.Array
    else if bytes_eq s (codes "struct") then tag.Struct else if bytes_eq s (codes "string") then tag.String
    else if bytes_eq s (codes "bytes") then tag.Bytes else if bytes_eq s (codes "bitmap") then tag.Bitmap
    else if bytes_eq s (codes "pointer") then tag.Pointer else tag.Other

-- what begins with this token, where this is expected
unfoldable pub opens : Expected → Token → Reading Opened
opens c Token.null ts = Some (leaf (a_number none), ts)
opens c (Token.boolean b) ts = Some (leaf (a_number (bool b)), ts)
opens c (Token.number s) ts = and_then ts (option_map (λ x. leaf (a_number x)) (scalar_of (bare c.type_.0) c.ids (Token.number s)))
opens c (Token.string s) ts =
    if takes_text c.type_.0 then and_then ts (option_map (λ x. leaf (a_number x)) (scalar_of (bare c.type_.0) c.ids (Token.string s)))
    else Some (leaf (a_text s), ts)
opens c Token.begin_array ts = Some (begun (a_struct false), ts)
opens c (Token.key s) ts = tagged_at c (tag_named s) ts
opens c _ ts = None

-- ---- Members

-- what follows a brace that closes an object, where there is one to close
abbrev pub close : Bool → List Token → Option (List Token)
close true ts = after_end_object ts
close false ts = Some ts

-- the choice of these values, the default first, where there are as many as its shape takes
abbrev pub chosen : Shape → ℕ → Kind → List Fixed → Option Tree
chosen none_choice f k (x ∷ []) = Some (choice none_choice f k x [])
chosen range_choice f k (x ∷ a ∷ b ∷ []) = Some (choice range_choice f k x (a ∷ b ∷ []))
chosen step_choice f k (x ∷ a ∷ b ∷ s ∷ []) = Some (choice step_choice f k x (a ∷ b ∷ s ∷ []))
chosen enum_choice f k (x ∷ xs) = Some (choice enum_choice f k x xs)
chosen flags_choice f k (x ∷ xs) = Some (choice flags_choice f k x xs)
chosen _ f k _ = None

-- there is none over values of no size
abbrev pub choice_of : Shape → ℕ → Kind → List Fixed → Option Tree
choice_of s f k xs = if kind_eq k none_kind then None else chosen s f k xs

-- a key's number: by its digits, or by its name
abbrev pub or_else : {A : Type 0} → Option A → Option A → Option A
or_else (Some x) other = Some x
or_else None other = other

abbrev pub key_number : Table → List ℕ → Option ℕ
key_number t s = or_else (unsigned_number s) (number_of t s)

-- the flags of a property, whether a brace follows its value, and the first token of that
abbrev pub is_flags : Token → Bool
is_flags (Token.key s) = bytes_eq s (codes "flags")
is_flags _ = false

abbrev pub flagged_at : List Token → Option ((ℕ × (Bool × Token)) × List Token)
flagged_at ts = do
  n ← word ts
  us ← after_key (codes "value") n.1
  h ← head us
  Some ((n.0, (true, h.0)), h.1)

abbrev pub property_at : List Token → Option ((ℕ × (Bool × Token)) × List Token)
property_at ts = head ts >>= (λ h. if is_flags h.0 then flagged_at h.1 else Some ((0, (false, h.0)), h.1))

-- these values of one kind, and the bracket behind them
abbrev pub AreElements : Expected → Kind → List Fixed → List Token → List Token → Type 0
AreElements c k [] ts rest = after_end_array ts ≡ Some rest
AreElements c k (x ∷ xs) ts rest =
    (h : Token) × (us : List Token) × (vs : List Token) × (after_end_array ts ≡ None) × (head ts ≡ Some (h, us))
    × (opens c h us ≡ Some (leaf (a_number x), vs)) × (kind_eq (kind_of x) k ≡ true) × AreElements c k xs vs rest

abbrev mutual
  -- Where this is expected, a value begins with this token, goes on with these, and `rest` follows it. Each clause has the same three parts: what
  -- `opens` says begins here; what is in it; the brace or bracket that closes it. docs/TEXT.md, "The definition, by an example", goes through one text.
  -- Of the text [5] it says: where nothing is known, the Struct of the Int 5 begins with `[`, goes on with `5` and `]`, and nothing follows it.
  pub ReadsValue : Expected → Tree → Token → List Token → List Token → Type 0
  ReadsValue c (array k xs) h ts rest =
      (t : Table) × (us : List Token) × (vs : List Token) × (opens c h ts ≡ Some (begun (an_array t k), us))
      × AreElements (element t k) k xs us vs × (after_end_object vs ≡ Some rest)
  ReadsValue c (choice s f k x xs) h ts rest =
      (t : Table) × (us : List Token) × (vs : List Token) × (opens c h ts ≡ Some (begun (a_choice s f t k), us))
      × AreElements (element t k) k (x ∷ xs) us vs × (choice_of s f k (x ∷ xs) ≡ Some (choice s f k x xs))
      × (after_end_object vs ≡ Some rest)
  ReadsValue c (struct vs) h ts rest =
      (b : Bool) × (us : List Token) × (ws : List Token) × (opens c h ts ≡ Some (begun (a_struct b), us))
      × AreMembers vs us ws × (close b ws ≡ Some rest)
  ReadsValue c (object t i ps) h ts rest =
      (us : List Token) × (ws : List Token) × (opens c h ts ≡ Some (begun (an_object t i), us))
      × AreProperties (keys_of t) ps us ws × (after_end_object ws ≡ Some rest)
  ReadsValue c (fixed x) h ts rest = opens c h ts ≡ Some (leaf (a_number x), rest)
  ReadsValue c (Tree.string s) h ts rest = opens c h ts ≡ Some (leaf (a_text s), rest)
  ReadsValue c (bytes s) h ts rest = opens c h ts ≡ Some (leaf (some_bytes s), rest)
  ReadsValue c (bitmap s) h ts rest = opens c h ts ≡ Some (leaf (a_bitmap s), rest)
  ReadsValue c (pointer t a) h ts rest = opens c h ts ≡ Some (leaf (a_pointer t a), rest)

  -- these members, and the bracket behind them
  pub AreMembers : Trees → List Token → List Token → Type 0
  AreMembers no_trees ts rest = after_end_array ts ≡ Some rest
  AreMembers (member v vs) ts rest =
      (h : Token) × (us : List Token) × (ws : List Token) × (after_end_array ts ≡ None) × (head ts ≡ Some (h, us))
      × ReadsValue nothing v h us ws × AreMembers vs ws rest

  -- these properties under keys of this table, and the brace behind them
  pub AreProperties : Table → Properties → List Token → List Token → Type 0
  AreProperties t no_properties ts rest = read_key ts ≡ Some (None, rest)
  AreProperties t (property k f v ps) ts rest =
      (name : List ℕ) × (us : List Token) × (b : Bool) × (h : Token) × (vs : List Token) × (ws : List Token) × (xs : List Token)
      × (read_key ts ≡ Some (Some name, us)) × (key_number t name ≡ Some k) × (property_at us ≡ Some ((f, (b, h)), vs))
      × ReadsValue (expected_under t k) v h vs ws × (close b ws ≡ Some xs) × AreProperties t ps xs rest

-- the tokens begin with a value, where this is expected, and this follows it
abbrev pub ReadsAs : Expected → Tree → List Token → List Token → Type 0
ReadsAs c v ts rest = (h : Token) × (us : List Token) × (head ts ≡ Some (h, us)) × ReadsValue c v h us rest

-- the text is one of this value: where nothing is known, it reads as the value, and nothing follows it
abbrev pub IsTextOf : Tree → List ℕ → Type 0
IsTextOf v text = ReadsAs nothing v (tokens text) []
