-- The frames and values of the grammar that the reader's own types stand for. Only the crate's private clauses cite it.
use Rattle.std.specs.Prelude.{◌≡◌, List, map, Bool, codes, Option, option_map, Some, None, ⊤}
use Rattle.spa_format.specs.Kind.{Kind, none_kind, bool_kind, id_kind, int_kind, long_kind, float_kind, double_kind, rectangle_kind, fraction_kind, fd_kind, Fixed, none, bool, id, int, long, float, double, rectangle, fraction, fd}
use Rattle.spa_format.specs.Tree.{Tree, fixed, bytes, bitmap, array, choice, pointer, struct, object}
use Rattle.spa_value.specs.declared.array.ValueArray.{ValueArray}
use Rattle.spa_value.specs.declared.array.ValueArray.TheVariants as A
use Rattle.spa_value.specs.View.{view}
use Rattle.spa_value.specs.Views.{views, property_views}
use Rattle.spa_text_read.specs.Grammar as grammar
use Rattle.spa_text_read.specs.Grammar.{Leaf, a_number, a_text, some_bytes, a_bitmap, a_pointer, tree, leaf, begun, Opening, a_struct, an_array, a_choice, an_object, close, hex_bytes, pointer_at, tagged_scalar, two_words}
use Rattle.json.specs.Json.{after_end_array}
use Rattle.json.specs.Token.{Token}
use Rattle.json.specs.declared.token.Token as Rust
use Rattle.json.specs.Reads.{token_of}
use Rattle.spa_names.specs.declared.entry.Expected.{Expected}
use Rattle.spa_text_read.specs.Options.{Reading}
use Rattle.spa_text_read.specs.Tokens.{any_text, head}
use Rattle.spa_text_read.specs.Shapes.{shape_of}
use Rattle.spa_text_read.specs.Steps as steps
use Rattle.spa_text_read.specs.Steps.{Frame, in_struct, in_array, in_choice, in_object, frame, ended, wants, ends, expects}
use Rattle.spa_text_read.specs.declared.tag.Tag.{Tag}
use Rattle.spa_text_read.specs.declared.tag.Tag.TheVariants as tag
use Rattle.spa_text_read.specs.declared.inside.Inside.{Inside}
use Rattle.spa_text_read.specs.declared.inside.Inside.TheVariants as inside
use Rattle.spa_text_read.specs.declared.inside.Opened.{Opened}
use Rattle.spa_text_read.specs.declared.inside.Opened.TheVariants as opened
use Rattle.spa_text_read.specs.declared.inside.Next.{Next}
use Rattle.spa_text_read.specs.declared.inside.Next.TheVariants as next
use Rattle.spa_text_read.specs.declared.element.Element.{Element}
use Rattle.spa_text_read.specs.declared.element.Element.TheVariants as element

-- the kind of the values of an array, and what they say
abbrev pub kind_in : ValueArray → Kind
kind_in (A.None xs) = none_kind
kind_in (A.Bool xs) = bool_kind
kind_in (A.Id xs) = id_kind
kind_in (A.Int xs) = int_kind
kind_in (A.Long xs) = long_kind
kind_in (A.Float xs) = float_kind
kind_in (A.Double xs) = double_kind
kind_in (A.Rectangle xs) = rectangle_kind
kind_in (A.Fraction xs) = fraction_kind
kind_in (A.Fd xs) = fd_kind

abbrev pub items_in : ValueArray → List Fixed
items_in (A.None xs) = map (λ _. none) xs.items
items_in (A.Bool xs) = map (λ x. bool x) xs.items
items_in (A.Id xs) = map (λ x. id x.0) xs.items
items_in (A.Int xs) = map (λ x. int x) xs.items
items_in (A.Long xs) = map (λ x. long x) xs.items
items_in (A.Float xs) = map (λ x. float x.0) xs.items
items_in (A.Double xs) = map (λ x. double x.0) xs.items
items_in (A.Rectangle xs) = map (λ x. rectangle x.width x.height) xs.items
items_in (A.Fraction xs) = map (λ x. fraction x.num x.denom) xs.items
items_in (A.Fd xs) = map (λ x. fd x.0) xs.items

-- what is begun, and what is read of it
abbrev pub opening_of : Inside → Opening
opening_of (inside.Struct b vs) = a_struct b
opening_of (inside.Array t xs) = an_array t (kind_in xs)
opening_of (inside.Choice s f t xs) = a_choice (shape_of s) f t (kind_in xs)
opening_of (inside.Object o) = an_object o.type_ o.id

abbrev pub frame_of : Inside → Frame
frame_of (inside.Struct b vs) = in_struct b (views vs.items)
frame_of (inside.Array t xs) = in_array t (kind_in xs) (items_in xs)
frame_of (inside.Choice s f t xs) = in_choice (shape_of s) f t (kind_in xs) (items_in xs)
frame_of (inside.Object o) = in_object o.type_ o.id (property_views o.properties.items) o.key o.flags.0 o.braced

-- nothing is read of it yet
abbrev pub IsFresh : Inside → Type 0
IsFresh i = frame_of i ≡ frame (opening_of i)

-- a value without members
abbrev pub leaf_of : Tree → Leaf
leaf_of (fixed x) = a_number x
leaf_of (Tree.string s) = a_text s
leaf_of (bytes s) = some_bytes s
leaf_of (bitmap s) = a_bitmap s
leaf_of (pointer t a) = a_pointer t a
leaf_of (array k xs) = a_number none
leaf_of (choice s f k x xs) = a_number none
leaf_of (struct vs) = a_number none
leaf_of (object t i ps) = a_number none

-- what a reading says as a leaf
abbrev pub says : {A : Type 0} → (A → Leaf) → Option (A × List Token) → Option (Leaf × List Token)
says f r = option_map (λ p. (f p.0, p.1)) r

-- a value without members by its object's first key, up to the brace behind it
abbrev pub leaf_at : Expected → Tag → Reading Leaf
leaf_at c (tag.Scalar k) ts = says (λ x. a_number x) (tagged_scalar k c.ids ts)
leaf_at c tag.String ts = says (λ s. a_text s) (any_text ts)
leaf_at c tag.Bytes ts = says (λ s. some_bytes s) (hex_bytes ts)
leaf_at c tag.Bitmap ts = says (λ s. a_bitmap s) (hex_bytes ts)
leaf_at c tag.Width ts = says (λ p. a_number (rectangle p.0 p.1)) (two_words (codes "height") ts)
leaf_at c tag.Num ts = says (λ p. a_number (fraction p.0 p.1)) (two_words (codes "denom") ts)
leaf_at c tag.Pointer ts = says (λ p. a_pointer p.0 p.1) (pointer_at ts)
leaf_at c _ ts = None

abbrev pub opened_of : Opened → grammar.Opened
opened_of (opened.Leaf v) = leaf (leaf_of (view v))
opened_of (opened.Begun i) = begun (opening_of i)

-- a leaf has no members, and what is begun is fresh
abbrev pub IsOpened : Opened → Type 0
IsOpened (opened.Leaf v) = tree (leaf_of (view v)) ≡ view v
IsOpened (opened.Begun i) = IsFresh i

-- what an element says
abbrev pub said_by : Element → Fixed
said_by element.None = none
said_by (element.Bool x) = bool x
said_by (element.Id x) = id x.0
said_by (element.Int x) = int x
said_by (element.Long x) = long x
said_by (element.Float x) = float x.0
said_by (element.Double x) = double x.0
said_by (element.Rectangle x) = rectangle x.width x.height
said_by (element.Fraction x) = fraction x.num x.denom
said_by (element.Fd x) = fd x.0

-- what is next in the frame
abbrev pub next_of : Frame → Next → steps.Next
next_of f next.Ended = ended
next_of f (next.Wants t c) = wants f c (token_of t)

-- what has ended is as it was
abbrev pub KeepsAtEnd : Next → Inside → Inside → Type 0
KeepsAtEnd next.Ended old new = new ≡ old
KeepsAtEnd (next.Wants t c) old new = ⊤

-- the frame's values stand in brackets, with this behind the end, and this is expected of each
pub record IsListed (f : Frame) (braced : Bool) (c : Expected) : Type 0 where
  pub ends_so : (ts : List Token) → ends f ts ≡ close braced ts
  pub expects_so : expects f ≡ c

-- the bracket behind the items of an array is taken, or the first token of the next item
abbrev pub IsItem : List Token → Option Rust.Token → List Token → Type 0
IsItem old None new = after_end_array old ≡ Some new
IsItem old (Some t) new = (after_end_array old ≡ None) × (head old ≡ Some (token_of t, new))
