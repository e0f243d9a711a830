-- Objects made plain can be written where the objects can, and are no longer.
use Rattle.std.proofs.Common.{◌≤◌, ℕ, List, ◌∷◌, Bool, true, false, arith, length, length-append, inl, inr}
use Rattle.std.specs.Prelude.{if◌then◌else◌}
use Rattle.spa_format.specs.Encoding.{array_body, encoded_body, encoded_pod, encoding_of, fixed_bodies, property_encodings}
use Rattle.spa_format.specs.Fixation.{may_fixate}
use Rattle.spa_format.specs.Kind.{Kind, Fixed, fixed_body}
use Rattle.spa_format.specs.Tree.{Shape, Tree, fixed, string, bytes, bitmap, array, choice, pointer, struct, object, Properties, no_properties, property, shape_number, type_of}
use Rattle.spa_format.specs.Writable.{HasNul, IsTooLarge, IsWritable, SomeValueHasNul, SomeValueTooLarge}
use Rattle.spa_format.proofs.Short.{length-encoded_pod}
use Rattle.spa_format.proofs.Encodings.{length-property_encoding, length-object, length-behind_two}
use Rattle.spa_format.proofs.Elements.{array_length}
use Rattle.spa_filter_offers.specs.Admits.{plain_of}
use Rattle.spa_meet_commands.specs.Settling.{plain_object, plain_properties}

-- ---- One value

plain_nul : (v : Tree) → HasNul (plain_of v) → HasNul v
plain_nul (choice s f k x xs) h = absurd h
plain_nul (fixed x) h = h
plain_nul (string s) h = h
plain_nul (bytes s) h = h
plain_nul (bitmap s) h = h
plain_nul (array k xs) h = h
plain_nul (pointer t a) h = h
plain_nul (struct vs) h = h
plain_nul (object t i ps) h = h

plain_large : (v : Tree) → IsTooLarge (plain_of v) → IsTooLarge v
plain_large (choice s f k x xs) h = absurd h
plain_large (fixed x) h = h
plain_large (string s) h = h
plain_large (bytes s) h = h
plain_large (bitmap s) h = h
plain_large (array k xs) h = h
plain_large (pointer t a) h = h
plain_large (struct vs) h = h
plain_large (object t i ps) h = h

default_short : (s : Shape) (f : ℕ) (k : Kind) (x : Fixed) (xs : List Fixed) → length (fixed_body x) ≤ length (encoded_body (choice s f k x xs))
default_short s f k x xs =
    let e0 = length-behind_two (shape_number s) f (array_body k (x ∷ xs)) in
    let e1 = array_length k (x ∷ xs) in
    let e2 = length-append (fixed_body x) (fixed_bodies xs) in
    omega (arith, e0, e1, e2)

plain_short : (v : Tree) → length (encoded_body (plain_of v)) ≤ length (encoded_body v)
plain_short (choice s f k x xs) = default_short s f k x xs
plain_short (fixed x) = omega arith
plain_short (string s) = omega arith
plain_short (bytes s) = omega arith
plain_short (bitmap s) = omega arith
plain_short (array k xs) = omega arith
plain_short (pointer t a) = omega arith
plain_short (struct vs) = omega arith
plain_short (object t i ps) = omega arith

pod_short : (t u : ℕ) (b c : List ℕ) → length b ≤ length c → length (encoded_pod t b) ≤ length (encoded_pod u c)
pod_short t u b c h = let l = length-encoded_pod t b in let m = length-encoded_pod u c in omega (arith, l, m, h)

-- ---- One property's value

chosen_nul : (b : Bool) (v : Tree) → HasNul (if b then plain_of v else v) → HasNul v
chosen_nul true v h = plain_nul v h
chosen_nul false v h = h

chosen_large : (b : Bool) (v : Tree) → IsTooLarge (if b then plain_of v else v) → IsTooLarge v
chosen_large true v h = plain_large v h
chosen_large false v h = h

chosen_short : (b : Bool) (v : Tree) → length (encoding_of (if b then plain_of v else v)) ≤ length (encoding_of v)
chosen_short true v = pod_short (type_of (plain_of v)) (type_of v) (encoded_body (plain_of v)) (encoded_body v) (plain_short v)
chosen_short false v = omega arith

-- ---- Properties

values_nul : (ps : Properties) → SomeValueHasNul (plain_properties ps) → SomeValueHasNul ps
values_nul no_properties h = h
values_nul (property k f v ps) (inl h) = inl (chosen_nul (may_fixate f) v h)
values_nul (property k f v ps) (inr h) = inr (values_nul ps h)

values_large : (ps : Properties) → SomeValueTooLarge (plain_properties ps) → SomeValueTooLarge ps
values_large no_properties h = h
values_large (property k f v ps) (inl h) = inl (chosen_large (may_fixate f) v h)
values_large (property k f v ps) (inr h) = inr (values_large ps h)

values_short : (ps : Properties) → length (property_encodings (plain_properties ps)) ≤ length (property_encodings ps)
values_short no_properties = omega arith
values_short (property k f v ps) =
    let e = length-property_encoding k f v ps in
    let d = length-property_encoding k f (if may_fixate f then plain_of v else v) (plain_properties ps) in
    let s = chosen_short (may_fixate f) v in
    let r = values_short ps in
    omega (arith, e, d, s, r)

-- ---- Values

object_nul : (v : Tree) → HasNul (plain_object v) → HasNul v
object_nul (object t i ps) h = values_nul ps h
object_nul (choice s f k x xs) h = h
object_nul (fixed x) h = h
object_nul (string s) h = h
object_nul (bytes s) h = h
object_nul (bitmap s) h = h
object_nul (array k xs) h = h
object_nul (pointer t a) h = h
object_nul (struct vs) h = h

object_large : (v : Tree) → IsTooLarge (plain_object v) → IsTooLarge v
object_large (object t i ps) (inl h) =
    let l = length-object t i ps in
    let m = length-object t i (plain_properties ps) in
    let s = values_short ps in
    inl (omega (arith, h, l, m, s))
object_large (object t i ps) (inr h) = inr (values_large ps h)
object_large (choice s f k x xs) h = h
object_large (fixed x) h = h
object_large (string s) h = h
object_large (bytes s) h = h
object_large (bitmap s) h = h
object_large (array k xs) h = h
object_large (pointer t a) h = h
object_large (struct vs) h = h

pub plain_writable : (v : Tree) → IsWritable v → IsWritable (plain_object v)
plain_writable v w = record { no_nul = λ h. w.no_nul (object_nul v h); fits = λ h. w.fits (object_large v h) }
