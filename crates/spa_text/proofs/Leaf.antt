-- Values without members, read from what is printed of them.
use Rattle.std.proofs.Common.{◌≡◌, ◌≢◌, ◌⊎◌, inl, inr, ℕ, ◌<◌, ◌^◌, List, [], ◌∷◌, ◌++◌, Bool, true, false, ◌||◌, ◌==◌, refl, sym, ap, subst, ◌∙◌, arith, append-nil}
use Rattle.std.specs.Prelude.{ℤ, Option, Some, None, codes, decimal, if◌then◌else◌, option_map}
use Rattle.std.specs.Fmt.{signed_decimal}
use Rattle.std.specs.Int.{w32, w64, to_be_bytes}
use Rattle.std.specs.Int.Signed.{mag}
use mir.Val.{SFits, of_z, to_z}
use Rattle.std.proofs.lemmas.Int.{to_z-of_z}
use Rattle.std.proofs.lemmas.Option.{none-some}
use Rattle.std.proofs.lemmas.Slice.Eq.{bytes_eq-Decides}
use Rattle.hex.specs.Hex.{IsBytes, encode_lower}
use Rattle.json.specs.Token.{Token}
use Rattle.spa_format.specs.Kind.{Fixed, id, int, long, float, double, rectangle, fraction, fd, none, bool}
use Rattle.spa_format.specs.Tree.{fixed, string, bytes, bitmap, pointer}
use Rattle.spa_names.specs.declared.entry.Expected.{Expected}
use Rattle.spa_names.specs.declared.table.Table.{Table}
use Rattle.spa_names.specs.declared.table.Table.TheVariants.{Types}
use Rattle.spa_text_read.specs.Grammar.{a_number, a_text, bare, ending, leaf, opens, scalar_of, tag_named, tagged_at, takes_text, wide_of, float_of, double_of, some_bytes, a_bitmap}
use Rattle.spa_text_read.specs.Names.{name_of}
use Rattle.spa_text_read.specs.Options.{and_then}
use Rattle.spa_text.specs.Printed.{IsNoFloat, fixed_tokens, name_or_digits, name_token, same_scalar, scalar_text, scalar_tokens, tagged, two_tokens}
use Rattle.spa_text_read.specs.Tokens.{head}
use Rattle.spa_text.specs.Written.{BeginsNumber, Prints, Puts, PutsName, closing}
use Rattle.spa_text_read.specs.declared.tag.Scalar.{Scalar}
use Rattle.spa_text_read.specs.declared.tag.Scalar.TheVariants as scalar
use Rattle.spa_text_read.specs.declared.tag.Tag.TheVariants as tag
use Rattle.spa_text.proofs.Appending.{append_on}
use Rattle.spa_text.proofs.Numbers.{hex-bytes, signed_number-decimal, unsigned_number-decimal, wide_bits-text}

-- ---- Numbers

-- a type whose numbers may be texts
is_text : Scalar → Bool
is_text scalar.Id = true
is_text scalar.Float = true
is_text scalar.Double = true
is_text _ = false

by_tests : (a l x d h : Bool) →
    is_text (if a then scalar.Id else if l then scalar.Long else if x then scalar.Float else if d then scalar.Double else if h then scalar.Fd else scalar.Int) ≡ true →
    (a || (x || d)) ≡ true
unfolding is_text
by_tests true l x d h e = refl
by_tests false true x d h e = cc
by_tests false false true d h e = refl
by_tests false false false true h e = refl
by_tests false false false false true e = cc
by_tests false false false false false e = cc

text_number : (k : Scalar) (t : Table) (s : List ℕ) (f : Fixed) → scalar_of k t (Token.string s) ≡ Some f → is_text k ≡ true
unfolding is_text
text_number scalar.Id t s f e = refl
text_number scalar.Float t s f e = refl
text_number scalar.Double t s f e = refl
text_number scalar.Int t s f e = absurd (none-some f e)
text_number scalar.Long t s f e = absurd (none-some f e)
text_number scalar.Fd t s f e = absurd (none-some f e)

number_or_text : (k : Scalar) (t : Table) (x : Token) (f : Fixed) → scalar_of k t x ≡ Some f →
    ((s : List ℕ) × (x ≡ Token.number s)) ⊎ ((s : List ℕ) × (x ≡ Token.string s))
number_or_text k t (Token.number s) f e = inl (s, refl)
number_or_text k t (Token.string s) f e = inr (s, refl)
number_or_text scalar.Id t _ f e = absurd (none-some f e)
number_or_text scalar.Int t _ f e = absurd (none-some f e)
number_or_text scalar.Long t _ f e = absurd (none-some f e)
number_or_text scalar.Fd t _ f e = absurd (none-some f e)
number_or_text scalar.Float t _ f e = absurd (none-some f e)
number_or_text scalar.Double t _ f e = absurd (none-some f e)

-- a bare number
bare_number : (c : Expected) (k : Scalar) (f : Fixed) (x : Token) (rest : List Token) → bare c.type_.0 ≡ k → scalar_of k c.ids x ≡ Some f →
    (head (x ∷ rest) ≡ Some (x, rest)) × (opens c x rest ≡ Some (leaf (a_number f), rest))
unfolding opens
bare_number c k f x rest b e = by_token (number_or_text k c.ids x f e)
  where
    number : (y : Token) → scalar_of k c.ids y ≡ Some f →
        and_then rest (option_map (λ z. leaf (a_number z)) (scalar_of (bare c.type_.0) c.ids y)) ≡ Some (leaf (a_number f), rest)
    number y d =
        ap (λ j. and_then rest (option_map (λ z. leaf (a_number z)) (scalar_of j c.ids y))) b
        ∙ ap (λ o. and_then rest (option_map (λ z. leaf (a_number z)) o)) d

    text : (s : List ℕ) → scalar_of k c.ids (Token.string s) ≡ Some f → opens c (Token.string s) rest ≡ Some (leaf (a_number f), rest)
    text s d =
        ap (λ t. if t then and_then rest (option_map (λ z. leaf (a_number z)) (scalar_of (bare c.type_.0) c.ids (Token.string s))) else Some (leaf (a_text s), rest))
        (by_tests (c.type_.0 == 3) (c.type_.0 == 5) (c.type_.0 == 6) (c.type_.0 == 7) (c.type_.0 == 18) (ap is_text b ∙ text_number k c.ids s f d))
        ∙ number (Token.string s) d

    by_token : ((s : List ℕ) × (x ≡ Token.number s)) ⊎ ((s : List ℕ) × (x ≡ Token.string s)) →
        (head (x ∷ rest) ≡ Some (x, rest)) × (opens c x rest ≡ Some (leaf (a_number f), rest))
    by_token (inl p) =
        subst (λ y. (head (y ∷ rest) ≡ Some (y, rest)) × (opens c y rest ≡ Some (leaf (a_number f), rest))) (sym p.1)
        (refl, number (Token.number p.0) (subst (λ y. scalar_of k c.ids y ≡ Some f) p.1 e))
    by_token (inr p) =
        subst (λ y. (head (y ∷ rest) ≡ Some (y, rest)) × (opens c y rest ≡ Some (leaf (a_number f), rest))) (sym p.1)
        (refl, text p.0 (subst (λ y. scalar_of k c.ids y ≡ Some f) p.1 e))

-- one in an object of its name
tagged_number : (c : Expected) (k : Scalar) (f : Fixed) (name : List ℕ) (x : Token) (rest : List Token) → tag_named name ≡ tag.Scalar k →
    scalar_of k c.ids x ≡ Some f → opens c (Token.key name) (x ∷ Token.end_object ∷ rest) ≡ Some (leaf (a_number f), rest)
unfolding opens
tagged_number c k f name x rest t e =
    ap (λ g. tagged_at c g (x ∷ Token.end_object ∷ rest)) t
    ∙ ap (λ o. ending (λ z. a_number z) (and_then (Token.end_object ∷ rest) o)) e

-- the tag of a type
tag_text : (k : Scalar) → tag_named (scalar_text k) ≡ tag.Scalar k
tag_text scalar.Id = refl
tag_text scalar.Int = refl
tag_text scalar.Long = refl
tag_text scalar.Float = refl
tag_text scalar.Double = refl
tag_text scalar.Fd = refl

-- whether two types are the same
same : (k : Scalar) → same_scalar k k ≡ true
same scalar.Id = refl
same scalar.Int = refl
same scalar.Long = refl
same scalar.Float = refl
same scalar.Double = refl
same scalar.Fd = refl

is_same : (j k : Scalar) → same_scalar j k ≡ true → j ≡ k
is_same j k e =
    let t : tag.Scalar j ≡ tag.Scalar k = sym (tag_text j) ∙ ap tag_named ((bytes_eq-Decides (scalar_text j) (scalar_text k)).0 e) ∙ tag_text k in cc

-- what a test leads to
pub choose : {A : Type 0} (b : Bool) (x y : A) → b ≡ true → (if b then x else y) ≡ x
choose true x y e = refl
choose false x y e = cc

pub refuse : {A : Type 0} (b : Bool) (x y : A) → (b ≡ true → ⊥) → (if b then x else y) ≡ y
refuse true x y e = absurd (e refl)
refuse false x y e = refl

-- a number bare, and with its tag
bare_tokens : (c : Expected) (k : Scalar) (x : Token) → bare c.type_.0 ≡ k → scalar_tokens c k x ≡ x ∷ []
bare_tokens c k x e = choose (same_scalar (bare c.type_.0) k) (x ∷ []) (tagged (scalar_text k) x) (ap (λ j. same_scalar j k) e ∙ same k)

tagged_tokens : (c : Expected) (k : Scalar) (x : Token) → bare c.type_.0 ≢ k → scalar_tokens c k x ≡ tagged (scalar_text k) x
tagged_tokens c k x d =
    refuse (same_scalar (bare c.type_.0) k) (x ∷ []) (tagged (scalar_text k) x) (λ e. d (is_same (bare c.type_.0) k e))

pub number_printed : (c : Expected) (k : Scalar) (b : Bool) (f : Fixed) (o p q r : List Token) → BeginsNumber b c.type_.0 k o p →
    (w : Puts (scalar_of k c.ids) f p q) → (IsNoFloat f → scalar_tokens c k w.token ≡ fixed_tokens c f) → r ≡ q ++ closing b →
    Prints c (fixed f) o r
number_printed c k true f o p q r s w x d = record {
  ts = tagged (scalar_text k) w.token;
  appended =
      append_on o (Token.begin_object ∷ Token.key (scalar_text k) ∷ w.token ∷ []) (Token.end_object ∷ [])
      (append_on o (Token.begin_object ∷ Token.key (scalar_text k) ∷ []) (w.token ∷ []) s.0 w.appended) d;
  reads = λ rest.
      (Token.key (scalar_text k), w.token ∷ Token.end_object ∷ rest, refl, tagged_number c k f (scalar_text k) w.token rest (tag_text k) w.said);
  exact = λ h. sym (tagged_tokens c k w.token s.1) ∙ x h;
}
number_printed c k false f o p q r s w x d = record {
  ts = w.token ∷ [];
  appended = d ∙ append-nil q ∙ w.appended ∙ ap (λ l. l ++ w.token ∷ []) s.0;
  reads = λ rest. let n = bare_number c k f w.token rest s.1 w.said in (w.token, rest, n.0, n.1);
  exact = λ h. sym (bare_tokens c k w.token s.1) ∙ x h;
}

-- a number without a name
pub unnamed : {A : Type 0} (g : A → List ℕ) (o : Option A) (t : Table) (n : ℕ) → o ≡ None → option_map g o ≡ name_of t n →
    Token.number (decimal n) ≡ name_token t n
unnamed g o t n e d = ap (λ x. name_or_digits x n) (ap (option_map g) (sym e) ∙ d)

-- numbers by their types, from what their texts say
said_by : {A B : Type 0} (f : Token → Option A) (g : A → B) (x : A) (o n : List Token) → Puts f x o n → Puts (λ t. option_map g (f t)) (g x) o n
said_by f g x o n w = record { token = w.token; appended = w.appended; said = ap (option_map g) w.said }

wide_written : (z : ℤ) (o n : List Token) → mag z < 2 ^ 63 → n ≡ o ++ Token.number (signed_decimal z) ∷ [] → Puts wide_of z o n
wide_written z o n h e = record { token = Token.number (signed_decimal z); appended = e; said = signed_number-decimal 63 z h h }

pub id_printed : (c : Expected) (b : Bool) (n : ℕ) (o p q r : List Token) → BeginsNumber b c.type_.0 scalar.Id o p →
    PutsName c.ids n p q → r ≡ q ++ closing b → Prints c (fixed (id n)) o r
id_printed c b n o p q r s w d =
    number_printed c scalar.Id b (id n) o p q r s (record { token = w.token; appended = w.appended; said = ap (option_map (λ m. id m)) w.said })
    (λ h. ap (λ x. scalar_tokens c scalar.Id x) w.exact) d

-- a signed_number number, as it was passed on
passed : (z : ℤ) (o n : List Token) → SFits w64 z → n ≡ o ++ Token.number (signed_decimal (to_z w64 (of_z w64 z))) ∷ [] →
    n ≡ o ++ Token.number (signed_decimal z) ∷ []
passed z o n h e = e ∙ ap (λ y. o ++ Token.number (signed_decimal y) ∷ []) (to_z-of_z w64 z h)

pub int_printed : (c : Expected) (b : Bool) (z : ℤ) (o p q r : List Token) → SFits w32 z → BeginsNumber b c.type_.0 scalar.Int o p →
    q ≡ p ++ Token.number (signed_decimal (to_z w64 (of_z w64 (to_z w32 (of_z w32 z))))) ∷ [] → r ≡ q ++ closing b → Prints c (fixed (int z)) o r
int_printed c b z o p q r h s e d =
    let narrow = e ∙ ap (λ y. p ++ Token.number (signed_decimal (to_z w64 (of_z w64 y))) ∷ []) (to_z-of_z w32 z h) in
    let fits : mag z < 2 ^ 31 = h.sfits in
    let same = passed z p q (record { sfits = omega (arith, fits) }) narrow in
    number_printed c scalar.Int b (int z) o p q r s
    (record { token = Token.number (signed_decimal z); appended = same; said = ap (option_map (λ n. int n)) (signed_number-decimal 31 z (omega (arith, fits)) fits) })
    (λ h. refl) d

pub long_printed : (c : Expected) (b : Bool) (z : ℤ) (o p q r : List Token) → SFits w64 z → BeginsNumber b c.type_.0 scalar.Long o p →
    q ≡ p ++ Token.number (signed_decimal (to_z w64 (of_z w64 z))) ∷ [] → r ≡ q ++ closing b → Prints c (fixed (long z)) o r
unfolding said_by wide_written
long_printed c b z o p q r h s e d =
    number_printed c scalar.Long b (long z) o p q r s (said_by wide_of (λ n. long n) z p q (wide_written z p q h.sfits (passed z p q h e))) (λ h. refl) d

pub fd_printed : (c : Expected) (b : Bool) (z : ℤ) (o p q r : List Token) → SFits w64 z → BeginsNumber b c.type_.0 scalar.Fd o p →
    q ≡ p ++ Token.number (signed_decimal (to_z w64 (of_z w64 z))) ∷ [] → r ≡ q ++ closing b → Prints c (fixed (fd z)) o r
unfolding said_by wide_written
fd_printed c b z o p q r h s e d =
    number_printed c scalar.Fd b (fd z) o p q r s (said_by wide_of (λ n. fd n) z p q (wide_written z p q h.sfits (passed z p q h e))) (λ h. refl) d

pub float_printed : (c : Expected) (b : Bool) (n : ℕ) (o p q r : List Token) → BeginsNumber b c.type_.0 scalar.Float o p →
    Puts float_of (float n) p q → r ≡ q ++ closing b → Prints c (fixed (float n)) o r
float_printed c b n o p q r s w d = number_printed c scalar.Float b (float n) o p q r s w (λ h. absurd h) d

pub double_printed : (c : Expected) (b : Bool) (n : ℕ) (o p q r : List Token) → BeginsNumber b c.type_.0 scalar.Double o p →
    Puts double_of (double n) p q → r ≡ q ++ closing b → Prints c (fixed (double n)) o r
double_printed c b n o p q r s w d = number_printed c scalar.Double b (double n) o p q r s w (λ h. absurd h) d

-- ---- Values of one token, and of an object

pub none_printed : (c : Expected) (o n : List Token) → n ≡ o ++ Token.null ∷ [] → Prints c (fixed none) o n
unfolding opens
none_printed c o n e = record { ts = Token.null ∷ []; appended = e; reads = λ rest. (Token.null, rest, refl, refl); exact = λ h. refl }

pub bool_printed : (c : Expected) (b : Bool) (o n : List Token) → n ≡ o ++ Token.boolean b ∷ [] → Prints c (fixed (bool b)) o n
unfolding opens
bool_printed c b o n e = record { ts = Token.boolean b ∷ []; appended = e; reads = λ rest. (Token.boolean b, rest, refl, refl); exact = λ h. refl }

pub rectangle_printed : (c : Expected) (m n : ℕ) (o p : List Token) → m < 2 ^ 32 → n < 2 ^ 32 →
    p ≡ o ++ two_tokens (codes "width") m (codes "height") n → Prints c (fixed (rectangle m n)) o p
unfolding opens
rectangle_printed c m n o p h g e = record {
  ts = two_tokens (codes "width") m (codes "height") n;
  appended = e;
  reads = λ rest. (Token.key (codes "width"), _, refl, rw (unsigned_number-decimal m h, unsigned_number-decimal n g) refl);
  exact = λ h. refl;
}

pub fraction_printed : (c : Expected) (m n : ℕ) (o p : List Token) → m < 2 ^ 32 → n < 2 ^ 32 →
    p ≡ o ++ two_tokens (codes "num") m (codes "denom") n → Prints c (fixed (fraction m n)) o p
unfolding opens
fraction_printed c m n o p h g e = record {
  ts = two_tokens (codes "num") m (codes "denom") n;
  appended = e;
  reads = λ rest. (Token.key (codes "num"), _, refl, rw (unsigned_number-decimal m h, unsigned_number-decimal n g) refl);
  exact = λ h. refl;
}

pub text_bare : (c : Expected) (s : List ℕ) (o n : List Token) → takes_text c.type_.0 ≡ false → n ≡ o ++ Token.string s ∷ [] →
    Prints c (string s) o n
unfolding opens
text_bare c s o n t e = record {
  ts = Token.string s ∷ [];
  appended = e;
  reads = λ rest. (
    Token.string s,
    rest,
    refl,
    ap (λ b. if b then and_then rest (option_map (λ z. leaf (a_number z)) (scalar_of (bare c.type_.0) c.ids (Token.string s))) else Some (leaf (a_text s), rest)) t,
  );
  exact = λ h. sym (ap (λ b. if b then tagged (codes "string") (Token.string s) else Token.string s ∷ []) t);
}

-- an object of one token
pub one_appended : (name : List ℕ) (x : Token) (o p q r : List Token) → p ≡ o ++ Token.begin_object ∷ Token.key name ∷ [] → q ≡ p ++ x ∷ [] →
    r ≡ q ++ Token.end_object ∷ [] → r ≡ o ++ Token.begin_object ∷ Token.key name ∷ x ∷ Token.end_object ∷ []
one_appended name x o p q r e d f =
    append_on o (Token.begin_object ∷ Token.key name ∷ x ∷ []) (Token.end_object ∷ [])
    (append_on o (Token.begin_object ∷ Token.key name ∷ []) (x ∷ []) e d) f

pub text_tagged : (c : Expected) (s : List ℕ) (o p q r : List Token) → takes_text c.type_.0 ≡ true → p ≡ o ++ Token.begin_object ∷ Token.key (codes "string") ∷ [] →
    q ≡ p ++ Token.string s ∷ [] → r ≡ q ++ Token.end_object ∷ [] → Prints c (string s) o r
unfolding opens
text_tagged c s o p q r t e d f = record {
  ts = Token.begin_object ∷ Token.key (codes "string") ∷ Token.string s ∷ Token.end_object ∷ [];
  appended = one_appended (codes "string") (Token.string s) o p q r e d f;
  reads = λ rest. (Token.key (codes "string"), Token.string s ∷ Token.end_object ∷ rest, refl, refl);
  exact = λ h. sym (ap (λ b. if b then tagged (codes "string") (Token.string s) else Token.string s ∷ []) t);
}

pub bytes_printed : (c : Expected) (bs s : List ℕ) (o p q r : List Token) → IsBytes bs → s ≡ encode_lower bs → p ≡ o ++ Token.begin_object ∷ Token.key (codes "bytes") ∷ [] →
    q ≡ p ++ Token.string s ∷ [] → r ≡ q ++ Token.end_object ∷ [] → Prints c (bytes bs) o r
unfolding opens
bytes_printed c bs s o p q r h t e d f = record {
  ts = Token.begin_object ∷ Token.key (codes "bytes") ∷ Token.string (encode_lower bs) ∷ Token.end_object ∷ [];
  appended = one_appended (codes "bytes") (Token.string (encode_lower bs)) o p q r e (d ∙ ap (λ l. p ++ Token.string l ∷ []) t) f;
  reads = λ rest. (
    Token.key (codes "bytes"),
    Token.string (encode_lower bs) ∷ Token.end_object ∷ rest,
    refl,
    ap (λ x. ending (λ s. some_bytes s) (and_then (Token.end_object ∷ rest) x)) (hex-bytes bs h),
  );
  exact = λ h. refl;
}

pub bitmap_printed : (c : Expected) (bs s : List ℕ) (o p q r : List Token) → IsBytes bs → s ≡ encode_lower bs → p ≡ o ++ Token.begin_object ∷ Token.key (codes "bitmap") ∷ [] →
    q ≡ p ++ Token.string s ∷ [] → r ≡ q ++ Token.end_object ∷ [] → Prints c (bitmap bs) o r
unfolding opens
bitmap_printed c bs s o p q r h t e d f = record {
  ts = Token.begin_object ∷ Token.key (codes "bitmap") ∷ Token.string (encode_lower bs) ∷ Token.end_object ∷ [];
  appended = one_appended (codes "bitmap") (Token.string (encode_lower bs)) o p q r e (d ∙ ap (λ l. p ++ Token.string l ∷ []) t) f;
  reads = λ rest. (
    Token.key (codes "bitmap"),
    Token.string (encode_lower bs) ∷ Token.end_object ∷ rest,
    refl,
    ap (λ x. ending (λ s. a_bitmap s) (and_then (Token.end_object ∷ rest) x)) (hex-bytes bs h),
  );
  exact = λ h. refl;
}

pub pointer_printed : (c : Expected) (t a : ℕ) (bs : List ℕ) (o p q r s u : List Token) → a < 2 ^ 64 → bs ≡ to_be_bytes w64 a →
    p ≡ o ++ Token.begin_object ∷ Token.key (codes "pointer") ∷ [] → PutsName Types t p q →
    r ≡ q ++ Token.key (codes "address") ∷ [] → s ≡ r ++ Token.string (codes "0x" ++ encode_lower bs) ∷ [] →
    u ≡ s ++ Token.end_object ∷ [] → Prints c (pointer t a) o u
unfolding opens
pointer_printed c t a bs o p q r s u h b e w d f g = record {
  ts = Token.begin_object ∷ Token.key (codes "pointer") ∷ w.token ∷ Token.key (codes "address") ∷ Token.string (codes "0x" ++ encode_lower (to_be_bytes w64 a)) ∷ Token.end_object ∷ [];
  appended =
      append_on o (Token.begin_object ∷ Token.key (codes "pointer") ∷ w.token ∷ Token.key (codes "address") ∷ []) (Token.string (codes "0x" ++ encode_lower (to_be_bytes w64 a)) ∷ Token.end_object ∷ [])
      (append_on o (Token.begin_object ∷ Token.key (codes "pointer") ∷ w.token ∷ []) (Token.key (codes "address") ∷ [])
      (append_on o (Token.begin_object ∷ Token.key (codes "pointer") ∷ []) (w.token ∷ []) e w.appended) d)
      (append_on r (Token.string (codes "0x" ++ encode_lower (to_be_bytes w64 a)) ∷ []) (Token.end_object ∷ []) (f ∙ ap (λ l. r ++ Token.string (codes "0x" ++ encode_lower l) ∷ []) b) g);
  reads = λ rest. (Token.key (codes "pointer"), _, refl, rw (w.said, wide_bits-text a h) refl);
  exact = λ g.
      ap (λ x. Token.begin_object ∷ Token.key (codes "pointer") ∷ x ∷ Token.key (codes "address") ∷ Token.string (codes "0x" ++ encode_lower (to_be_bytes w64 a)) ∷ Token.end_object ∷ [])
      w.exact;
}
