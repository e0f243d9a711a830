-- The brackets of a text that is read are closed: by its tokens.
use Rattle.std.proofs.Common.{◌≡◌, ℕ, ◌+◌, ◌-◌, Bool, true, false, List, [], ◌∷◌, refl, sym, ap, subst, arith}
use Rattle.std.proofs.lemmas.Option.{same_Some, none-some}
use Rattle.std.specs.Prelude.{⊤, Option, Some, None, option_map, if◌then◌else◌, codes}
use Rattle.std.specs.Str.{bytes_eq}
use Rattle.json.specs.Token.{Token}
use Rattle.json.specs.Json.{after_end_array, read_key}
use Rattle.spa_format.specs.Kind.{Kind, Fixed}
use Rattle.spa_format.specs.Tree.{Tree, array, choice, struct, object, Trees, no_trees, member, Properties, no_properties, property}
use Rattle.spa_names.specs.declared.entry.Expected.{Expected}
use Rattle.spa_names.specs.declared.table.Table.{Table}
use Rattle.spa_names.specs.declared.table.Table.TheVariants.{Types}
use Rattle.spa_text_read.specs.Names.{ids_of, keys_of, expected_under}
use Rattle.spa_text_read.specs.Numerals.{wide_bits}
use Rattle.spa_text_read.specs.Options.{◌>>=◌, Reading, and_then}
use Rattle.spa_text_read.specs.Tokens.{after_begin_array, after_begin_object, after_end_object, after_key, any_key, any_text, first_key, head, name_or_word, number_by_name, word}
use Rattle.spa_text_read.specs.Grammar.{Leaf, Opening, Opened, a_number, a_text, a_struct, leaf, begun, takes_text, scalar_of, ending, starting, two_words, tagged_scalar, hex_bytes, pointer_at, shape_named, type_kind, field, choice_flags, choice_type, choice_at, array_at, object_at, tagged_at, tag_named, opens, close, is_flags, flagged_at, property_at, nothing, AreElements, AreMembers, AreProperties, ReadsAs, ReadsValue}
use Rattle.spa_text_read.specs.declared.tag.Tag.{Tag}
use Rattle.spa_text_read.specs.declared.tag.Tag.TheVariants as tag
use Rattle.spa_text_read.specs.declared.tag.Scalar.{Scalar}
use Rattle.spa_text_read.specs.declared.tag.Scalar.TheVariants as scalar
use Rattle.spa_text_read.proofs.Soundness.{bound, mapped}

-- no token is bad, and behind these no bracket is open, of so many before them
abbrev pub Ends : ℕ → List Token → Type 0
Ends n [] = n ≡ 0
Ends n (Token.begin_object ∷ ts) = Ends (n + 1) ts
Ends n (Token.end_object ∷ ts) = Ends (n - 1) ts
Ends n (Token.begin_array ∷ ts) = Ends (n + 1) ts
Ends n (Token.end_array ∷ ts) = Ends (n - 1) ts
Ends n (Token.bad ∷ ts) = ⊥
Ends n (_ ∷ ts) = Ends n ts

-- what is read before the second tokens leaves as many open, or one more, or one fewer
abbrev pub Keeps : (ts us : List Token) → Type 0
Keeps ts us = (n : ℕ) → Ends n us → Ends n ts

abbrev Begins : (ts us : List Token) → Type 0
Begins ts us = (n : ℕ) → Ends (n + 1) us → Ends n ts

abbrev pub Closes : (ts us : List Token) → Type 0
Closes ts us = (n : ℕ) → Ends n us → Ends (n + 1) ts

less : (n : ℕ) (ts : List Token) → Ends n ts → Ends (n + 1 - 1) ts
less n ts h = subst (λ k. Ends k ts) (omega arith) h

kept : (ts us : List Token) → Some ts ≡ Some us → Keeps ts us
kept ts us e = λ n h. subst (Ends n) (sym (same_Some ts us e)) h

-- ---- What stands at the front

pub closed_array : (ts us : List Token) → after_end_array ts ≡ Some us → Closes ts us
closed_array (Token.end_array ∷ ts) us e = λ n h. less n ts (kept ts us e n h)
closed_array _ us e = absurd (none-some us e)

closed_object : (ts us : List Token) → after_end_object ts ≡ Some us → Closes ts us
closed_object (Token.end_object ∷ ts) us e = λ n h. less n ts (kept ts us e n h)
closed_object _ us e = absurd (none-some us e)

begun_array : (ts us : List Token) → after_begin_array ts ≡ Some us → Begins ts us
begun_array (Token.begin_array ∷ ts) us e = λ n h. kept ts us e (n + 1) h
begun_array _ us e = absurd (none-some us e)

begun_object : (ts us : List Token) → after_begin_object ts ≡ Some us → Begins ts us
begun_object (Token.begin_object ∷ ts) us e = λ n h. kept ts us e (n + 1) h
begun_object _ us e = absurd (none-some us e)

pair : {A : Type 0} (x y : A) (ts us : List Token) → and_then ts (Some x) ≡ Some (y, us) → Keeps ts us
pair x y ts us e = λ n h. subst (Ends n) (sym (ap (λ p. p.1) (same_Some (x, ts) (y, us) e))) h

key_read : (s : List ℕ) (ts us : List Token) → any_key ts ≡ Some (s, us) → Keeps ts us
key_read s (Token.key k ∷ ts) us e = pair k s ts us e
key_read s _ us e = absurd (none-some _ e)

text_read : (s : List ℕ) (ts us : List Token) → any_text ts ≡ Some (s, us) → Keeps ts us
text_read s (Token.string k ∷ ts) us e = pair k s ts us e
text_read s _ us e = absurd (none-some _ e)

chosen : (b : Bool) (ts us : List Token) → (if b then Some ts else None) ≡ Some us → Keeps ts us
chosen true ts us e = kept ts us e
chosen false ts us e = absurd (none-some us e)

named_read : (name : List ℕ) (ts us : List Token) → after_key name ts ≡ Some us → Keeps ts us
named_read name (Token.key s ∷ ts) us e = chosen (bytes_eq s name) ts us e
named_read name _ us e = absurd (none-some us e)

and_read : {A : Type 0} (o : Option A) (x : A) (ts us : List Token) → and_then ts o ≡ Some (x, us) → Keeps ts us
and_read None x ts us e = absurd (none-some _ e)
and_read (Some y) x ts us e = pair y x ts us e

word_read : (n : ℕ) (ts us : List Token) → word ts ≡ Some (n, us) → Keeps ts us
word_read n (Token.number s ∷ ts) us e = and_read _ n ts us e
word_read n _ us e = absurd (none-some _ e)

name_read : (t : Table) (n : ℕ) (ts us : List Token) → name_or_word t ts ≡ Some (n, us) → Keeps ts us
name_read t n (Token.string s ∷ ts) us e = and_read (number_by_name t (Token.string s)) n ts us e
name_read t n (Token.number s ∷ ts) us e = and_read (number_by_name t (Token.number s)) n ts us e
name_read t n _ us e = absurd (none-some _ e)

-- the first token of a value: a key stands behind a brace
abbrev Heads : Token → (ts us : List Token) → Type 0
Heads Token.begin_array ts us = Begins ts us
Heads (Token.key s) ts us = Begins ts us
Heads (Token.string s) ts us = Keeps ts us
Heads (Token.number s) ts us = Keeps ts us
Heads (Token.boolean b) ts us = Keeps ts us
Heads Token.null ts us = Keeps ts us
Heads _ ts us = ⊥

first_heads : (h : Token) (ts us : List Token) → first_key ts ≡ Some (h, us) → Heads h (Token.begin_object ∷ ts) us
first_heads h (Token.key s ∷ ts) us e = subst (λ p. Heads p.0 (Token.begin_object ∷ Token.key s ∷ ts) p.1) (same_Some _ _ e) (λ n x. x)
first_heads h _ us e = absurd (none-some _ e)

heads : (h : Token) (ts us : List Token) → head ts ≡ Some (h, us) → Heads h ts us
heads h (Token.begin_object ∷ ts) us e = first_heads h ts us e
heads h (Token.begin_array ∷ ts) us e = subst (λ p. Heads p.0 (Token.begin_array ∷ ts) p.1) (same_Some _ _ e) (λ n x. x)
heads h (Token.string s ∷ ts) us e = subst (λ p. Heads p.0 (Token.string s ∷ ts) p.1) (same_Some _ _ e) (λ n x. x)
heads h (Token.number s ∷ ts) us e = subst (λ p. Heads p.0 (Token.number s ∷ ts) p.1) (same_Some _ _ e) (λ n x. x)
heads h (Token.boolean b ∷ ts) us e = subst (λ p. Heads p.0 (Token.boolean b ∷ ts) p.1) (same_Some _ _ e) (λ n x. x)
heads h (Token.null ∷ ts) us e = subst (λ p. Heads p.0 (Token.null ∷ ts) p.1) (same_Some _ _ e) (λ n x. x)
heads h _ us e = absurd (none-some _ e)

-- ---- Values without members

-- a token that is no bracket
abbrev Plain : Token → Type 0
Plain (Token.string s) = ⊤
Plain (Token.number s) = ⊤
Plain _ = ⊥

scalar_plain : (k : Scalar) (t : Table) (h : Token) (x : Fixed) → scalar_of k t h ≡ Some x → Plain h
scalar_plain k t (Token.string s) x e = tt
scalar_plain k t (Token.number s) x e = tt
scalar_plain scalar.Id t _ x e = absurd (none-some x e)
scalar_plain scalar.Int t _ x e = absurd (none-some x e)
scalar_plain scalar.Long t _ x e = absurd (none-some x e)
scalar_plain scalar.Fd t _ x e = absurd (none-some x e)
scalar_plain scalar.Float t _ x e = absurd (none-some x e)
scalar_plain scalar.Double t _ x e = absurd (none-some x e)

plain_kept : (h : Token) (ts us : List Token) → Plain h → Keeps ts us → Keeps (h ∷ ts) us
plain_kept (Token.string s) ts us p k = k
plain_kept (Token.number s) ts us p k = k
plain_kept _ ts us p k = absurd p

scalar_read : (k : Scalar) (t : Table) (x : Fixed) (ts us : List Token) → tagged_scalar k t ts ≡ Some (x, us) → Keeps ts us
scalar_read k t x [] us e = absurd (none-some _ e)
scalar_read k t x (h ∷ ts) us e = by (scalar_of k t h) refl e
  where
    by : (o : Option Fixed) → scalar_of k t h ≡ o → and_then ts o ≡ Some (x, us) → Keeps (h ∷ ts) us
    by None d e = absurd (none-some _ e)
    by (Some y) d e = plain_kept h ts us (scalar_plain k t h y d) (pair y x ts us e)

hex_read : (x : List ℕ) (ts us : List Token) → hex_bytes ts ≡ Some (x, us) → Keeps ts us
hex_read x ts us e =
    let b = bound (any_text ts) _ (x, us) e in
    λ n h. text_read b.0.0 ts b.0.1 b.1 n (and_read _ x b.0.1 us b.2 n h)

two_read : (name : List ℕ) (x : ℕ × ℕ) (ts us : List Token) → two_words name ts ≡ Some (x, us) → Keeps ts us
two_read name x ts us e =
    let a = bound (word ts) _ (x, us) e in
    let b = bound (after_key name a.0.1) _ (x, us) a.2 in
    let c = bound (word b.0) _ (x, us) b.2 in
    λ n h. word_read a.0.0 ts a.0.1 a.1 n (named_read name a.0.1 b.0 b.1 n (word_read c.0.0 b.0 c.0.1 c.1 n (pair _ x c.0.1 us c.2 n h)))

pointer_read : (x : ℕ × ℕ) (ts us : List Token) → pointer_at ts ≡ Some (x, us) → Keeps ts us
pointer_read x ts us e =
    let a = bound (name_or_word Types ts) _ (x, us) e in
    let b = bound (after_key (codes "address") a.0.1) _ (x, us) a.2 in
    let c = bound (any_text b.0) _ (x, us) b.2 in
    let d = bound (wide_bits c.0.0) _ (x, us) c.2 in
    λ n h.
    name_read Types a.0.0 ts a.0.1 a.1 n
    (named_read (codes "address") a.0.1 b.0 b.1 n (text_read c.0.0 b.0 c.0.1 c.1 n (pair _ x c.0.1 us d.2 n h)))

-- ---- Values with members

abbrev after_field : Reading ℕ → ℕ → List ℕ × List Token → Bool → Option (ℕ × (List ℕ × List Token))
after_field f other p b = if b then (f p.1 >>= (λ n. option_map (λ k. (n.0, k)) (any_key n.1))) else Some (other, p)

field_read : (name : List ℕ) (f : Reading ℕ) (other x : ℕ) (p q : List ℕ × List Token) →
    ((n : ℕ) (us : List Token) → f p.1 ≡ Some (n, us) → Keeps p.1 us) → field name f other p ≡ Some (x, q) → Keeps p.1 q.1
field_read name f other x p q reads e = by (bytes_eq p.0 name) e
  where
    by : (b : Bool) → after_field f other p b ≡ Some (x, q) → Keeps p.1 q.1
    by true e =
        let a = bound (f p.1) _ (x, q) e in
        let b = mapped (any_key a.0.1) _ (x, q) a.2 in
        λ n h. reads a.0.0 a.0.1 a.1 n (key_read b.0.0 a.0.1 b.0.1 b.1 n (subst (Ends n) (sym (ap (λ r. r.1.1) b.2)) h))
    by false e = λ n h. subst (Ends n) (sym (ap (λ r. r.1.1) (same_Some (other, p) (x, q) e))) h

begun_if : (b : Bool) (ts us : List Token) → (if b then after_begin_array ts else None) ≡ Some us → Begins ts us
begun_if true ts us e = begun_array ts us e
begun_if false ts us e = absurd (none-some us e)

-- what begins behind the first key of an object, whose brace is open: of a value with others in it a bracket more
abbrev Tagged : Opened → (ts us : List Token) → Type 0
Tagged (leaf l) ts us = Closes ts us
Tagged (begun (a_struct false)) ts us = ⊥
Tagged (begun _) ts us = Begins ts us

ending_tagged : {A : Type 0} (f : A → Leaf) (r : Option (A × List Token)) (o : Opened) (ts us : List Token) →
    ((x : A) (vs : List Token) → r ≡ Some (x, vs) → Keeps ts vs) → ending f r ≡ Some (o, us) → Tagged o ts us
ending_tagged f r o ts us reads e =
    let a = bound r _ (o, us) e in
    let b = mapped (after_end_object a.0.1) _ (o, us) a.2 in
    subst (λ q. Tagged q.0 ts q.1) b.2 (λ n h. reads a.0.0 a.0.1 a.1 (n + 1) (closed_object a.0.1 b.0 b.1 n h))

choice_tagged : (c : Expected) (o : Opening) (ts us : List Token) → choice_at c ts ≡ Some (o, us) → Tagged (begun o) ts us
choice_tagged c o ts us e =
    let a = bound (any_text ts) _ (o, us) e in
    let b = bound (shape_named a.0.0) _ (o, us) a.2 in
    let k = bound (any_key a.0.1) _ (o, us) b.2 in
    let f = bound (choice_flags k.0) _ (o, us) k.2 in
    let t = bound (choice_type c.type_.0 f.0.1) _ (o, us) f.2 in
    let g = bound (type_kind t.0.0) _ (o, us) t.2 in
    let v = bound (if bytes_eq t.0.1.0 (codes "values") then after_begin_array t.0.1.1 else None) _ (o, us) g.2 in
    subst (λ q. Tagged (begun q.0) ts q.1) (same_Some _ (o, us) v.2)
    (λ n h.
    text_read a.0.0 ts a.0.1 a.1 n
    (key_read k.0.0 a.0.1 k.0.1 k.1 n
    (field_read (codes "flags") word 0 f.0.0 k.0 f.0.1 (λ m vs r. word_read m k.0.1 vs r) f.1 n
    (field_read (codes "of") (name_or_word Types) c.type_.0 t.0.0 f.0.1 t.0.1 (λ m vs r. name_read Types m f.0.1.1 vs r) t.1 n
    (begun_if (bytes_eq t.0.1.0 (codes "values")) t.0.1.1 v.0 v.1 n h)))))

array_tagged : (c : Expected) (o : Opening) (ts us : List Token) → array_at c ts ≡ Some (o, us) → Tagged (begun o) ts us
array_tagged c o ts us e =
    let a = bound (name_or_word Types ts) _ (o, us) e in
    let k = bound (type_kind a.0.0) _ (o, us) a.2 in
    let b = bound (after_key (codes "values") a.0.1) _ (o, us) k.2 in
    let v = bound (after_begin_array b.0) _ (o, us) b.2 in
    subst (λ q. Tagged (begun q.0) ts q.1) (same_Some _ (o, us) v.2)
    (λ n h. name_read Types a.0.0 ts a.0.1 a.1 n (named_read (codes "values") a.0.1 b.0 b.1 n (begun_array b.0 v.0 v.1 n h)))

object_tagged : (o : Opening) (ts us : List Token) → object_at ts ≡ Some (o, us) → Tagged (begun o) ts us
object_tagged o ts us e =
    let a = bound (name_or_word Types ts) _ (o, us) e in
    let b = bound (after_key (codes "id") a.0.1) _ (o, us) a.2 in
    let i = bound (name_or_word (ids_of a.0.0) b.0) _ (o, us) b.2 in
    let k = bound (after_key (codes "props") i.0.1) _ (o, us) i.2 in
    let v = bound (after_begin_object k.0) _ (o, us) k.2 in
    subst (λ q. Tagged (begun q.0) ts q.1) (same_Some _ (o, us) v.2)
    (λ n h.
    name_read Types a.0.0 ts a.0.1 a.1 n
    (named_read (codes "id") a.0.1 b.0 b.1 n
    (name_read (ids_of a.0.0) i.0.0 b.0 i.0.1 i.1 n (named_read (codes "props") i.0.1 k.0 k.1 n (begun_object k.0 v.0 v.1 n h)))))

started : (r : Option (Opening × List Token)) (o : Opened) (ts us : List Token) →
    ((p : Opening) (vs : List Token) → r ≡ Some (p, vs) → Tagged (begun p) ts vs) → starting r ≡ Some (o, us) → Tagged o ts us
started r o ts us reads e =
    let a = mapped r _ (o, us) e in
    subst (λ q. Tagged q.0 ts q.1) a.2 (reads a.0.0 a.0.1 a.1)

tagged : (c : Expected) (g : Tag) (o : Opened) (ts us : List Token) → tagged_at c g ts ≡ Some (o, us) → Tagged o ts us
tagged c (tag.Scalar k) o ts us e = ending_tagged _ _ o ts us (λ x vs r. scalar_read k c.ids x ts vs r) e
tagged c tag.String o ts us e = ending_tagged _ _ o ts us (λ x vs r. text_read x ts vs r) e
tagged c tag.Bytes o ts us e = ending_tagged _ _ o ts us (λ x vs r. hex_read x ts vs r) e
tagged c tag.Bitmap o ts us e = ending_tagged _ _ o ts us (λ x vs r. hex_read x ts vs r) e
tagged c tag.Width o ts us e = ending_tagged _ _ o ts us (λ x vs r. two_read _ x ts vs r) e
tagged c tag.Num o ts us e = ending_tagged _ _ o ts us (λ x vs r. two_read _ x ts vs r) e
tagged c tag.Pointer o ts us e = ending_tagged _ _ o ts us (λ x vs r. pointer_read x ts vs r) e
tagged c tag.Struct o ts us e =
    let a = mapped (after_begin_array ts) _ (o, us) e in subst (λ q. Tagged q.0 ts q.1) a.2 (begun_array ts a.0 a.1)
tagged c tag.Array o ts us e = started _ o ts us (λ p vs r. array_tagged c p ts vs r) e
tagged c tag.Choice o ts us e = started _ o ts us (λ p vs r. choice_tagged c p ts vs r) e
tagged c tag.Object o ts us e = started _ o ts us (λ p vs r. object_tagged p ts vs r) e
tagged c tag.Other o ts us e = absurd (none-some _ e)

-- a whole value, or one that is begun: with a tag two brackets are open
abbrev Opens : Opened → (ts us : List Token) → Type 0
Opens (leaf l) ts us = Keeps ts us
Opens (begun (a_struct false)) ts us = Begins ts us
Opens (begun _) ts us = (n : ℕ) → Ends (n + 1 + 1) us → Ends n ts

behind_key : (o : Opened) (all ts us : List Token) → Begins all ts → Tagged o ts us → Opens o all us
behind_key (leaf l) all ts us b t = λ n h. b n (t n h)
behind_key (begun (a_struct false)) all ts us b t = absurd t
behind_key (begun _) all ts us b t = λ n h. b n (t (n + 1) h)

one_token : (q o : Opened) (all ts us : List Token) → Opens q all ts → and_then ts (Some q) ≡ Some (o, us) → Opens o all us
one_token q o all ts us k e = subst (λ p. Opens p.0 all p.1) (same_Some (q, ts) (o, us) e) k

one_number : (x : Option Fixed) (o : Opened) (all ts us : List Token) → Keeps all ts →
    and_then ts (option_map (λ y. leaf (a_number y)) x) ≡ Some (o, us) → Opens o all us
one_number None o all ts us k e = absurd (none-some _ e)
one_number (Some y) o all ts us k e = one_token (leaf (a_number y)) o all ts us k e

one_string : (b : Bool) (x : Option Fixed) (s : List ℕ) (o : Opened) (all ts us : List Token) → Keeps all ts →
    (if b then and_then ts (option_map (λ y. leaf (a_number y)) x) else Some (leaf (a_text s), ts)) ≡ Some (o, us) → Opens o all us
one_string true x s o all ts us k e = one_number x o all ts us k e
one_string false x s o all ts us k e = one_token (leaf (a_text s)) o all ts us k e

opened : (c : Expected) (h : Token) (o : Opened) (all ts us : List Token) → Heads h all ts → opens c h ts ≡ Some (o, us) → Opens o all us
unfolding opens
opened c Token.null o all ts us k e = one_token _ o all ts us k e
opened c (Token.boolean b) o all ts us k e = one_token _ o all ts us k e
opened c (Token.number s) o all ts us k e = one_number _ o all ts us k e
opened c (Token.string s) o all ts us k e = one_string (takes_text c.type_.0) _ s o all ts us k e
opened c Token.begin_array o all ts us k e = one_token _ o all ts us k e
opened c (Token.key s) o all ts us k e = behind_key o all ts us k (tagged c (tag_named s) o ts us e)
opened c _ o all ts us k e = absurd k

-- ---- Members

pub last_key : (ts us : List Token) → read_key ts ≡ Some (None, us) → Closes ts us
last_key (Token.end_object ∷ ts) us e = λ n h. less n ts (pair None None ts us e n h)
last_key (Token.key s ∷ ts) us e = absurd (none-some s (sym (ap (λ p. p.0) (same_Some (Some s, ts) (None, us) e))))
last_key _ us e = absurd (none-some _ e)

pub one_key : (s : List ℕ) (ts us : List Token) → read_key ts ≡ Some (Some s, us) → Keeps ts us
one_key s (Token.key k ∷ ts) us e = pair (Some k) (Some s) ts us e
one_key s (Token.end_object ∷ ts) us e = absurd (none-some s (ap (λ p. p.0) (same_Some (None, ts) (Some s, us) e)))
one_key s _ us e = absurd (none-some _ e)

-- a brace follows a value that stands in one
abbrev Within : Bool → (ts us : List Token) → Type 0
Within true ts us = Begins ts us
Within false ts us = Keeps ts us

abbrev Leaves : Bool → (ts us : List Token) → Type 0
Leaves true ts us = Closes ts us
Leaves false ts us = Keeps ts us

leaves : (b : Bool) (ts us : List Token) → close b ts ≡ Some us → Leaves b ts us
leaves true ts us e = closed_object ts us e
leaves false ts us e = kept ts us e

around : (b : Bool) (ts us vs ws : List Token) → Within b ts us → Keeps us vs → Leaves b vs ws → Keeps ts ws
around true ts us vs ws a k z = λ n h. a n (k (n + 1) (z n h))
around false ts us vs ws a k z = λ n h. a n (k n (z n h))

flagged : (s : List ℕ) (f : ℕ) (b : Bool) (h : Token) (all ts us : List Token) → Begins all ts → flagged_at ts ≡ Some ((f, (b, h)), us) →
    (mid : List Token) × Within b all mid × Heads h mid us
flagged s f b h all ts us k e =
    let w = bound (word ts) _ ((f, (b, h)), us) e in
    let v = bound (after_key (codes "value") w.0.1) _ ((f, (b, h)), us) w.2 in
    let d = bound (head v.0) _ ((f, (b, h)), us) v.2 in
    let q = same_Some ((w.0.0, (true, d.0.0)), d.0.1) ((f, (b, h)), us) d.2 in
    subst (λ p. (mid : List Token) × Within p.0.1.0 all mid × Heads p.0.1.1 mid p.1) q
    (v.0, (λ n z. k n (word_read w.0.0 ts w.0.1 w.1 (n + 1) (named_read (codes "value") w.0.1 v.0 v.1 (n + 1) z))), heads d.0.0 v.0 d.0.1 d.1)

abbrev flags_or : Bool → Token → List Token → Option ((ℕ × (Bool × Token)) × List Token)
flags_or b h ts = if b then flagged_at ts else Some ((0, (false, h)), ts)

property_headed : (f : ℕ) (b : Bool) (h : Token) (ts us : List Token) → property_at ts ≡ Some ((f, (b, h)), us) →
    (mid : List Token) × Within b ts mid × Heads h mid us
property_headed f b h ts us e = let a = bound (head ts) _ ((f, (b, h)), us) e in by a.0.0 a.0.1 (heads _ ts _ a.1) a.2
  where
    bare : (t : Token) (vs : List Token) → Heads t ts vs → flags_or false t vs ≡ Some ((f, (b, h)), us) →
        (mid : List Token) × Within b ts mid × Heads h mid us
    bare t vs k e =
        subst (λ p. (mid : List Token) × Within p.0.1.0 ts mid × Heads p.0.1.1 mid p.1) (same_Some ((0, (false, t)), vs) ((f, (b, h)), us) e)
        (ts, (λ n z. z), k)

    named : (test : Bool) (s : List ℕ) (vs : List Token) → Heads (Token.key s) ts vs →
        flags_or test (Token.key s) vs ≡ Some ((f, (b, h)), us) → (mid : List Token) × Within b ts mid × Heads h mid us
    named true s vs k e = flagged s f b h ts vs us k e
    named false s vs k e = bare (Token.key s) vs k e

    by : (t : Token) (vs : List Token) → Heads t ts vs → flags_or (is_flags t) t vs ≡ Some ((f, (b, h)), us) →
        (mid : List Token) × Within b ts mid × Heads h mid us
    by (Token.key s) vs k e = named (bytes_eq s (codes "flags")) s vs k e
    by t vs k e = bare t vs k e

elements_closed : (c : Expected) (k : Kind) (xs : List Fixed) (ts rest : List Token) → AreElements c k xs ts rest → Closes ts rest
elements_closed c k [] ts rest e = closed_array ts rest e
elements_closed c k (x ∷ xs) ts rest e =
    let o = opened c e.0 _ ts e.1 e.2 (heads e.0 ts e.1 e.4) e.5 in λ n h. o (n + 1) (elements_closed c k xs e.2 rest e.7 n h)

struct_kept : (b : Bool) (all us ws rest : List Token) → Opens (begun (a_struct b)) all us → Closes us ws → Leaves b ws rest → Keeps all rest
struct_kept true all us ws rest o c z = λ n h. o n (c (n + 1) (z n h))
struct_kept false all us ws rest o c z = λ n h. o n (c n (z n h))

mutual
  value_kept : (v : Tree) (c : Expected) (h : Token) (all ts rest : List Token) → Heads h all ts → ReadsValue c v h ts rest → Keeps all rest
  value_kept (array k xs) c h all ts rest a e =
      let o = opened c h _ all ts e.1 a e.3 in
      λ n z. o n (elements_closed _ k xs e.1 e.2 e.4 (n + 1) (closed_object e.2 rest e.5 n z))
  value_kept (choice s f k x xs) c h all ts rest a e =
      let o = opened c h _ all ts e.1 a e.3 in
      λ n z. o n (elements_closed _ k (x ∷ xs) e.1 e.2 e.4 (n + 1) (closed_object e.2 rest e.6 n z))
  value_kept (struct vs) c h all ts rest a e =
      struct_kept e.0 all e.1 e.2 rest (opened c h _ all ts e.1 a e.3) (members_closed vs e.1 e.2 e.4) (leaves e.0 e.2 rest e.5)
  value_kept (object t i ps) c h all ts rest a e =
      let o = opened c h _ all ts e.0 a e.2 in
      λ n z. o n (properties_closed (keys_of t) ps e.0 e.1 e.3 (n + 1) (closed_object e.1 rest e.4 n z))
  value_kept _ c h all ts rest a e = opened c h _ all ts rest a e

  members_closed : (vs : Trees) (ts rest : List Token) → AreMembers vs ts rest → Closes ts rest
  members_closed no_trees ts rest e = closed_array ts rest e
  members_closed (member v vs) ts rest e =
      let k = value_kept v nothing e.0 ts e.1 e.2 (heads e.0 ts e.1 e.4) e.5 in λ n h. k (n + 1) (members_closed vs e.2 rest e.6 n h)

  properties_closed : (t : Table) (ps : Properties) (ts rest : List Token) → AreProperties t ps ts rest → Closes ts rest
  properties_closed t no_properties ts rest e = last_key ts rest e
  properties_closed t (property k f v ps) ts rest e =
      let p = property_headed f e.2 e.3 e.1 e.4 e.9 in
      let q = value_kept v (expected_under t k) e.3 p.0 e.4 e.5 p.2 e.10 in
      let w = around e.2 e.1 p.0 e.5 e.6 p.1 q (leaves e.2 e.5 e.6 e.11) in
      λ n h. one_key e.0 ts e.1 e.7 (n + 1) (w (n + 1) (properties_closed t ps e.6 rest e.12 n h))

-- a text that is read leaves none open
pub tokens_closed : (v : Tree) (ts : List Token) → ReadsAs nothing v ts [] → Ends 0 ts
tokens_closed v ts e = value_kept v nothing e.0 ts e.1 [] (heads e.0 ts e.1 e.2) e.3 0 refl
