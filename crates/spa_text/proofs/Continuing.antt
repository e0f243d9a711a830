-- Values with others in them, read from what is printed of them.
use Rattle.std.proofs.Common.{◌≡◌, ◌≢◌, ℕ, zero, suc, length, ◌<◌, ◌^◌, List, [], ◌∷◌, ◌++◌, Bool, true, false, refl, sym, ap, subst, ◌∙◌, append-nil, append_assoc}
use Rattle.std.specs.Prelude.{Some, None, codes, decimal, if◌then◌else◌, reverse}
use Rattle.std.specs.Str.{bytes_eq}
use Rattle.std.proofs.lemmas.List.{reverse-append, nil_from_length, append_cancel_left}
use Rattle.json.specs.Token.{Token}
use Rattle.spa_format.specs.Tree.{Tree, Trees, Properties, property, fixed, string, bytes, bitmap, array, choice, pointer, struct, object}
use Rattle.spa_value.specs.declared.value.Value.{Value, roll-Value, roll-out-Value}
use Rattle.spa_value.specs.declared.value.Value.TheVariants as V
use Rattle.spa_value.specs.declared.object.Property.{Property}
use Rattle.spa_value.specs.View.{view}
use Rattle.spa_value.specs.Views.{property_views, views}
use Rattle.spa_names.specs.declared.entry.Expected.{Expected}
use Rattle.spa_names.specs.declared.table.Table.{Table}
use Rattle.spa_names.specs.declared.table.Table.TheVariants.{Types}
use Rattle.spa_text_read.specs.Grammar.{AreMembers, AreProperties, Opened, ReadsValue, ReadsAs, an_object, close, flagged_at, is_flags, key_number, nothing, opens, or_else, tag_named, tagged_at}
use Rattle.spa_text_read.specs.Names.{expected_under, ids_of, keys_of, number_of}
use Rattle.spa_text_read.specs.Numerals.{unsigned_number}
use Rattle.spa_text_read.specs.Options.{◌>>=◌}
use Rattle.std.proofs.lemmas.Slice.Eq.{bytes_eq-Decides}
use Rattle.spa_text.specs.Printed.{HasNoFloat, flags_end, flags_front, name_token, tokens_of}
use Rattle.spa_text_read.specs.Tokens.{after_end_object}
use Rattle.spa_text.specs.Left.{AreAround, Continues, IsLeft, IsWithin, PrintsOrBegins, PrintsWhole}
use Rattle.spa_text.specs.Written.{BeginsProperty, Opens, Prints, PutsKey, PutsName, closing}
use Rattle.spa_text.specs.declared.printing.Begun.{Begun}
use Rattle.spa_text.proofs.Appending.{append_on}
use Rattle.spa_text.proofs.Exactly.{leaf_whole}
use Rattle.spa_text.proofs.Listed.{not_ended}
use Rattle.spa_text.proofs.Numbers.{unsigned_number-decimal}

-- ---- A key and its flags

pub key_by_name : (t : Table) (s : List ℕ) (k : ℕ) → None ≡ unsigned_number s → number_of t s ≡ Some k → key_number t s ≡ Some k
key_by_name t s k e n = ap (λ o. or_else o (number_of t s)) (sym e) ∙ n

pub key_by_digits : (t : Table) (k : ℕ) → k < 2 ^ 32 → key_number t (decimal k) ≡ Some k
key_by_digits t k h = ap (λ o. or_else o (number_of t (decimal k))) (unsigned_number-decimal k h)

pub property_bare : (t : Table) (k : ℕ) (o n : List Token) → PutsKey t k o n → BeginsProperty false t k 0 o n
property_bare t k o n w = record {
  name = w.name;
  ts = [];
  appended = w.appended;
  numbered = w.numbered;
  flagged = λ us vs h e f.
      ap (λ r. r >>= (λ p. if is_flags p.0 then flagged_at p.1 else Some ((0, (false, p.0)), p.1))) e
      ∙ ap (λ b. if b then flagged_at vs else Some ((0, (false, h)), vs)) f;
  named = w.named;
  exact = refl;
  ends = refl;
}

flags_printed : (f : ℕ) → f ≢ 0 →
    Token.begin_object ∷ Token.key (codes "flags") ∷ Token.number (decimal f) ∷ Token.key (codes "value") ∷ [] ≡ flags_front f
flags_printed zero d = absurd (d refl)
flags_printed (suc n) d = refl

flags_ended : (f : ℕ) → f ≢ 0 → Token.end_object ∷ [] ≡ flags_end f
flags_ended zero d = absurd (d refl)
flags_ended (suc n) d = refl

pub property_braced : (t : Table) (k f : ℕ) (o p q r s : List Token) → f < 2 ^ 32 → f ≢ 0 → PutsKey t k o p →
    q ≡ p ++ Token.begin_object ∷ Token.key (codes "flags") ∷ [] → r ≡ q ++ Token.number (decimal f) ∷ [] →
    s ≡ r ++ Token.key (codes "value") ∷ [] → BeginsProperty true t k f o s
property_braced t k f o p q r s l some w e d g = record {
  name = w.name;
  ts = Token.begin_object ∷ Token.key (codes "flags") ∷ Token.number (decimal f) ∷ Token.key (codes "value") ∷ [];
  appended =
      append_on o (Token.key w.name ∷ []) (Token.begin_object ∷ Token.key (codes "flags") ∷ Token.number (decimal f) ∷ Token.key (codes "value") ∷ []) w.appended
      (append_on p (Token.begin_object ∷ Token.key (codes "flags") ∷ []) (Token.number (decimal f) ∷ Token.key (codes "value") ∷ []) e
      (append_on q (Token.number (decimal f) ∷ []) (Token.key (codes "value") ∷ []) d g));
  numbered = w.numbered;
  flagged = λ us vs h e f. rw (unsigned_number-decimal _ l, e) refl;
  named = w.named;
  exact = flags_printed f some;
  ends = flags_ended f some;
}

-- what begins a value opens something, and is no key of flags
reads_opens : (c : Expected) (v : Tree) (h : Token) (us rest : List Token) → ReadsValue c v h us rest → (p : Opened × List Token) × (opens c h us ≡ Some p)
reads_opens c (array k xs) h us rest r = (_, r.3)
reads_opens c (choice s f k x xs) h us rest r = (_, r.3)
reads_opens c (struct vs) h us rest r = (_, r.3)
reads_opens c (object t i ps) h us rest r = (_, r.2)
reads_opens c (fixed x) h us rest r = (_, r)
reads_opens c (string s) h us rest r = (_, r)
reads_opens c (bytes s) h us rest r = (_, r)
reads_opens c (bitmap s) h us rest r = (_, r)
reads_opens c (pointer t a) h us rest r = (_, r)

not_flags : (c : Expected) (h : Token) (us : List Token) (p : Opened × List Token) → opens c h us ≡ Some p → is_flags h ≡ false
unfolding opens
not_flags c (Token.key s) us p e = by (bytes_eq s (codes "flags")) refl
  where
    none_some : (q : Opened × List Token) → None ≡ Some q → ⊥
    none_some q z = cc

    by : (b : Bool) → bytes_eq s (codes "flags") ≡ b → b ≡ false
    by false d = refl
    by true d =
        let same : s ≡ codes "flags" = (bytes_eq-Decides s (codes "flags")).0 d in
        let none : tagged_at c (tag_named (codes "flags")) us ≡ Some p = subst (λ l. tagged_at c (tag_named l) us ≡ Some p) same e in
        absurd (none_some p none)
not_flags c _ us p e = refl

-- ---- Members

pub members_ended : (m : List Value) (o n : List Token) → length m ≡ 0 → n ≡ o ++ Token.end_array ∷ [] →
    Continues (λ ts rest. ts ≡ rest) (AreMembers (views m)) o n
members_ended m o n e d = record {
  ts = Token.end_array ∷ [];
  appended = d;
  continued = λ us rest s. subst (λ l. AreMembers (views l) (Token.end_array ∷ us) rest) (sym (nil_from_length m e)) (ap Some s);
}

pub member_printed : (m : List Value) (v : Value) (vs : List Value) (o n : List Token) → m ≡ v ∷ vs →
    Continues (λ ts rest. ts ≡ rest) (ReadsAs nothing (view v)) o n → Continues (AreMembers (views vs)) (AreMembers (views m)) o n
member_printed m v vs o n e w = record {
  ts = w.ts;
  appended = w.appended;
  continued = λ us rest l.
      let r = w.continued us us refl in
      subst (λ x. AreMembers (views x) (w.ts ++ us) rest) (sym e)
      (r.0, r.1, us, not_ended (w.ts ++ us) (r.0, r.1) r.2, r.2, r.3, l);
}

pub member_begun : (m : List Value) (v : Value) (vs : List Value) (b rest : Begun) (o n : List Token) → m ≡ v ∷ vs → rest.braced ≡ false →
    ((ts us : List Token) → IsLeft rest.left ts us → AreMembers (views vs) ts us) →
    Continues (IsLeft b.left) (ReadsAs nothing (view v)) o n → Continues (IsWithin b (rest ∷ [])) (AreMembers (views m)) o n
member_begun m v vs b rest o n e f g w = record {
  ts = w.ts;
  appended = w.appended;
  continued = λ us ws a.
      let r = w.continued us a.0 a.1 in
      let around = a.2 in
      let same : a.0 ≡ around.0 = some_same a.0 around.0 (ap (λ z. close z a.0) (sym f) ∙ around.2) in
      let left : AreMembers (views vs) a.0 ws =
      subst (λ l. AreMembers (views vs) a.0 l) around.4 (subst (λ l. AreMembers (views vs) l around.1) (sym same) (g around.0 around.1 around.3)) in
      subst (λ x. AreMembers (views x) (w.ts ++ us) ws) (sym e)
      (r.0, r.1, a.0, not_ended (w.ts ++ us) (r.0, r.1) r.2, r.2, r.3, left);
}
  where
    some_same : (x y : List Token) → Some x ≡ Some y → x ≡ y
    some_same x y p = cc

-- ---- Properties

-- the brace behind a value is taken
close-closing : (b : Bool) (us : List Token) → close b (closing b ++ us) ≡ Some us
close-closing true us = refl
close-closing false us = refl

pub properties_ended : (t : Table) (m : List Property) (o p q : List Token) → length m ≡ 0 → p ≡ o ++ Token.end_object ∷ [] →
    q ≡ p ++ Token.end_object ∷ [] →
    Continues (λ ts rest. ts ≡ rest) (λ ts rest. (mid : List Token) × AreProperties t (property_views m) ts mid × (after_end_object mid ≡ Some rest)) o q
properties_ended t m o p q e d f = record {
  ts = Token.end_object ∷ Token.end_object ∷ [];
  appended = append_on o (Token.end_object ∷ []) (Token.end_object ∷ []) d f;
  continued = λ us rest s.
      (Token.end_object ∷ us, subst (λ l. AreProperties t (property_views l) (Token.end_object ∷ Token.end_object ∷ us) (Token.end_object ∷ us)) (sym (nil_from_length m e)) refl, ap Some s);
}

-- a property at the front, by what is read of its value
property_reads : (t : Table) (k f : ℕ) (v : Tree) (ps : Properties) (b : Bool) (o m : List Token) (a : BeginsProperty b t k f o m)
    (us ws xs rest : List Token) → ReadsAs (expected_under t k) v us ws → close b ws ≡ Some xs → AreProperties t ps xs rest →
    AreProperties t (property k f v ps) (Token.key a.name ∷ (a.ts ++ us)) rest
property_reads t k f v ps b o m a us ws xs rest r d l =
    let p = reads_opens (expected_under t k) v r.0 r.1 ws r.3 in
    let flags = a.flagged us r.1 r.0 r.2 (not_flags (expected_under t k) r.0 r.1 p.0 p.1) in
    (a.name, a.ts ++ us, b, r.0, r.1, ws, xs, refl, a.numbered, flags, r.3, d, l)

pub property_printed : (t : Table) (m : List Property) (p : Property) (ps : List Property) (b : Bool) (o q r s : List Token) → m ≡ p ∷ ps →
    BeginsProperty b t p.key p.flags.0 o q → Continues (λ ts rest. ts ≡ rest) (ReadsAs (expected_under t p.key) (view p.value)) q r →
    s ≡ r ++ closing b →
    Continues (λ ts rest. (mid : List Token) × AreProperties t (property_views ps) ts mid × (after_end_object mid ≡ Some rest))
    (λ ts rest. (mid : List Token) × AreProperties t (property_views m) ts mid × (after_end_object mid ≡ Some rest)) o s
property_printed t m p ps b o q r s e a w d = record {
  ts = Token.key a.name ∷ (a.ts ++ (w.ts ++ closing b));
  appended = append_on o (Token.key a.name ∷ a.ts) (w.ts ++ closing b) a.appended (append_on q w.ts (closing b) w.appended d);
  continued = λ us rest l.
      let tail = closing b ++ us in
      let reads = property_reads t p.key p.flags.0 (view p.value) (property_views ps) b o q a (w.ts ++ tail) tail us l.0
      (w.continued tail tail refl) (close-closing b us) l.1 in
      let same : a.ts ++ (w.ts ++ tail) ≡ (a.ts ++ (w.ts ++ closing b)) ++ us =
      sym (append_assoc a.ts (w.ts ++ closing b) us ∙ ap (λ x. a.ts ++ x) (append_assoc w.ts (closing b) us)) in (
        l.0,
        subst (λ x. AreProperties t (property_views x) (Token.key a.name ∷ ((a.ts ++ (w.ts ++ closing b)) ++ us)) l.0) (sym e)
            (subst (λ x. AreProperties t (property_views (p ∷ ps)) (Token.key a.name ∷ x) l.0) same reads),
        l.2,
      );
}

pub property_begun : (t : Table) (m : List Property) (p : Property) (ps : List Property) (b : Bool) (i rest : Begun) (o q r : List Token) →
    m ≡ p ∷ ps → rest.braced ≡ b →
    ((ts us : List Token) → IsLeft rest.left ts us → (mid : List Token) × AreProperties t (property_views ps) ts mid × (after_end_object mid ≡ Some us)) →
    BeginsProperty b t p.key p.flags.0 o q → Continues (IsLeft i.left) (ReadsAs (expected_under t p.key) (view p.value)) q r →
    Continues (IsWithin i (rest ∷ [])) (λ ts us. (mid : List Token) × AreProperties t (property_views m) ts mid × (after_end_object mid ≡ Some us)) o r
property_begun t m p ps b i rest o q r e f g a w = record {
  ts = Token.key a.name ∷ (a.ts ++ w.ts);
  appended = append_on o (Token.key a.name ∷ a.ts) w.ts a.appended w.appended;
  continued = λ us ws h.
      let around = h.2 in
      let left = g around.0 around.1 around.3 in
      let shut : close b h.0 ≡ Some around.0 = ap (λ z. close z h.0) (sym f) ∙ around.2 in
      let reads = property_reads t p.key p.flags.0 (view p.value) (property_views ps) b o q a (w.ts ++ us) h.0 around.0 left.0
      (w.continued us h.0 h.1) shut left.1 in (
        left.0,
        subst (λ x. AreProperties t (property_views x) (Token.key a.name ∷ ((a.ts ++ w.ts) ++ us)) left.0) (sym e)
            (subst (λ x. AreProperties t (property_views (p ∷ ps)) (Token.key a.name ∷ x) left.0) (sym (append_assoc a.ts w.ts us)) reads),
        left.2 ∙ ap Some around.4,
      );
}

-- ---- What begins a value

pub struct_begun : (c : Expected) (vs : Trees) (o n : List Token) → n ≡ o ++ Token.begin_array ∷ [] →
    Continues (AreMembers vs) (ReadsAs c (struct vs)) o n
unfolding opens
struct_begun c vs o n e = record {
  ts = Token.begin_array ∷ [];
  appended = e;
  continued = λ us rest l. (Token.begin_array, us, refl, (false, us, rest, refl, l, refl));
}

pub object_begun : (c : Expected) (t i : ℕ) (ps : Properties) (v : Tree) (o n : List Token) → v ≡ object t i ps → Opens c (an_object t i) o n →
    Continues (λ ts rest. (mid : List Token) × AreProperties (keys_of t) ps ts mid × (after_end_object mid ≡ Some rest)) (ReadsAs c v) o n
object_begun c t i ps v o n e a = record {
  ts = a.ts;
  appended = a.appended;
  continued = λ us rest l.
      let d = a.opened us in
      subst (λ w. ReadsAs c w (a.ts ++ us) rest) (sym e) (d.0, d.1, d.2, (us, l.0, d.3, l.1, l.2));
}

pub object_left : (c : Expected) (t i : ℕ) (k : Table) (m l : List Property) (v : Tree) (o n : List Token) → k ≡ keys_of t → m ≡ l →
    v ≡ object t i (property_views l) → Opens c (an_object t i) o n →
    Continues (λ ts rest. (mid : List Token) × AreProperties k (property_views m) ts mid × (after_end_object mid ≡ Some rest)) (ReadsAs c v) o n
object_left c t i k m l v o n same_keys same e a =
    subst (λ x. Continues (λ ts rest. (mid : List Token) × AreProperties x (property_views m) ts mid × (after_end_object mid ≡ Some rest)) (ReadsAs c v) o n)
    (sym same_keys)
    (subst (λ x. Continues (λ ts rest. (mid : List Token) × AreProperties (keys_of t) (property_views x) ts mid × (after_end_object mid ≡ Some rest)) (ReadsAs c v) o n)
    (sym same) (object_begun c t i (property_views l) v o n e a))

pub object_opened : (t i : ℕ) (o p q r s u w : List Token) → p ≡ o ++ Token.begin_object ∷ Token.key (codes "type") ∷ [] →
    PutsName Types t p q → r ≡ q ++ Token.key (codes "id") ∷ [] → PutsName (ids_of t) i r s →
    u ≡ s ++ Token.key (codes "props") ∷ [] → w ≡ u ++ Token.begin_object ∷ [] → (c : Expected) → Opens c (an_object t i) o w
unfolding opens
object_opened t i o p q r s u w e a d b f g c = record {
  ts = Token.begin_object ∷ Token.key (codes "type") ∷ a.token ∷ Token.key (codes "id") ∷ b.token ∷ Token.key (codes "props") ∷ Token.begin_object ∷ [];
  appended =
      append_on o (Token.begin_object ∷ Token.key (codes "type") ∷ a.token ∷ [])
      (Token.key (codes "id") ∷ b.token ∷ Token.key (codes "props") ∷ Token.begin_object ∷ [])
      (append_on o (Token.begin_object ∷ Token.key (codes "type") ∷ []) (a.token ∷ []) e a.appended)
      (append_on q (Token.key (codes "id") ∷ b.token ∷ []) (Token.key (codes "props") ∷ Token.begin_object ∷ [])
      (append_on q (Token.key (codes "id") ∷ []) (b.token ∷ []) d b.appended)
      (append_on s (Token.key (codes "props") ∷ []) (Token.begin_object ∷ []) f g));
  opened = λ us. (Token.key (codes "type"), _, refl, rw (a.said, b.said) refl);
  exact =
      ap (λ x. Token.begin_object ∷ Token.key (codes "type") ∷ x ∷ Token.key (codes "id") ∷ b.token ∷ Token.key (codes "props") ∷ Token.begin_object ∷ []) a.exact
      ∙ ap (λ x. Token.begin_object ∷ Token.key (codes "type") ∷ name_token Types t ∷ Token.key (codes "id") ∷ x ∷ Token.key (codes "props") ∷ Token.begin_object ∷ []) b.exact;
}

-- a value that is printed is not begun
pub printed_whole : (c : Expected) (v : Tree) (o n : List Token) → Prints c v o n → PrintsOrBegins c v None o n
printed_whole c v o n w = (reads, leaf_whole c v o n w)
  where
    reads : Continues (λ ts rest. ts ≡ rest) (ReadsAs c v) o n
    reads = record {
      ts = w.ts;
      appended = w.appended;
      continued = λ us rest z. subst (ReadsAs c v (w.ts ++ us)) z (w.reads us);
    }

pub not_begun : (c : Expected) (v : Value) (o n : List Token) → ((x : _) → v ≢ V.Struct x) → ((x : _) → v ≢ V.Object x) →
    PrintsWhole c v o n → PrintsOrBegins c (view v) None o n
not_begun c (V.Struct' s r) o n a b w =
    absurd (a _ (sym (roll-out-Value (V.Struct' s r)) ∙ ap roll-Value (V.outs-Struct' s r) ∙ V.rolls-Struct _))
not_begun c (V.Object x) o n a b w = absurd (b x refl)
not_begun c _ o n a b w = printed_whole c _ o n w

-- ---- The values that are begun

-- a value that is printed at once
pub first_printed : (v : Tree) (o n : List Token) → PrintsOrBegins nothing v None o n → Prints nothing v o n
first_printed v o n w = record {
  ts = w.0.ts;
  appended = w.0.appended;
  reads = λ rest. w.0.continued rest rest refl;
  exact = λ h. append_cancel_left o w.0.ts (tokens_of nothing v) (sym w.0.appended ∙ sym (append-nil n) ∙ (w.1 h).1);
}

-- the whole text
pub whole_printed : (v : Tree) (o n ts : List Token) → o ≡ [] → Prints nothing v o n → ts ≡ n → ReadsAs nothing v ts []
whole_printed v o n ts e w back =
    let same : ts ≡ w.ts = back ∙ w.appended ∙ ap (λ l. l ++ w.ts) e in
    subst (λ l. ReadsAs nothing v l []) (append-nil w.ts ∙ sym same) (w.reads [])

pub whole_exact : (v : Tree) (o n ts : List Token) → o ≡ [] → Prints nothing v o n → ts ≡ n → HasNoFloat v → ts ≡ tokens_of nothing v
whole_exact v o n ts e w back h = back ∙ w.appended ∙ ap (λ l. l ++ w.ts) e ∙ w.exact h

-- all that is written so far, from what is left
pub first_within : (v : Tree) (b : Begun) (outer : List Begun) (o n : List Token) → outer ≡ [] → Continues (IsLeft b.left) (ReadsAs nothing v) o n →
    Continues (IsWithin b (reverse outer)) (ReadsAs nothing v) o n
first_within v b outer o n e w = record {
  ts = w.ts;
  appended = w.appended;
  continued = λ us rest l.
      let nothing_around = subst (λ z. AreAround (reverse z) l.0 rest) e l.2 in
      w.continued us rest (subst (λ z. IsLeft b.left us z) nothing_around l.1);
}

pub last_ended : (v : Tree) (b : Begun) (outer : List Begun) (o m n : List Token) → outer ≡ [] →
    Continues (IsWithin b (reverse outer)) (ReadsAs nothing v) o m → Continues (λ ts rest. ts ≡ rest) (IsLeft b.left) m n →
    (HasNoFloat v → n ≡ o ++ tokens_of nothing v) → Prints nothing v o n
last_ended v b outer o m n e a w x = record {
  ts = a.ts ++ w.ts;
  appended = append_on o a.ts w.ts a.appended w.appended;
  exact = λ h. append_cancel_left o (a.ts ++ w.ts) (tokens_of nothing v) (sym (append_on o a.ts w.ts a.appended w.appended) ∙ x h);
  reads = λ rest.
      subst (λ z. ReadsAs nothing v z rest) (sym (append_assoc a.ts w.ts rest))
      (a.continued (w.ts ++ rest) rest
      (rest, w.continued rest rest refl, subst (λ l. AreAround (reverse l) rest rest) (sym e) refl));
}

pub one_ended : (v : Tree) (b around : Begun) (outer rest : List Begun) (o m n p : List Token) → outer ≡ rest ++ around ∷ [] →
    Continues (IsWithin b (reverse outer)) (ReadsAs nothing v) o m → Continues (λ ts us. ts ≡ us) (IsLeft b.left) m n →
    p ≡ n ++ closing around.braced → Continues (IsWithin around (reverse rest)) (ReadsAs nothing v) o p
one_ended v b around outer rest o m n p e a w d = record {
  ts = a.ts ++ (w.ts ++ closing around.braced);
  appended = append_on o a.ts (w.ts ++ closing around.braced) a.appended (append_on m w.ts (closing around.braced) w.appended d);
  continued = λ us ws l.
      let tail = closing around.braced ++ us in
      let turned : reverse outer ≡ around ∷ reverse rest = ap reverse e ∙ reverse-append rest (around ∷ []) in
      let here : AreAround (reverse outer) tail ws =
      subst (λ z. AreAround z tail ws) (sym turned) (us, l.0, close-closing around.braced us, l.1, l.2) in
      let same : a.ts ++ (w.ts ++ tail) ≡ (a.ts ++ (w.ts ++ closing around.braced)) ++ us =
      sym (append_assoc a.ts (w.ts ++ closing around.braced) us ∙ ap (λ x. a.ts ++ x) (append_assoc w.ts (closing around.braced) us)) in
      subst (λ z. ReadsAs nothing v z ws) same (a.continued (w.ts ++ tail) ws (tail, w.continued tail tail refl, here));
}

pub one_printed : (v : Tree) (b rest : Begun) (around : List Begun) (o m n : List Token) → Continues (IsWithin b around) (ReadsAs nothing v) o m →
    Continues (IsLeft rest.left) (IsLeft b.left) m n → Continues (IsWithin rest around) (ReadsAs nothing v) o n
one_printed v b rest around o m n a w = record {
  ts = a.ts ++ w.ts;
  appended = append_on o a.ts w.ts a.appended w.appended;
  continued = λ us ws l.
      subst (λ z. ReadsAs nothing v z ws) (sym (append_assoc a.ts w.ts us)) (a.continued (w.ts ++ us) ws (l.0, w.continued us l.0 l.1, l.2));
}

pub one_begun : (v : Tree) (b rest i : Begun) (outer more : List Begun) (o m n : List Token) → more ≡ outer ++ rest ∷ [] →
    Continues (IsWithin b (reverse outer)) (ReadsAs nothing v) o m → Continues (IsWithin i (rest ∷ [])) (IsLeft b.left) m n →
    Continues (IsWithin i (reverse more)) (ReadsAs nothing v) o n
one_begun v b rest i outer more o m n e a w = record {
  ts = a.ts ++ w.ts;
  appended = append_on o a.ts w.ts a.appended w.appended;
  continued = λ us ws l.
      let turned : reverse more ≡ rest ∷ reverse outer = ap reverse e ∙ reverse-append outer (rest ∷ []) in
      let around = subst (λ z. AreAround z l.0 ws) turned l.2 in
      subst (λ z. ReadsAs nothing v z ws) (sym (append_assoc a.ts w.ts us))
      (a.continued (w.ts ++ us) ws
      (around.1, w.continued us around.1 (l.0, l.1, (around.0, around.1, around.2, around.3, refl)), around.4));
}
