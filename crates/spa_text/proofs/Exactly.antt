-- What is printed, with what is left behind it, is all that is printed of a value.
use Rattle.std.proofs.Common.{◌≡◌, ℕ, length, List, [], ◌∷◌, ◌++◌, Bool, false, refl, sym, ap, subst, ◌∙◌, append-nil, append_assoc}
use Rattle.std.specs.Prelude.{⊤, reverse}
use Rattle.std.proofs.lemmas.List.{reverse-append, nil_from_length}
use Rattle.json.specs.Token.{Token}
use Rattle.spa_format.specs.Tree.{Tree, Trees, Properties, struct, object}
use Rattle.spa_value.specs.declared.value.Value.{Value}
use Rattle.spa_value.specs.declared.object.Property.{Property}
use Rattle.spa_value.specs.View.{view}
use Rattle.spa_value.specs.Views.{property_views, views}
use Rattle.spa_names.specs.declared.entry.Expected.{Expected}
use Rattle.spa_names.specs.declared.table.Table.{Table}
use Rattle.spa_text_read.specs.Grammar.{an_object, nothing}
use Rattle.spa_text_read.specs.Names.{expected_under, keys_of}
use Rattle.spa_text.specs.Printed.{HasNoFloat, HaveNoFloat, HoldNoFloat, flags_end, flags_front, front_of, key_text, member_tokens, property_tokens, tokens_of}
use Rattle.spa_text.specs.Left.{Leaves, LeavesNoFloat, LeavesWithin, around_tokens, left_tokens}
use Rattle.spa_text.specs.Written.{BeginsProperty, Opens, Prints, closing}
use Rattle.spa_text.specs.declared.printing.Begun.{Begun}
use Rattle.spa_text.proofs.Appending.{append_on}

-- more behind both
behind_both : {A : Type 0} (n l o t r : List A) → n ++ l ≡ o ++ t → n ++ (l ++ r) ≡ o ++ (t ++ r)
behind_both n l o t r e = sym (append_assoc n l r) ∙ ap (λ x. x ++ r) e ∙ append_assoc o t r

-- nothing is left behind it
done : {A : Type 0} (n t : List A) → n ++ [] ≡ t → n ≡ t
done n t e = sym (append-nil n) ∙ e

pub leaf_whole : (c : Expected) (v : Tree) (o n : List Token) → Prints c v o n → Leaves (HasNoFloat v) (tokens_of c v) ⊤ [] o n
leaf_whole c v o n w h = (tt, append-nil n ∙ w.appended ∙ ap (λ l. o ++ l) (w.exact h))

-- ---- Members

pub members_done : (m : List Value) (o n : List Token) → length m ≡ 0 → n ≡ o ++ Token.end_array ∷ [] →
    Leaves (HaveNoFloat (views m)) (member_tokens (views m)) ⊤ [] o n
members_done m o n e d h = (tt, append-nil n ∙ d ∙ ap (λ l. o ++ member_tokens (views l)) (sym (nil_from_length m e)))

pub member_done : (m : List Value) (v : Value) (vs : List Value) (o n : List Token) → m ≡ v ∷ vs →
    Leaves (HasNoFloat (view v)) (tokens_of nothing (view v)) ⊤ [] o n →
    Leaves (HaveNoFloat (views m)) (member_tokens (views m)) (HaveNoFloat (views vs)) (member_tokens (views vs)) o n
member_done m v vs o n e w h =
    let f : HaveNoFloat (views (v ∷ vs)) = subst (λ l. HaveNoFloat (views l)) e h in (
      f.1,
      behind_both n [] o (tokens_of nothing (view v)) (member_tokens (views vs)) (w f.0).1
          ∙ ap (λ l. o ++ member_tokens (views l)) (sym e),
    )

-- what is left around a value, without a brace and with one
around_it : (rest : Begun) (b : Bool) (e ts : List Token) → rest.braced ≡ b → closing b ≡ e → left_tokens rest.left ≡ ts →
    around_tokens (rest ∷ []) ≡ e ++ ts
around_it rest b e ts f g d =
    ap (λ l. closing rest.braced ++ l) (append-nil (left_tokens rest.left) ∙ d) ∙ ap (λ l. l ++ ts) (ap closing f ∙ g)

pub member_opened : (m : List Value) (v : Value) (vs : List Value) (b rest : Begun) (o n : List Token) → m ≡ v ∷ vs → rest.braced ≡ false →
    (HaveNoFloat (views vs) → LeavesNoFloat rest.left) → left_tokens rest.left ≡ member_tokens (views vs) →
    Leaves (HasNoFloat (view v)) (tokens_of nothing (view v)) (LeavesNoFloat b.left) (left_tokens b.left) o n →
    LeavesWithin (HaveNoFloat (views m)) (member_tokens (views m)) b (rest ∷ []) o n
member_opened m v vs b rest o n e f g d w h =
    let free : HaveNoFloat (views (v ∷ vs)) = subst (λ l. HaveNoFloat (views l)) e h in
    let r = w free.0 in (
      (r.0, (g free.1, tt)),
      ap (λ l. n ++ (left_tokens b.left ++ l)) (around_it rest false [] (member_tokens (views vs)) f refl d)
          ∙ behind_both n (left_tokens b.left) o (tokens_of nothing (view v)) (member_tokens (views vs)) r.1
          ∙ ap (λ l. o ++ member_tokens (views l)) (sym e),
    )

-- ---- Properties

pub properties_done : (t : Table) (m : List Property) (o p q : List Token) → length m ≡ 0 → p ≡ o ++ Token.end_object ∷ [] →
    q ≡ p ++ Token.end_object ∷ [] → Leaves (HoldNoFloat (property_views m)) (property_tokens t (property_views m)) ⊤ [] o q
properties_done t m o p q e d f h = (
  tt,
  append-nil q ∙ append_on o (Token.end_object ∷ []) (Token.end_object ∷ []) d f
      ∙ ap (λ l. o ++ property_tokens t (property_views l)) (sym (nil_from_length m e)),
)

begun_so : (b : Bool) (t : Table) (k f : ℕ) (o q : List Token) → BeginsProperty b t k f o q → q ≡ o ++ (Token.key (key_text t k) ∷ flags_front f)
begun_so b t k f o q a =
    a.appended ∙ ap (λ x. o ++ (Token.key x ∷ a.ts)) a.named ∙ ap (λ l. o ++ (Token.key (key_text t k) ∷ l)) a.exact

-- a property that reads on from its value
with_value : (o q r left value back rest key : List Token) → q ≡ o ++ key → r ++ left ≡ q ++ value →
    r ++ (left ++ (back ++ rest)) ≡ o ++ (key ++ (value ++ (back ++ rest)))
with_value o q r left value back rest key e d =
    behind_both r left q value (back ++ rest) d ∙ ap (λ l. l ++ (value ++ (back ++ rest))) e ∙ append_assoc o key (value ++ (back ++ rest))

pub property_done : (t : Table) (m : List Property) (p : Property) (ps : List Property) (b : Bool) (o q r s : List Token) → m ≡ p ∷ ps →
    BeginsProperty b t p.key p.flags.0 o q →
    Leaves (HasNoFloat (view p.value)) (tokens_of (expected_under t p.key) (view p.value)) ⊤ [] q r → s ≡ r ++ closing b →
    Leaves (HoldNoFloat (property_views m)) (property_tokens t (property_views m)) (HoldNoFloat (property_views ps)) (property_tokens t (property_views ps)) o s
property_done t m p ps b o q r s e a w d h =
    let free : HoldNoFloat (property_views (p ∷ ps)) = subst (λ l. HoldNoFloat (property_views l)) e h in
    let rest = property_tokens t (property_views ps) in
    let ends : s ≡ r ++ flags_end p.flags.0 = d ∙ ap (λ l. r ++ l) a.ends in (
      free.1,
      ap (λ l. l ++ rest) ends ∙ append_assoc r (flags_end p.flags.0) rest
          ∙ with_value o q r [] (tokens_of (expected_under t p.key) (view p.value)) (flags_end p.flags.0) rest (Token.key (key_text t p.key) ∷ flags_front p.flags.0)
          (begun_so b t p.key p.flags.0 o q a) (w free.0).1
          ∙ ap (λ l. o ++ property_tokens t (property_views l)) (sym e),
    )

pub property_opened : (t : Table) (m : List Property) (p : Property) (ps : List Property) (b : Bool) (i rest : Begun) (o q r : List Token) →
    m ≡ p ∷ ps → rest.braced ≡ b → (HoldNoFloat (property_views ps) → LeavesNoFloat rest.left) →
    left_tokens rest.left ≡ property_tokens t (property_views ps) → BeginsProperty b t p.key p.flags.0 o q →
    Leaves (HasNoFloat (view p.value)) (tokens_of (expected_under t p.key) (view p.value)) (LeavesNoFloat i.left) (left_tokens i.left) q r →
    LeavesWithin (HoldNoFloat (property_views m)) (property_tokens t (property_views m)) i (rest ∷ []) o r
property_opened t m p ps b i rest o q r e f g d a w h =
    let free : HoldNoFloat (property_views (p ∷ ps)) = subst (λ l. HoldNoFloat (property_views l)) e h in
    let value = w free.0 in
    let behind = property_tokens t (property_views ps) in (
      (value.0, (g free.1, tt)),
      ap (λ l. r ++ (left_tokens i.left ++ l)) (around_it rest b (flags_end p.flags.0) behind f a.ends d)
          ∙ with_value o q r (left_tokens i.left) (tokens_of (expected_under t p.key) (view p.value)) (flags_end p.flags.0) behind (Token.key (key_text t p.key) ∷ flags_front p.flags.0)
          (begun_so b t p.key p.flags.0 o q a) value.1
          ∙ ap (λ l. o ++ property_tokens t (property_views l)) (sym e),
    )

-- ---- What begins a value

pub struct_opened : (c : Expected) (vs : Trees) (o n : List Token) → n ≡ o ++ Token.begin_array ∷ [] →
    Leaves (HasNoFloat (struct vs)) (tokens_of c (struct vs)) (HaveNoFloat vs) (member_tokens vs) o n
struct_opened c vs o n e h = (h, ap (λ l. l ++ member_tokens vs) e ∙ append_assoc o (Token.begin_array ∷ []) (member_tokens vs))

object_whole : (c : Expected) (t i : ℕ) (ps : Properties) (v : Tree) (o n : List Token) → v ≡ object t i ps → Opens c (an_object t i) o n →
    Leaves (HasNoFloat v) (tokens_of c v) (HoldNoFloat ps) (property_tokens (keys_of t) ps) o n
object_whole c t i ps v o n e a h =
    let back = property_tokens (keys_of t) ps in (
      subst HasNoFloat e h,
      ap (λ l. l ++ back) (a.appended ∙ ap (λ l. o ++ l) a.exact) ∙ append_assoc o (front_of c (an_object t i)) back
          ∙ ap (λ w. o ++ tokens_of c w) (sym e),
    )

pub object_opened_left : (c : Expected) (t i : ℕ) (k : Table) (m l : List Property) (v : Tree) (o n : List Token) → k ≡ keys_of t → m ≡ l →
    v ≡ object t i (property_views l) → Opens c (an_object t i) o n →
    Leaves (HasNoFloat v) (tokens_of c v) (HoldNoFloat (property_views m)) (property_tokens k (property_views m)) o n
object_opened_left c t i k m l v o n same_keys same e a =
    subst (λ x. Leaves (HasNoFloat v) (tokens_of c v) (HoldNoFloat (property_views m)) (property_tokens x (property_views m)) o n) (sym same_keys)
    (subst (λ x. Leaves (HasNoFloat v) (tokens_of c v) (HoldNoFloat (property_views x)) (property_tokens (keys_of t) (property_views x)) o n)
    (sym same) (object_whole c t i (property_views l) v o n e a))

-- ---- The values that are begun

pub first_left : (P : Type 0) (whole : List Token) (b : Begun) (outer : List Begun) (o n : List Token) → outer ≡ [] →
    Leaves P whole (LeavesNoFloat b.left) (left_tokens b.left) o n → LeavesWithin P whole b (reverse outer) o n
first_left P whole b outer o n e w =
    subst (λ z. LeavesWithin P whole b (reverse z) o n) (sym e)
    (λ h. ((((w h).0), tt), ap (λ l. n ++ l) (append-nil (left_tokens b.left)) ∙ (w h).1))

pub last_left : (P : Type 0) (whole : List Token) (b : Begun) (outer : List Begun) (o m n : List Token) → outer ≡ [] →
    LeavesWithin P whole b (reverse outer) o m → Leaves (LeavesNoFloat b.left) (left_tokens b.left) ⊤ [] m n → P → n ≡ o ++ whole
last_left P whole b outer o m n e a w h =
    let here : LeavesWithin P whole b [] o m = subst (λ z. LeavesWithin P whole b (reverse z) o m) e a in
    let r = here h in
    done n (m ++ left_tokens b.left) (w r.0.0).1 ∙ ap (λ l. m ++ l) (sym (append-nil (left_tokens b.left))) ∙ r.1

pub one_left : (P : Type 0) (whole : List Token) (b around : Begun) (outer rest : List Begun) (o m n p : List Token) → outer ≡ rest ++ around ∷ [] →
    LeavesWithin P whole b (reverse outer) o m → Leaves (LeavesNoFloat b.left) (left_tokens b.left) ⊤ [] m n →
    p ≡ n ++ closing around.braced → LeavesWithin P whole around (reverse rest) o p
one_left P whole b around outer rest o m n p e a w d h =
    let turned : reverse outer ≡ around ∷ reverse rest = ap reverse e ∙ reverse-append rest (around ∷ []) in
    let here : LeavesWithin P whole b (around ∷ reverse rest) o m = subst (λ z. LeavesWithin P whole b z o m) turned a in
    let r = here h in
    let behind = left_tokens around.left ++ around_tokens (reverse rest) in (
      (r.0.1.0, r.0.1.1),
      ap (λ l. l ++ behind) d ∙ append_assoc n (closing around.braced) behind
          ∙ behind_both n [] m (left_tokens b.left) (closing around.braced ++ behind) (w r.0.0).1 ∙ r.1,
    )

pub next_left : (P : Type 0) (whole : List Token) (b rest : Begun) (around : List Begun) (o m n : List Token) → LeavesWithin P whole b around o m →
    Leaves (LeavesNoFloat b.left) (left_tokens b.left) (LeavesNoFloat rest.left) (left_tokens rest.left) m n →
    LeavesWithin P whole rest around o n
next_left P whole b rest around o m n a w h =
    let r = a h in
    let s = w r.0.0 in
    ((s.0, r.0.1), behind_both n (left_tokens rest.left) m (left_tokens b.left) (around_tokens around) s.1 ∙ r.1)

pub inner_left : (P : Type 0) (whole : List Token) (b rest i : Begun) (outer more : List Begun) (o m n : List Token) → more ≡ outer ++ rest ∷ [] →
    LeavesWithin P whole b (reverse outer) o m → LeavesWithin (LeavesNoFloat b.left) (left_tokens b.left) i (rest ∷ []) m n →
    LeavesWithin P whole i (reverse more) o n
inner_left P whole b rest i outer more o m n e a w =
    let turned : reverse more ≡ rest ∷ reverse outer = ap reverse e ∙ reverse-append outer (rest ∷ []) in
    subst (λ z. LeavesWithin P whole i z o n) (sym turned) here
  where
    around : List Token
    around = around_tokens (reverse outer)

    deeper : left_tokens i.left ++ (closing rest.braced ++ (left_tokens rest.left ++ around))
        ≡ (left_tokens i.left ++ (closing rest.braced ++ (left_tokens rest.left ++ []))) ++ around
    deeper =
        sym (append_assoc (left_tokens i.left) (closing rest.braced ++ (left_tokens rest.left ++ [])) around
        ∙ ap (λ l. left_tokens i.left ++ l) (append_assoc (closing rest.braced) (left_tokens rest.left ++ []) around
        ∙ ap (λ l. closing rest.braced ++ (l ++ around)) (append-nil (left_tokens rest.left))))

    here : LeavesWithin P whole i (rest ∷ reverse outer) o n
    here h =
        let r = a h in
        let s = w r.0.0 in (
          (s.0.0, (s.0.1.0, r.0.1)),
          ap (λ l. n ++ l) deeper
              ∙ behind_both n (left_tokens i.left ++ (closing rest.braced ++ (left_tokens rest.left ++ []))) m (left_tokens b.left) around s.1
              ∙ r.1,
        )
