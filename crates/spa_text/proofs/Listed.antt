-- Arrays and choices, read from what is printed of them.
use Rattle.std.proofs.Common.{◌≡◌, ◌≢◌, ◌==◌, inl, inr, ℕ, zero, suc, ◌+◌, ◌<◌, length, take, get_or, ◌^◌, List, [], ◌∷◌, ◌++◌, true, false, refl, sym, ap, subst, ◌∙◌, append-nil, append_assoc, arith}
use Rattle.std.specs.Prelude.{Some, None, codes, decimal, map, if◌then◌else◌}
use Rattle.std.proofs.lemmas.Bool.{eqb-true, eq-eqb}
use Rattle.std.proofs.lemmas.List.{map-append, take_more}
use Rattle.json.specs.Token.{Token}
use Rattle.json.specs.Json.{after_end_array}
use Rattle.spa_format.specs.Kind.{Kind, Fixed, body_size, kind_of, type_number, none_kind, bool_kind, id_kind, int_kind, long_kind, float_kind, double_kind, rectangle_kind, fraction_kind, fd_kind}
use Rattle.spa_format.specs.Tree.{Shape, fixed, array, choice, none_choice, range_choice, step_choice, enum_choice, flags_choice}
use Rattle.spa_fixed_sized.specs.Choices.{choice_enum_tree}
use Rattle.spa_utils.specs.declared.choice.ChoiceEnum.{ChoiceEnum}
use Rattle.spa_utils.specs.declared.choice.ChoiceEnum.TheVariants as E
use Rattle.spa_value.specs.Equality.{kind_eq}
use Rattle.spa_names.specs.declared.entry.Expected.{Expected}
use Rattle.spa_names.specs.declared.table.Table.TheVariants.{Types}
use Rattle.spa_text_read.specs.Grammar.{AreElements, a_choice, an_array, chosen, element, opens, shape_named, type_kind}
use Rattle.spa_text.specs.Printed.{AreNoFloats, fixed_tokens, flag_tokens, front_of, list_tokens, listed, name_token, shape_text, type_tokens}
use Rattle.spa_text_read.specs.Tokens.{head}
use Rattle.spa_text.specs.Written.{Lists, Opens, Prints, PutsName, PutsType, shape_in, values_in}
use Rattle.spa_text.proofs.Appending.{append_on}
use Rattle.spa_text.proofs.Leaf.{choose, refuse}
use Rattle.spa_text.proofs.Numbers.{unsigned_number-decimal}

-- ---- Values of one kind

-- the bracket isn't at the front of a value
pub not_ended : (ts : List Token) (p : Token × List Token) → head ts ≡ Some p → after_end_array ts ≡ None
not_ended [] p e = refl
not_ended (Token.begin_object ∷ ts) p e = refl
not_ended (Token.end_object ∷ ts) p e = refl
not_ended (Token.begin_array ∷ ts) p e = refl
not_ended (Token.end_array ∷ ts) p e = cc
not_ended (Token.key s ∷ ts) p e = refl
not_ended (Token.string s ∷ ts) p e = refl
not_ended (Token.number s ∷ ts) p e = refl
not_ended (Token.boolean b ∷ ts) p e = refl
not_ended (Token.null ∷ ts) p e = refl
not_ended (Token.bad ∷ ts) p e = refl

same_kind : (k : Kind) → kind_eq k k ≡ true
same_kind none_kind = refl
same_kind bool_kind = refl
same_kind id_kind = refl
same_kind int_kind = refl
same_kind long_kind = refl
same_kind float_kind = refl
same_kind double_kind = refl
same_kind rectangle_kind = refl
same_kind fraction_kind = refl
same_kind fd_kind = refl

pub kind_numbered : (k : Kind) → type_kind (type_number k) ≡ Some k
kind_numbered none_kind = refl
kind_numbered bool_kind = refl
kind_numbered id_kind = refl
kind_numbered int_kind = refl
kind_numbered long_kind = refl
kind_numbered float_kind = refl
kind_numbered double_kind = refl
kind_numbered rectangle_kind = refl
kind_numbered fraction_kind = refl
kind_numbered fd_kind = refl

not_none : (k : Kind) → 0 < body_size k → kind_eq k none_kind ≡ false
not_none none_kind h = absurd (omega (arith, h))
not_none bool_kind h = refl
not_none id_kind h = refl
not_none int_kind h = refl
not_none long_kind h = refl
not_none float_kind h = refl
not_none double_kind h = refl
not_none rectangle_kind h = refl
not_none fraction_kind h = refl
not_none fd_kind h = refl

pub one_listed : (c : Expected) (k : Kind) (x : Fixed) (o n : List Token) → kind_of x ≡ k → Prints c (fixed x) o n → Lists c k (x ∷ []) o n
one_listed c k x o n e w = record {
  ts = w.ts;
  appended = w.appended;
  listed = λ ys us rest more.
      let r = w.reads us in
      (r.0, r.1, us, not_ended (w.ts ++ us) (r.0, r.1) r.2, r.2, r.3, ap (λ j. kind_eq j k) e ∙ same_kind k, more);
  exact = λ h. w.exact h.0 ∙ sym (append-nil (fixed_tokens c x));
}

-- of two lists one behind the other
no_floats : (xs ys : List Fixed) → AreNoFloats (xs ++ ys) → AreNoFloats xs × AreNoFloats ys
no_floats [] ys h = (tt, h)
no_floats (x ∷ xs) ys h = let r = no_floats xs ys h.1 in ((h.0, r.0), r.1)

list_tokens-append : (c : Expected) (xs ys : List Fixed) → list_tokens c (xs ++ ys) ≡ list_tokens c xs ++ list_tokens c ys
list_tokens-append c [] ys = refl
list_tokens-append c (x ∷ xs) ys =
    ap (λ l. fixed_tokens c x ++ l) (list_tokens-append c xs ys) ∙ sym (append_assoc (fixed_tokens c x) (list_tokens c xs) (list_tokens c ys))

pub more_listed : (c : Expected) (k : Kind) (xs ys : List Fixed) (o m n : List Token) → Lists c k xs o m → Lists c k ys m n →
    Lists c k (xs ++ ys) o n
more_listed c k xs ys o m n a b = record {
  ts = a.ts ++ b.ts;
  appended = append_on o a.ts b.ts a.appended b.appended;
  listed = λ zs us rest more.
      subst (λ l. AreElements c k l ((a.ts ++ b.ts) ++ us) rest) (sym (append_assoc xs ys zs))
      (subst (λ l. AreElements c k (xs ++ (ys ++ zs)) l rest) (sym (append_assoc a.ts b.ts us))
      (a.listed (ys ++ zs) (b.ts ++ us) rest (b.listed zs us rest more)));
  exact = λ h.
      let n = no_floats xs ys h in
      ap (λ l. l ++ b.ts) (a.exact n.0) ∙ ap (λ l. list_tokens c xs ++ l) (b.exact n.1) ∙ sym (list_tokens-append c xs ys);
}

-- the first ones of a list, and the next
pub next_listed : {T : Type 0} (c : Expected) (k : Kind) (g : T → Fixed) (vs : List T) (i : ℕ) (x : T) (o m n : List Token) →
    i < length vs → x ≡ get_or vs i x → Lists c k (map g (take i vs)) o m → Lists c k (g x ∷ []) m n →
    Lists c k (map g (take (i + 1) vs)) o n
next_listed c k g vs i x o m n l e a b =
    let next = ap (map g) (take_more vs i x l ∙ ap (λ y. take i vs ++ y ∷ []) (sym e)) ∙ map-append g (take i vs) (x ∷ []) in
    subst (λ z. Lists c k z o n) (sym next) (more_listed c k (map g (take i vs)) (g x ∷ []) o m n a b)

-- all of them, and the bracket and the brace behind them
all_listed : (c : Expected) (k : Kind) (xs : List Fixed) (o n : List Token) (w : Lists c k xs o n) (rest : List Token) →
    AreElements c k xs (w.ts ++ Token.end_array ∷ Token.end_object ∷ rest) (Token.end_object ∷ rest)
all_listed c k xs o n w rest =
    subst (λ l. AreElements c k l (w.ts ++ Token.end_array ∷ Token.end_object ∷ rest) (Token.end_object ∷ rest)) (append-nil xs)
    (w.listed [] (Token.end_array ∷ Token.end_object ∷ rest) (Token.end_object ∷ rest) refl)

-- what stands behind three pieces
behind : (a b : List Token) (rest : List Token) →
    (a ++ (b ++ Token.end_array ∷ Token.end_object ∷ [])) ++ rest ≡ a ++ (b ++ Token.end_array ∷ Token.end_object ∷ rest)
behind a b rest =
    append_assoc a (b ++ Token.end_array ∷ Token.end_object ∷ []) rest ∙ ap (λ l. a ++ l) (append_assoc b (Token.end_array ∷ Token.end_object ∷ []) rest)

both_listed : (a b front ts : List Token) → a ≡ front → b ≡ ts → listed a b ≡ listed front ts
both_listed a b front ts e d = ap (λ l. listed l b) e ∙ ap (λ l. listed front l) d

-- ---- An array

pub array_printed : (c : Expected) (k : Kind) (xs : List Fixed) (o m n p : List Token) → Opens c (an_array c.ids k) o m →
    Lists (element c.ids k) k xs m n → p ≡ n ++ Token.end_array ∷ Token.end_object ∷ [] → Prints c (array k xs) o p
array_printed c k xs o m n p a b e = record {
  ts = a.ts ++ (b.ts ++ Token.end_array ∷ Token.end_object ∷ []);
  appended = append_on o a.ts (b.ts ++ Token.end_array ∷ Token.end_object ∷ []) a.appended (append_on m b.ts (Token.end_array ∷ Token.end_object ∷ []) b.appended e);
  reads = λ rest.
      let us = b.ts ++ Token.end_array ∷ Token.end_object ∷ rest in
      let d = a.opened us in
      (d.0, d.1, ap head (behind a.ts b.ts rest) ∙ d.2, (c.ids, us, Token.end_object ∷ rest, d.3, all_listed (element c.ids k) k xs m n b rest, refl));
  exact = λ h. both_listed a.ts b.ts (front_of c (an_array c.ids k)) (list_tokens (element c.ids k) xs) a.exact (b.exact h);
}

pub array_opened : (c : Expected) (n : ℕ) (o p q r s : List Token) → p ≡ o ++ Token.begin_object ∷ Token.key (codes "array") ∷ [] →
    PutsName Types n p q → r ≡ q ++ Token.key (codes "values") ∷ [] → s ≡ r ++ Token.begin_array ∷ [] →
    (k : Kind) → n ≡ type_number k → Opens c (an_array c.ids k) o s
unfolding opens
array_opened c n o p q r s e w d f k same =
    let h = ap type_kind same ∙ kind_numbered k in record {
      ts = Token.begin_object ∷ Token.key (codes "array") ∷ w.token ∷ Token.key (codes "values") ∷ Token.begin_array ∷ [];
      appended =
          append_on o (Token.begin_object ∷ Token.key (codes "array") ∷ w.token ∷ []) (Token.key (codes "values") ∷ Token.begin_array ∷ [])
          (append_on o (Token.begin_object ∷ Token.key (codes "array") ∷ []) (w.token ∷ []) e w.appended)
          (append_on q (Token.key (codes "values") ∷ []) (Token.begin_array ∷ []) d f);
      opened = λ us. (Token.key (codes "array"), _, refl, rw (w.said, h) refl);
      exact =
          ap (λ x. Token.begin_object ∷ Token.key (codes "array") ∷ x ∷ Token.key (codes "values") ∷ Token.begin_array ∷ [])
          (w.exact ∙ ap (name_token Types) same);
    }

-- ---- A choice

-- its values are as many as its shape takes
pub choice_printed : {T : Type 0} (c : Expected) (k : Kind) (g : T → Fixed) (f : ℕ) (v : ChoiceEnum T) (o m n p : List Token) →
    0 < body_size k → Opens c (a_choice (shape_in v) f c.ids k) o m → Lists (element c.ids k) k (values_in g v) m n →
    p ≡ n ++ Token.end_array ∷ Token.end_object ∷ [] → Prints c (choice_enum_tree k g f v) o p
choice_printed {T = T} c k g f v o m n p s a b e = by v a b
  where
    whole : (h : Shape) (x : Fixed) (xs : List Fixed) → chosen h f k (x ∷ xs) ≡ Some (choice h f k x xs) → Opens c (a_choice h f c.ids k) o m →
        Lists (element c.ids k) k (x ∷ xs) m n → Prints c (choice h f k x xs) o p
    whole h x xs made a b = record {
      ts = a.ts ++ (b.ts ++ Token.end_array ∷ Token.end_object ∷ []);
      appended = append_on o a.ts (b.ts ++ Token.end_array ∷ Token.end_object ∷ []) a.appended (append_on m b.ts (Token.end_array ∷ Token.end_object ∷ []) b.appended e);
      reads = λ rest.
          let us = b.ts ++ Token.end_array ∷ Token.end_object ∷ rest in
          let d = a.opened us in (
            d.0,
            d.1,
            ap head (behind a.ts b.ts rest) ∙ d.2,
            (
              c.ids,
              us,
              Token.end_object ∷ rest,
              d.3,
              all_listed (element c.ids k) k (x ∷ xs) m n b rest,
              ap (λ z. if z then None else chosen h f k (x ∷ xs)) (not_none k s) ∙ made,
              refl,
            ),
          );
      exact = λ z.
          both_listed a.ts b.ts (front_of c (a_choice h f c.ids k)) (list_tokens (element c.ids k) (x ∷ xs)) a.exact (b.exact z);
    }

    by : (v : ChoiceEnum T) → Opens c (a_choice (shape_in v) f c.ids k) o m → Lists (element c.ids k) k (values_in g v) m n →
        Prints c (choice_enum_tree k g f v) o p
    by (E.None x) = whole none_choice (g x) [] refl
    by (E.Range x y z) = whole range_choice (g x) (g y ∷ g z ∷ []) refl
    by (E.Step x y z w) = whole step_choice (g x) (g y ∷ g z ∷ g w ∷ []) refl
    by (E.Enum x xs) = whole enum_choice (g x) (map g xs.items) refl
    by (E.Flags x xs) = whole flags_choice (g x) (map g xs.items) refl

-- the name of a shape
shape_read : (h : Shape) → shape_named (shape_text h) ≡ Some h
shape_read none_choice = refl
shape_read range_choice = refl
shape_read step_choice = refl
shape_read enum_choice = refl
shape_read flags_choice = refl

type_silent : (e t : ℕ) → e ≡ t → type_tokens e t ≡ []
type_silent e t s = choose (e == t) [] (Token.key (codes "of") ∷ name_token Types t ∷ []) (eq-eqb e t s)

type_tokens-named : (e t : ℕ) → e ≢ t → type_tokens e t ≡ Token.key (codes "of") ∷ name_token Types t ∷ []
type_tokens-named e t d = refuse (e == t) [] (Token.key (codes "of") ∷ name_token Types t ∷ []) (λ s. d (eqb-true e t s))

pub choice_opened : (c : Expected) (name : List ℕ) (h : Shape) (f n : ℕ) (o p q r s u w : List Token) → f < 2 ^ 32 → name ≡ shape_text h →
    p ≡ o ++ Token.begin_object ∷ Token.key (codes "choice") ∷ [] → q ≡ p ++ Token.string name ∷ [] → r ≡ q ++ flag_tokens f →
    PutsType c.type_.0 n r s → u ≡ s ++ Token.key (codes "values") ∷ [] → w ≡ u ++ Token.begin_array ∷ [] →
    (k : Kind) → n ≡ type_number k → Opens c (a_choice h f c.ids k) o w
unfolding opens
choice_opened c name h f n o p q r s u w small text e1 e2 e3 typed e5 e6 k number = by_flags f small e3
  where
    named : shape_named name ≡ Some h
    named = ap shape_named text ∙ shape_read h

    kind : type_kind n ≡ Some k
    kind = ap type_kind number ∙ kind_numbered k

    front : List Token
    front = Token.begin_object ∷ Token.key (codes "choice") ∷ Token.string name ∷ []

    back : List Token
    back = Token.key (codes "values") ∷ Token.begin_array ∷ []

    put : (fs ts : List Token) → r ≡ q ++ fs → s ≡ r ++ ts → w ≡ o ++ (front ++ (fs ++ (ts ++ back)))
    put fs ts a b =
        append_on o front (fs ++ (ts ++ back)) (append_on o (Token.begin_object ∷ Token.key (codes "choice") ∷ []) (Token.string name ∷ []) e1 e2)
        (append_on q fs (ts ++ back) a (append_on r ts back b (append_on s (Token.key (codes "values") ∷ []) (Token.begin_array ∷ []) e5 e6)))

    said : (fs ts : List Token) → ts ≡ type_tokens c.type_.0 n →
        front ++ (fs ++ (ts ++ back)) ≡ Token.begin_object ∷ Token.key (codes "choice") ∷ Token.string (shape_text h) ∷ (fs ++ (type_tokens c.type_.0 (type_number k) ++ back))
    said fs ts e =
        ap (λ x. Token.begin_object ∷ Token.key (codes "choice") ∷ Token.string x ∷ (fs ++ (ts ++ back))) text
        ∙ ap (λ l. Token.begin_object ∷ Token.key (codes "choice") ∷ Token.string (shape_text h) ∷ (fs ++ (l ++ back))) (e ∙ ap (type_tokens c.type_.0) number)

    of_key : (x : Token) → x ≡ name_token Types n → c.type_.0 ≢ n → Token.key (codes "of") ∷ x ∷ [] ≡ type_tokens c.type_.0 n
    of_key x e d = ap (λ y. Token.key (codes "of") ∷ y ∷ []) e ∙ sym (type_tokens-named c.type_.0 n d)

    by_type : (g : ℕ) → g < 2 ^ 32 → r ≡ q ++ flag_tokens g → PutsType c.type_.0 n r s → Opens c (a_choice h g c.ids k) o w
    by_type zero l a (inl t) = record {
      ts = front ++ back;
      appended = put [] [] a (t.0 ∙ sym (append-nil r));
      opened = λ us. (Token.key (codes "choice"), _, refl, rw (named, t.1, kind) refl);
      exact = said [] [] (sym (type_silent c.type_.0 n t.1));
    }
    by_type zero l a (inr t) = record {
      ts = front ++ (Token.key (codes "of") ∷ t.0 ∷ back);
      appended = put [] (Token.key (codes "of") ∷ t.0 ∷ []) a t.1;
      opened = λ us. (Token.key (codes "choice"), _, refl, rw (named, t.2, kind) refl);
      exact = said [] (Token.key (codes "of") ∷ t.0 ∷ []) (of_key t.0 t.3 t.4);
    }
    by_type (suc g) l a (inl t) = record {
      ts = front ++ (Token.key (codes "flags") ∷ Token.number (decimal (suc g)) ∷ back);
      appended = put (Token.key (codes "flags") ∷ Token.number (decimal (suc g)) ∷ []) [] a (t.0 ∙ sym (append-nil r));
      opened = λ us. (Token.key (codes "choice"), _, refl, rw (named, unsigned_number-decimal (suc g) l, t.1, kind) refl);
      exact = said (Token.key (codes "flags") ∷ Token.number (decimal (suc g)) ∷ []) [] (sym (type_silent c.type_.0 n t.1));
    }
    by_type (suc g) l a (inr t) = record {
      ts = front ++ (Token.key (codes "flags") ∷ Token.number (decimal (suc g)) ∷ Token.key (codes "of") ∷ t.0 ∷ back);
      appended = put (Token.key (codes "flags") ∷ Token.number (decimal (suc g)) ∷ []) (Token.key (codes "of") ∷ t.0 ∷ []) a t.1;
      opened = λ us. (Token.key (codes "choice"), _, refl, rw (named, unsigned_number-decimal (suc g) l, t.2, kind) refl);
      exact = said (Token.key (codes "flags") ∷ Token.number (decimal (suc g)) ∷ []) (Token.key (codes "of") ∷ t.0 ∷ []) (of_key t.0 t.3 t.4);
    }

    by_flags : (g : ℕ) → g < 2 ^ 32 → r ≡ q ++ flag_tokens g → Opens c (a_choice h g c.ids k) o w
    by_flags g l a = by_type g l a typed
