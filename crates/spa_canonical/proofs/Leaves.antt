-- Bodies that hold no pods: which are accepted, which are canonical, and what the faults of the others say.
use Rattle.std.proofs.Common.{◌≡◌, ◌≢◌, ℕ, ◌+◌, ◌*◌, ◌-◌, ◌/◌, ◌<◌, ◌≤◌, inl, inr, List, length, drop, refl, sym, ap, ◌∙◌, subst, arith, length-drop}
use Rattle.std.specs.Prelude.{Bool, true, false, Option, None, Some}
use Rattle.std.proofs.lemmas.Bool.{cases_eq, cases_lt}
use Rattle.std.proofs.lemmas.List.{drop-drop}
use Rattle.spa_format.specs.Words.{header_size, padded_size, word_at}
use Rattle.spa_format.specs.Kind.{Kind, IsFixedBody, body_size, bool_kind, content, double_kind, fd_kind, float_kind, fraction_kind, id_kind, int_kind, long_kind, none_kind, rectangle_kind, type_number}
use Rattle.spa_format.specs.Tree.{Tree, Shape, fixed, array_type, choice_type, shape_number, string_type, type_of}
use Rattle.spa_format.specs.Normal.{kept_flags}
use Rattle.spa_format.specs.Encoding.{encoded_body}
use Rattle.spa_format.specs.Pod.{IsBody, least_count}
use Rattle.spa_format.specs.Typed.{IsBytes}
use Rattle.spa_format.specs.Faults.{IsInvalidType, IsWrongSize, IsWrongArray, LacksValues, choice_header_size, of_array, of_choice, of_elements, of_values}
use Rattle.spa_format.proofs.Choices.{shape_fits}
use Rattle.spa_format.proofs.FixedKinds.{kind_of_content, same_kind}
use Rattle.spa_format.proofs.Refused.{begun, enough_values, right_size, right_type}
use Rattle.spa_format.proofs.Shapes.{array_only, choice_only, fixed_only, object_only, string_only, struct_only}
use Rattle.spa_format.proofs.WordLemmas.{IsBytes-drop, word_at-drop}
use Rattle.spa_bytes.specs.Opening.{Opens}
use Rattle.spa_fixed_sized.specs.Reading.{AreWhole}
use Rattle.spa_fixed_sized.specs.declared.fault.Refusal.{Refusal}
use Rattle.spa_fixed_sized.specs.declared.fault.Refusal.TheVariants as refusal
use Rattle.spa_bodies.specs.Refusing.{Says, StandsInBody}
use Rattle.spa_events.specs.Inside.{HoldsPods, IsContainer}
use Rattle.spa_canonical.specs.Canonical.{AreCanonicalElements, HasZeros, IsCanonicalBody, IsCanonicalText, IsFixedLen, bytes_taken}
use Rattle.spa_canonical.specs.Depth.{depth_of}
use Rattle.spa_canonical.specs.Look.{AreElementsOf, AreNoElementsOf, BeginsAsked, IsLeafBody, IsNoLeaf, IsNoLeafBody, TakesAll}
use Rattle.spa_canonical.proofs.Bodies.{enough_bytes, enough_there, fewer, values_there}
use Rattle.spa_canonical.proofs.Frames.{canonical_front, fixed_begins}
use Rattle.spa_canonical.proofs.LeafBodies.{never}
use Rattle.spa_canonical.proofs.Made.{made_body}
use Rattle.spa_canonical.proofs.Missed.{made_array, made_choice, made_zeros, small_truth, some_values}
use Rattle.spa_canonical.proofs.Parts.{array_body_of, array_of, bools_found, choice_found, count_taken, no_elements, right_count, shape_of, whole_elements}
use Rattle.spa_canonical.proofs.SameLength.{array_same_length, as_long, fixed_same_length}
use Rattle.spa_canonical.proofs.ShorterLemmas.{shorter_opened, shorter_short}
use Rattle.spa_canonical.proofs.Words.{content_kept}

-- a body with a fault is that of no value
pub no_body : (type : ℕ) (body : List ℕ) (why : Refusal) → Says (StandsInBody type body) ⊥ why → (v : Tree) → type_of v ≡ type → ¬ (IsBody v body)
no_body type body refusal.Short s v e b = s
no_body type body refusal.Text s v e b =
    let o = string_only v (e ∙ s.0) in
    let i = subst (λ x. IsBody x body) o.1 b in
    s.1 o.0 i.0 i.1
no_body type body refusal.InvalidType s v e b = right_type v body b (subst (λ t. IsInvalidType t body) (sym e) s)
no_body type body refusal.InvalidChoiceType s v e b =
    let o = choice_only v (e ∙ s.0) in
    let c = (subst (λ x. IsBody x body) o.5 b).shape in
    let f = shape_fits o.0 in
    let big = s.2 in
    omega arith
no_body type body refusal.MissingChoiceValues s v e b =
    let o = choice_only v (e ∙ s.0) in
    enough_values o.0 o.1 o.2 o.3 o.4 body (subst (λ x. IsBody x body) o.5 b) s.1
no_body type body refusal.WrongSize s v e b = right_size v body b (subst (λ t. IsWrongSize t body) (sym e) s)
no_body type body refusal.OutOfMemory s v e b = s

-- a struct or an object is no such pod
pub container_depth : (v : Tree) → IsContainer (type_of v) → 0 < depth_of v
container_depth v c = elim c [
  | inl e ↦ let o = struct_only v e in let d = ap depth_of o.1 in omega arith
  | inr e ↦ let o = object_only v e in let d = ap depth_of o.3 in omega arith
]

its_container : (type size : ℕ) (keyed : Bool) → HoldsPods type size keyed → IsContainer type
its_container type size true h = inr h.0
its_container type size false h = inl h

-- what stands at the front, where the body isn't that of a leaf,
pub no_leaf_first : (canonical : Bool) (here body rest : List ℕ) (type : ℕ) (why : Option Refusal) → IsBytes here → Opens here type body rest →
    IsNoLeafBody canonical type body why → IsNoLeaf canonical here
no_leaf_first canonical here body rest type (Some why) h o n = record {
  differs = λ _ r c. let b = (made_body here r body rest type h c o).canonical in absurd (no_body type body why n b.value b.its_type b.its_body);
  refused = λ _ v b. let q = begun here v b in absurd (no_body type body why n v (sym q.0 ∙ sym o.its_type) (subst (IsBody v) (sym o.its_body) q.1));
}
no_leaf_first canonical here body rest type None h o n = record {
  differs = λ _ r c. let m = made_body here r body rest type h c o in subst (λ v. 0 < depth_of v) m.value (n.1 m.canonical);
  refused = λ f v b.
      let q = begun here v b in
      let i = n.0 f in
      container_depth v (subst IsContainer (o.its_type ∙ q.0) (its_container type (length body) i.0 i.1));
}

-- or bytes follow it that aren't zeros, or the text isn't one
pub no_padded_first : (canonical : Bool) (here behind body rest : List ℕ) (type : ℕ) → canonical ≡ true → IsBytes here → Opens here type body rest →
    behind ≡ drop 8 here → (HasZeros behind (length body) → ¬ (IsCanonicalBody type body)) → IsNoLeaf canonical here
no_padded_first canonical here behind body rest type t h o d n = record {
  differs = λ _ r c. absurd (n (made_zeros here behind body rest r type h o d c) (made_body here r body rest type h c o).canonical);
  refused = λ f. absurd (never canonical t f);
}

pub text_of : (body : List ℕ) → IsCanonicalBody string_type body → IsCanonicalText body
text_of body c =
    let o = string_only c.value c.its_type in
    let i = subst (λ x. IsBody x body) o.1 c.its_body in
    (o.0, i.0, i.1)

-- a leaf's body at the front
pub leaf_first : (canonical : Bool) (here body rest : List ℕ) (type n : ℕ) → IsBytes here → Opens here type body rest →
    (canonical ≡ true → HasZeros (drop 8 here) (length body)) → IsLeafBody canonical type body n → BeginsAsked canonical here rest n
leaf_first canonical here body rest type n h o z l = record {
  shorter = shorter_opened here body rest type n o l.shorter;
  own = λ t. canonical_front here (drop 8 here) body rest type h o refl (z t) (l.own t);
}

-- canonical bodies are as long as their encodings
pub own_leaf : (canonical : Bool) (type : ℕ) (body : List ℕ) → IsCanonicalBody type body → IsLeafBody canonical type body 0
own_leaf canonical type body c = record {
  shorter = record { value = c.value; its_type = c.its_type; its_body = c.its_body; long = as_long _ _ (ap (λ b. padded_size (length b)) (sym c.same)) };
  own = λ _. c;
}

-- bodies of fixed size
pub fixed_leaf : (canonical : Bool) (type len : ℕ) (body : List ℕ) → IsBytes body → IsFixedLen type len → length body ≡ len →
    (canonical ≡ true → type ≡ 2 → word_at body 0 < 2) → IsLeafBody canonical type body 0
fixed_leaf canonical type len body h f l t =
    let k = f.0 in
    let x = content k body in
    record {
      shorter = fixed_same_length type len body f l;
      own = λ c. record {
        value = fixed x;
        its_type = ap type_number (kind_of_content k body) ∙ sym f.1;
        its_body = subst (λ j. IsFixedBody j body x) (sym (kind_of_content k body)) (record { whole = l ∙ f.2; says = refl });
        same = content_kept k body h (l ∙ f.2) (λ e. t c (f.1 ∙ ap type_number e));
      };
    }

pub small_bool : (body : List ℕ) → IsCanonicalBody 2 body → word_at body 0 < 2
small_bool body c =
    let o = fixed_only c.value bool_kind c.its_type in
    let i = subst (λ v. IsBody v body) o.2 c.its_body in
    subst (λ n. n < 2) (sym (ap (λ b. word_at b 0) (c.same ∙ ap encoded_body o.2)))
    (small_truth o.0 body (i.says ∙ ap (λ k. content k body) o.1))

-- elements
pub elements_are : (canonical : Bool) (type size : ℕ) (b : List ℕ) → IsBytes b → IsFixedLen type size → AreWhole size b →
    (canonical ≡ true → type ≡ 2 → AreCanonicalElements bool_kind b) → AreElementsOf canonical type size b
elements_are canonical type size b h f w t =
    let k = f.0 in
    let count = w.count in
    record {
      kind = k;
      its_type = f.1;
      its_size = f.2;
      whole = subst (λ s. AreWhole s b) f.2 w;
      own = λ c. elim (cases_eq type 2) [
        | inl e ↦ bools_found k type b f.1 e (t c e)
        | inr n ↦ elim (cases_lt 0 size) [
          | inl p ↦ whole_elements k w.many b h (λ e. n (f.1 ∙ ap type_number e)) (subst (λ s. 0 < s) f.2 p) (count ∙ ap (λ s. w.many * s) f.2)
          | inr z ↦ no_elements k b (let none : length b ≡ 0 = grind arith in none)
        ]
      ];
    }

-- arrays
pub array_leaf : (canonical : Bool) (type size : ℕ) (body elements : List ℕ) → IsBytes body → header_size ≤ length body → type ≡ word_at body 4 →
    size ≡ word_at body 0 → elements ≡ drop 8 body → AreElementsOf canonical type size elements → IsLeafBody canonical array_type body 0
array_leaf canonical type size body elements h l t s d e =
    let k = e.kind in
    record {
      shorter = array_same_length body k l (sym s ∙ e.its_size) (sym t ∙ e.its_type) (subst (AreWhole (body_size k)) d e.whole);
      own = λ c. array_body_of body (array_of k body h l (sym s ∙ e.its_size) (sym t ∙ e.its_type) (subst (AreCanonicalElements k) d (e.own c)));
    }

wrong_elements : (k : Kind) (size : ℕ) (body : List ℕ) → header_size ≤ length body → size ≡ word_at body 0 → word_at body 4 ≡ type_number k →
    (size ≡ body_size k → ¬ (AreWhole size (drop 8 body))) → IsWrongArray k body
wrong_elements k size body l s t n = record {
  header = l;
  child_type = t;
  wrong = elim (cases_eq size (body_size k)) [
    | inr e ↦ inl (λ z. e (s ∙ z))
    | inl e ↦ inr (λ many c. n e (record { many = many; count = let d = length-drop 8 body in let z : length (drop 8 body) ≡ many * body_size k = omega arith in z ∙ ap (λ m. many * m) (sym e) }))
  ];
}

pub no_array_leaf : (canonical : Bool) (type size : ℕ) (body elements : List ℕ) (why : Option Refusal) → header_size ≤ length body → type ≡ word_at body 4 →
    size ≡ word_at body 0 → elements ≡ drop 8 body → AreNoElementsOf canonical type size elements why → IsNoLeafBody canonical array_type body why
no_array_leaf canonical type size body elements (Some refusal.InvalidType) l t s d n = of_elements refl l (λ k e. n k (t ∙ e))
no_array_leaf canonical type size body elements (Some refusal.WrongSize) l t s d n =
    of_array n.0 refl (wrong_elements n.0 size body l s (sym t ∙ n.1) (λ e w. n.2 e (subst (AreWhole size) (sym d) w)))
no_array_leaf canonical type size body elements (Some refusal.Short) l t s d n = absurd n
no_array_leaf canonical type size body elements (Some refusal.Text) l t s d n = absurd n
no_array_leaf canonical type size body elements (Some refusal.InvalidChoiceType) l t s d n = absurd n
no_array_leaf canonical type size body elements (Some refusal.MissingChoiceValues) l t s d n = absurd n
no_array_leaf canonical type size body elements (Some refusal.OutOfMemory) l t s d n = absurd n
no_array_leaf canonical type size body elements None l t s d n = (
  λ f. absurd (never canonical n.0 f),
  λ c.
      let o = array_only c.value c.its_type in
      let m = made_array body (record { kind = o.0; values = o.1; its_array = subst (λ v. IsBody v body) o.2 c.its_body; same = c.same ∙ ap encoded_body o.2 }) in
      absurd (n.1 m.kind (t ∙ m.its_type) (subst (AreCanonicalElements m.kind) (sym d) m.elements)),
)

-- choices: what stands in the body
pub record HasChoice (body values : List ℕ) (shape size type : ℕ) : Type 0 where
  pub long : choice_header_size ≤ length body
  pub its_shape : shape ≡ word_at body 0
  pub its_size : size ≡ word_at body 8
  pub its_type : type ≡ word_at body 12
  pub behind : values ≡ drop 16 body

pub has_choice : (body values : List ℕ) (shape size type : ℕ) → choice_header_size ≤ length body → shape ≡ word_at body 0 → size ≡ word_at body 8 →
    type ≡ word_at body 12 → values ≡ drop 16 body → HasChoice body values shape size type
has_choice body values shape size type l s z t d = record { long = l; its_shape = s; its_size = z; its_type = t; behind = d }

-- of a canonical choice
made_takes : (body values : List ℕ) (shape flags size type : ℕ) → IsBytes body → HasChoice body values shape size type → flags ≡ word_at body 4 →
    IsCanonicalBody choice_type body → TakesAll shape flags size (length values)
made_takes body values shape flags size type h p f c =
    let m = made_choice body h c in
    let long : length values ≡ length body - 16 = ap length p.behind ∙ length-drop 16 body in
    record {
      its_shape = m.shape;
      number = p.its_shape ∙ m.its_shape;
      keeps = ap (kept_flags m.shape) f ∙ m.its_flags ∙ sym f;
      taken = ap (λ z. bytes_taken m.shape z (length values)) p.its_size
          ∙ count_taken m.shape m.further (word_at body 8) (length values) m.count (long ∙ m.whole);
      some = subst (λ n. 0 < n) (sym long) (some_values _ _ _ m.sized m.whole);
    }

pub no_choice_values : (canonical : Bool) (body : List ℕ) → canonical ≡ true → IsBytes body → length body ≤ 16 → IsNoLeafBody canonical choice_type body None
no_choice_values canonical body t h l = (
  λ e. absurd (never canonical t e),
  λ c. let m = made_choice body h c in let some = some_values _ _ _ m.sized m.whole in absurd (omega arith),
)

pub no_choice_taken : (canonical : Bool) (body values : List ℕ) (shape flags size type : ℕ) → canonical ≡ true → IsBytes body →
    HasChoice body values shape size type → flags ≡ word_at body 4 → ¬ (TakesAll shape flags size (length values)) →
    IsNoLeafBody canonical choice_type body None
no_choice_taken canonical body values shape flags size type t h p f n =
    (λ e. absurd (never canonical t e), λ c. absurd (n (made_takes body values shape flags size type h p f c)))

no_elements_made : (canonical : Bool) (type size : ℕ) (b : List ℕ) (why : Option Refusal) (k : Kind) → type ≡ type_number k → size ≡ body_size k →
    AreWhole size b → AreCanonicalElements k b → ¬ (AreNoElementsOf canonical type size b why)
no_elements_made canonical type size b (Some refusal.InvalidType) k t s w c n = n k t
no_elements_made canonical type size b (Some refusal.WrongSize) k t s w c n = n.2 (s ∙ ap body_size (same_kind k n.0 (sym t ∙ n.1))) w
no_elements_made canonical type size b (Some refusal.Short) k t s w c n = n
no_elements_made canonical type size b (Some refusal.Text) k t s w c n = n
no_elements_made canonical type size b (Some refusal.InvalidChoiceType) k t s w c n = n
no_elements_made canonical type size b (Some refusal.MissingChoiceValues) k t s w c n = n
no_elements_made canonical type size b (Some refusal.OutOfMemory) k t s w c n = n
no_elements_made canonical type size b None k t s w c n = n.1 k t c

pub no_choice_elements : (canonical : Bool) (body values : List ℕ) (shape size type : ℕ) (why : Option Refusal) → canonical ≡ true → IsBytes body →
    HasChoice body values shape size type → AreNoElementsOf true type size values why → IsNoLeafBody canonical choice_type body None
no_choice_elements canonical body values shape size type why t h p n = (
  λ e. absurd (never canonical t e),
  λ c.
      let m = made_array (drop 8 body) (made_choice body h c).its_array in
      let s = word_at-drop 8 0 body in
      let d : drop 8 (drop 8 body) ≡ values = drop-drop 8 8 body ∙ sym p.behind in
      absurd (no_elements_made true type size values why m.kind (p.its_type ∙ sym (word_at-drop 8 4 body) ∙ m.its_type)
      (p.its_size ∙ sym s ∙ m.its_size)
      (record { many = m.count; count = ap length (sym d) ∙ m.whole ∙ ap (λ z. m.count * z) (s ∙ sym p.its_size) })
      (subst (AreCanonicalElements m.kind) d m.elements) n),
)

pub own_choice : (canonical : Bool) (body values : List ℕ) (shape flags size type : ℕ) → IsBytes body → HasChoice body values shape size type → flags ≡ word_at body 4 →
    TakesAll shape flags size (length values) → AreElementsOf true type size values → IsLeafBody canonical choice_type body 0
own_choice canonical body values shape flags size type h p f t e =
    let k = e.kind in
    let long : length values ≡ length body - 16 = ap length p.behind ∙ length-drop 16 body in
    let some = t.some in
    let l = p.long in
    let inner : 8 ≤ length (drop 8 body) = let d = length-drop 8 body in omega arith in
    let a = array_of k (drop 8 body) (IsBytes-drop 8 body h) inner (word_at-drop 8 0 body ∙ sym p.its_size ∙ e.its_size)
    (word_at-drop 8 4 body ∙ sym p.its_type ∙ e.its_type)
    (subst (AreCanonicalElements k) (p.behind ∙ sym (drop-drop 8 8 body)) (e.own refl)) in
    own_leaf canonical choice_type body
    (choice_found t.its_shape body (drop 8 body) h (omega arith) refl a (sym p.its_shape ∙ t.number) (ap (kept_flags t.its_shape) (sym f) ∙ t.keeps ∙ f)
    (λ n s i o m.
    right_count t.its_shape n s _ o m
    (ap (λ z. bytes_taken t.its_shape z (length body - 16)) (i ∙ word_at-drop 8 0 body ∙ sym p.its_size)
    ∙ subst (λ z. bytes_taken t.its_shape size z ≡ z) long t.taken)))

-- only None has no bytes
none_alone : (k : Kind) → body_size k ≡ 0 → k ≡ none_kind
none_alone none_kind e = refl
none_alone bool_kind e = absurd (omega (arith, e))
none_alone id_kind e = absurd (omega (arith, e))
none_alone int_kind e = absurd (omega (arith, e))
none_alone long_kind e = absurd (omega (arith, e))
none_alone float_kind e = absurd (omega (arith, e))
none_alone double_kind e = absurd (omega (arith, e))
none_alone rectangle_kind e = absurd (omega (arith, e))
none_alone fraction_kind e = absurd (omega (arith, e))
none_alone fd_kind e = absurd (omega (arith, e))

sized : (k : Kind) → type_number k ≢ 1 → 0 < body_size k
sized k n = elim (cases_lt 0 (body_size k)) [
  | inl p ↦ p
  | inr z ↦ absurd (n (ap type_number (none_alone k (omega arith))))
]

-- what a choice takes, where there is enough of it
abbrev pub Takes : ℕ → ℕ → ℕ → ℕ → Type 0
Takes shape size all taken = (s : Shape) → shape ≡ shape_number s → taken ≡ bytes_taken s size all

pub choice_leaf : (canonical : Bool) (body values : List ℕ) (shape size type taken n : ℕ) → canonical ≡ false → HasChoice body values shape size type → shape < 5 →
    AreElementsOf false type size values → Takes shape size (length values) taken → 0 < taken → taken ≤ length values →
    n ≡ ((length body + 7) / 8 - (16 + taken + 7) / 8) * 8 → IsLeafBody canonical choice_type body n
choice_leaf canonical body values shape size type taken n f p few e t some room is =
    let s = shape_of shape few in
    let k = e.kind in
    let long : length values ≡ length body - 16 = ap length p.behind ∙ length-drop 16 body in
    let taken_is : taken ≡ bytes_taken s.0 (body_size k) (length values) = t s.0 s.1 ∙ ap (λ z. bytes_taken s.0 z (length values)) e.its_size in
    let i = enough_there s.0 (body_size k) e.whole.many (length values) e.whole.count (subst (λ m. 0 < m) taken_is some) (subst (λ m. m ≤ length values) taken_is room) in
    record {
      shorter = values_there s.0 k e.whole.many body n p.long (sym p.its_shape ∙ s.1) (sym p.its_size ∙ e.its_size) (sym p.its_type ∙ e.its_type) i.0
          (sym long ∙ e.whole.count) i.1
          (is ∙ ap (λ m. ((length body + 7) / 8 - (16 + m + 7) / 8) * 8) (taken_is ∙ ap (bytes_taken s.0 (body_size k)) long));
      own = λ t. absurd (never canonical t f);
    }

pub lacks_values : (body values : List ℕ) (shape size type taken : ℕ) → HasChoice body values shape size type → shape < 5 → type ≢ 1 →
    AreElementsOf false type size values → Takes shape size (length values) taken → (0 < taken → length values < taken) →
    LacksValues body
lacks_values body values shape size type taken p few other e t n =
    let s = shape_of shape few in
    let k = e.kind in
    let l = p.long in
    let some : 0 < body_size k = sized k (λ o. other (e.its_type ∙ o)) in
    let long : length values ≡ length body - 16 = ap length p.behind ∙ length-drop 16 body in
    let taken_is : taken ≡ bytes_taken s.0 (body_size k) (length values) = t s.0 s.1 ∙ ap (λ z. bytes_taken s.0 z (length values)) e.its_size in
    record {
      header = p.long;
      shape = s.0;
      kind = k;
      its_shape = sym p.its_shape ∙ s.1;
      child_size = sym p.its_size ∙ e.its_size;
      child_type = sym p.its_type ∙ e.its_type;
      few = elim (cases_lt (length body) (16 + least_count s.0 * body_size k)) [
        | inl f ↦ f
        | inr f ↦
            let count = e.whole.count in
            let b = enough_bytes s.0 (body_size k) e.whole.many (length values) count some (fewer (least_count s.0) e.whole.many (body_size k) (omega arith) some) in
            let less = n (omega arith) in
            absurd (omega arith)
      ];
    }

pub no_choice_leaf : (canonical : Bool) (body values : List ℕ) (shape size type : ℕ) (why : Option Refusal) → HasChoice body values shape size type → type ≢ 1 →
    AreNoElementsOf false type size values why → IsNoLeafBody canonical choice_type body why
no_choice_leaf canonical body values shape size type (Some refusal.InvalidType) p o n = of_values refl p.long (λ k _ e. n k (p.its_type ∙ e))
no_choice_leaf canonical body values shape size type (Some refusal.WrongSize) p o n =
    let l = p.long in
    let d = length-drop 8 body in
    of_choice n.0 refl (sized n.0 (λ e. o (n.1 ∙ e)))
    (wrong_elements n.0 size (drop 8 body) (omega arith) (p.its_size ∙ sym (word_at-drop 8 0 body)) (word_at-drop 8 4 body ∙ sym p.its_type ∙ n.1)
    (λ e w. n.2 e (subst (AreWhole size) (drop-drop 8 8 body ∙ sym p.behind) w)))
no_choice_leaf canonical body values shape size type (Some refusal.Short) p o n = absurd n
no_choice_leaf canonical body values shape size type (Some refusal.Text) p o n = absurd n
no_choice_leaf canonical body values shape size type (Some refusal.InvalidChoiceType) p o n = absurd n
no_choice_leaf canonical body values shape size type (Some refusal.MissingChoiceValues) p o n = absurd n
no_choice_leaf canonical body values shape size type (Some refusal.OutOfMemory) p o n = absurd n
no_choice_leaf canonical body values shape size type None p o n = absurd (never false n.0 refl)

-- a pod of one or two words
pub short_first : (canonical : Bool) (input : List ℕ) (type size : ℕ) → IsBytes input → 16 ≤ length input → type ≡ word_at input 4 → size ≡ word_at input 0 →
    IsFixedLen type size → 0 < size → size < 9 → (canonical ≡ true → HasZeros (drop 8 input) size) → (canonical ≡ true → type ≡ 2 → word_at input 8 < 2) →
    BeginsAsked canonical input (drop 16 input) 0
short_first canonical input type size h l t s f p m z b = record {
  shorter = shorter_short input _ size type size l s t refl f p m refl;
  own = λ c. fixed_begins input _ f.0 size h l (sym t ∙ f.1) (sym s) f.2 m p (z c) (λ e. b c (f.1 ∙ ap type_number e)) refl;
}
