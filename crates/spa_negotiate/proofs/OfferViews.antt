-- Zero-copy views of offers.
use Rattle.std.proofs.Common.{◌≡◌, ℕ, ◌<◌, ◌≤◌, List, [], ◌∷◌, length, take, drop, sym, ap, ◌∙◌, subst, arith}
use Rattle.std.specs.Prelude.{Contains}
use Rattle.std.proofs.lemmas.List.Elements.{Contains-append_right}
use Rattle.std.proofs.lemmas.List.{length-take-le, drop-drop, take_all, drop_all}
use Rattle.spa_format.specs.Words.{word_at, word_bytes, wide_at, wide_bytes}
use Rattle.spa_format.specs.Kind.{Kind, Fixed, content, body_size, type_number}
use Rattle.spa_format.specs.Tree.{Shape, none_choice, range_choice, step_choice, enum_choice, flags_choice, shape_number, Tree, fixed, choice, choice_type, type_of}
use Rattle.spa_format.specs.Pod.{AreElements, IsBody, IsPod, values_taken}
use Rattle.spa_format.specs.Typed.{IsBytes}
use Rattle.spa_format.proofs.Choices.{same_shape}
use Rattle.spa_format.proofs.FixedKinds.{same_kind}
use Rattle.spa_format.proofs.Shapes.{choice_only, fixed_only}
use Rattle.spa_format.proofs.WordLemmas.{IsBytes-take, word_at-drop}
use Rattle.spa_bytes.specs.Opening.{Opens}
use Rattle.spa_canonical.proofs.Words.{word_there, wide_back, wide_of_take}
use Rattle.spa_filter_offers.specs.Admits.{AdmitsContent}
use Rattle.spa_filter_elements.specs.Order.{IsAtMost}
use Rattle.spa_negotiate.specs.Admits.{Admits, IsRangeKind, IsSupported, plain_of}
use Rattle.spa_negotiate.specs.Offering.{AreAdmitting, IsElementType, IsOffer, IsShared, Offers, value_of}
use Rattle.spa_negotiate.specs.declared.offer_view.OfferView.{OfferView}

-- the first bytes, from the number that they spell
pub same_words : (a b : List ℕ) → IsBytes a → IsBytes b → 4 ≤ length a → 4 ≤ length b → word_at a 0 ≡ word_at b 0 → take 4 a ≡ take 4 b
same_words a b h i l m e = sym (word_there a 0 h (omega arith)) ∙ ap word_bytes e ∙ word_there b 0 i (omega arith)

pub same_wides : (a b : List ℕ) → IsBytes a → IsBytes b → 8 ≤ length a → 8 ≤ length b → wide_at a 0 ≡ wide_at b 0 → take 8 a ≡ take 8 b
same_wides a b h i l m e =
    sym (wide_back (take 8 a) (IsBytes-take 8 a h) (length-take-le 8 a l)) ∙ ap wide_bytes (wide_of_take a ∙ e ∙ sym (wide_of_take b))
    ∙ wide_back (take 8 b) (IsBytes-take 8 b i) (length-take-le 8 b m)

-- the elements that are left
pub record AreElementsLeft (k : Kind) (ys : List Fixed) (left : List ℕ) : Type 0 where
  pub rest : List Fixed
  pub elements : AreElements k rest left
  pub within : (x : Fixed) → Contains rest x → Contains ys x

abbrev pub AreSought : ℕ → List ℕ → List ℕ → Type 0
AreSought size values left = (k : Kind) (ys : List Fixed) → size ≡ body_size k → AreElements k ys values → AreElementsLeft k ys left

pub sought_begun : (size : ℕ) (b : List ℕ) → AreSought size b b
sought_begun size b = λ k ys e m. record { rest = ys; elements = m; within = λ x h. h }

pub sought_on : (size : ℕ) (values left rest : List ℕ) → 0 < size → size ≤ length left → rest ≡ drop size left → AreSought size values left → AreSought size values rest
sought_on size values left rest p l d s = λ k ys e m. let i = s k ys e m in of_left k ys e i.rest i.elements i.within
  where
    of_left : (k : Kind) (ys : List Fixed) → size ≡ body_size k → (zs : List Fixed) → AreElements k zs left →
        ((x : Fixed) → Contains zs x → Contains ys x) → AreElementsLeft k ys rest
    of_left k ys e [] m w = absurd (let z = ap length m in omega arith)
    of_left k ys e (z ∷ zs) m w = record {
      rest = zs;
      elements = subst (AreElements k zs) (sym (d ∙ ap (λ n. drop n left) e)) m.2;
      within = λ x h. w x (Contains-append_right (z ∷ []) zs x h);
    }

pub found_among : (size : ℕ) (values left value : List ℕ) → 0 < size → size ≤ length left → take size left ≡ take size value → AreSought size values left →
    (k : Kind) (ys : List Fixed) → size ≡ body_size k → AreElements k ys values → Contains ys (value_of k value)
found_among size values left value p l t s k ys e m = let i = s k ys e m in of_left i.rest i.elements i.within
  where
    of_left : (zs : List Fixed) → AreElements k zs left →
        ((x : Fixed) → Contains zs x → Contains ys x) → Contains ys (value_of k value)
    of_left [] n w = absurd (let z = ap length n in omega arith)
    of_left (z ∷ zs) n w =
        let here : take (body_size k) left ≡ take (body_size k) value = subst (λ m. take m left ≡ take m value) e t in
        let same : z ≡ value_of k value = n.1.says ∙ ap (content k) here in
        w (value_of k value) (0, omega arith, same)

-- what the offer of a value admits, the value does
module _ (v : Tree) (offer : OfferView) (value : List ℕ) (o : IsOffer v offer) where
  -- where the offer is of this shape
  offers_by : (s : Shape) → offer.shape ≡ shape_number s → IsSupported (choice s 0 o.kind o.default o.further) →
      AdmitsContent s o.default o.further (value_of o.kind value) → Offers v (value_of o.kind value)
  offers_by s e h a =
      let same : s ≡ o.shape = same_shape s o.shape (sym e ∙ o.its_shape) in (
        o.supported (subst (λ t. IsSupported (choice t 0 o.kind o.default o.further)) same h),
        o.admits (value_of o.kind value) (subst (λ t. AdmitsContent t o.default o.further (value_of o.kind value)) same a),
      )

  pub admit_among : offer.shape ≡ 3 → ((k : Kind) (ys : List Fixed) → offer.size ≡ body_size k → AreElements k ys offer.values.now → Contains ys (value_of k value)) →
      Offers v (value_of o.kind value)
  admit_among e c = offers_by enum_choice e tt (c o.kind (o.default ∷ o.further) o.its_size o.values)

  pub admit_between : (low high : List ℕ) → offer.shape ≡ 1 → 0 < offer.size → offer.size ≤ length low → offer.size ≤ length high → low ≡ drop offer.size offer.values.now → high ≡ drop offer.size low →
      ((k : Kind) → offer.type_ ≡ type_number k → IsRangeKind k × IsAtMost (value_of k low) (value_of k value)) →
      ((k : Kind) → offer.type_ ≡ type_number k → IsRangeKind k × IsAtMost (value_of k value) (value_of k high)) → Offers v (value_of o.kind value)
  admit_between low high r p l n d e f g = offers_by range_choice r (f o.kind o.its_type).0 (of_further o.further o.values.2)
    where
      at : low ≡ drop (body_size o.kind) offer.values.now
      at = d ∙ ap (λ n. drop n offer.values.now) o.its_size

      next : high ≡ drop (body_size o.kind) (drop (body_size o.kind) offer.values.now)
      next = e ∙ ap (λ n. drop n low) o.its_size ∙ ap (drop (body_size o.kind)) at

      of_further : (ys : List Fixed) → AreElements o.kind ys (drop (body_size o.kind) offer.values.now) → AdmitsContent range_choice o.default ys (value_of o.kind value)
      of_further [] m = absurd (let z = ap length (at ∙ m) in omega arith)
      of_further (y ∷ []) m = absurd (let z = ap length (next ∙ m.2) in omega arith)
      of_further (y ∷ z ∷ zs) m =
          let first : y ≡ value_of o.kind low = m.1.says ∙ ap (value_of o.kind) (sym at) in
          let second : z ≡ value_of o.kind high = m.2.1.says ∙ ap (value_of o.kind) (sym next) in (
            subst (λ w. IsAtMost w (value_of o.kind value)) (sym first) (f o.kind o.its_type).1,
            subst (λ w. IsAtMost (value_of o.kind value) w) (sym second) (g o.kind o.its_type).1,
          )

-- what two offers of one type admit
pub shared : (a b : OfferView) (value : List ℕ) → a.type_ ≡ b.type_ → a.size ≤ length value → AreAdmitting a b value →
    (v w : Tree) → IsOffer v a → IsOffer w b → IsShared v w a.type_ value
shared a b value t l h v w o p =
    let both = h v w o p in
    let same : p.kind ≡ o.kind = same_kind p.kind o.kind (sym p.its_type ∙ sym t ∙ o.its_type) in
    let s = o.its_size in
    record {
      kind = o.kind;
      its_type = o.its_type;
      long = omega arith;
      first = both.0;
      second = subst (λ k. Offers w (value_of k value)) same both.1;
    }

-- a plain value of fixed size
pub plain_offer : (v : Tree) (pod body rest : List ℕ) (type : ℕ) (offer : OfferView) → Opens pod type body rest → IsElementType type → IsPod pod v →
    offer.shape ≡ 0 → offer.type_ ≡ type → offer.size ≡ length body → offer.values.now ≡ body → IsOffer v offer
plain_offer v pod body rest type offer o t p r e s b =
    let k = t.kind in
    let i = fixed_only v k (sym p.its_type ∙ sym o.its_type ∙ t.its_type) in
    let body_of_it : IsBody v body = subst (IsBody v) (sym o.its_body) p.content in
    let is : IsBody (fixed i.0) body = subst (λ w. IsBody w body) i.2 body_of_it in
    let size : length body ≡ body_size k = is.whole ∙ ap body_size i.1 in
    let says : i.0 ≡ content k body = is.says ∙ ap (λ j. content j body) i.1 in
    let all : take (body_size k) body ≡ body = take_all (body_size k) body (omega arith) in
    let none : drop (body_size k) body ≡ [] = drop_all (body_size k) body (omega arith) in
    record {
      shape = none_choice;
      kind = k;
      default = i.0;
      further = [];
      its_shape = r;
      its_type = e ∙ t.its_type;
      its_size = s ∙ size;
      values =
          subst (AreElements k (i.0 ∷ [])) (sym b)
          (t.long, record { whole = ap length all ∙ size; says = says ∙ ap (content k) (sym all) }, none);
      plain = ap plain_of i.2;
      supported = λ h. subst IsSupported (sym i.2) tt;
      admits = λ x h. subst (λ w. Admits w (fixed x)) (sym i.2) (ap (λ y. fixed y) h);
    }

-- the values of a choice that count admit what all of its body's do
taken_admits : (s : Shape) (d : Fixed) (all : List Fixed) (x : Fixed) → AdmitsContent s d all x → AdmitsContent s d (values_taken s all) x
taken_admits none_choice d all x h = h
taken_admits enum_choice d all x h = h
taken_admits flags_choice d all x h = h
taken_admits range_choice d (l ∷ m ∷ ys) x h = h
taken_admits range_choice d _ x h = absurd h
taken_admits step_choice d (l ∷ m ∷ n ∷ ys) x h = h
taken_admits step_choice d _ x h = absurd h

-- whether a choice is supported doesn't depend on its flags and values
supported_by_shape : (s : Shape) (f g : ℕ) (k : Kind) (d : Fixed) (vs ws : List Fixed) → IsSupported (choice s f k d vs) → IsSupported (choice s g k d ws)
supported_by_shape none_choice f g k d vs ws h = h
supported_by_shape enum_choice f g k d vs ws h = h
supported_by_shape range_choice f g k d vs ws h = h
supported_by_shape _ f g k d vs ws h = absurd h

-- a choice
pub choice_offer : (v : Tree) (body : List ℕ) (offer : OfferView) → type_of v ≡ choice_type → IsBody v body →
    offer.shape ≡ word_at body 0 → offer.type_ ≡ word_at body 12 → offer.size ≡ word_at body 8 → offer.values.now ≡ drop 16 body → IsOffer v offer
choice_offer v body offer t h p e s d =
    let i = choice_only v t in
    let k = i.2 in
    let c = subst (λ w. IsBody w body) i.5 h in
    let whole : choice i.0 i.1 k i.3 (values_taken i.0 c.all) ≡ v = ap (choice i.0 i.1 k i.3) (sym c.first) ∙ sym i.5 in
    record {
      shape = i.0;
      kind = k;
      default = i.3;
      further = c.all;
      its_shape = p ∙ c.shape;
      its_type = e ∙ sym (word_at-drop 8 4 body) ∙ c.values.child_type;
      its_size = s ∙ sym (word_at-drop 8 0 body) ∙ c.values.child_size;
      values = subst (AreElements k (i.3 ∷ c.all)) (drop-drop 8 8 body ∙ sym d) c.values.elements;
      plain = ap plain_of i.5;
      supported = λ g. subst IsSupported whole (supported_by_shape i.0 0 i.1 k i.3 c.all (values_taken i.0 c.all) g);
      admits = λ x a. subst (λ w. Admits w (fixed x)) whole (taken_admits i.0 i.3 c.all x a);
    }
