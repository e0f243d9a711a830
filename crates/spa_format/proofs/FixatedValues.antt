-- Fixation of accepted properties: pods of the values after fixation.
use Rattle.std.proofs.Common.{◌≡◌, ◌≢◌, ℕ, ◌+◌, ◌-◌, ◌≤◌, List, [], ◌∷◌, ◌++◌, length, take, drop, refl, sym, ap, ap₂, ◌∙◌, subst, arith, length-append, length-drop, true, false}
use Rattle.std.specs.Prelude.{if◌then◌else◌, nat_le, nat_eq, Bool, ◌&&◌, ◌||◌, not}
use Rattle.std.proofs.Math.Bool.{and-true, and-false}
use Rattle.std.proofs.lemmas.Bool.{le-leb, ne_eqb}
use Rattle.std.proofs.lemmas.List.{drop_at, take_at, append_assoc, length-take-le, drop-drop, drop-take}
use Rattle.spa_format.specs.Words.{word_at, word_bytes, extent, body_of}
use Rattle.spa_format.specs.Kind.{Kind, Fixed, kind_of}
use Rattle.spa_format.specs.Tree.{Shape, none_choice, Tree, fixed, string, bytes, bitmap, array, choice, pointer, struct, object, Properties, no_properties, property, type_of}
use Rattle.spa_format.specs.Pod.{IsWhole, IsArray, IsChoice, AreProperties, IsPod}
use Rattle.spa_format.specs.Walk.{ArePropertiesOf}
use Rattle.spa_format.specs.Fixation.{may_fixate, is_choice_pod, is_fixable, none_choice_pod, fixated_property, fixated_properties, default_of, default_properties, is_settled_pod, all_settled, is_settled, are_settled}
use Rattle.spa_format.proofs.FixedKinds.{number_is}
use Rattle.spa_format.proofs.WordLemmas.{word_at-append, word_at-take, word_at-drop, word_inside, length-word_bytes}
use Rattle.spa_format.proofs.FixationLemmas.{length-none_choice_pod, fixated_properties-next, fixated_properties-end}
use Rattle.spa_format.proofs.WalkedMembers.{property_parts}
use Rattle.spa_format.proofs.Short.{length_of_body}

-- what stays in a choice's pod, and what changes
record IsNoneOf (b z : List ℕ) : Type 0 where
  pub same_length : length z ≡ length b
  pub same_size : word_at z 0 ≡ word_at b 0
  pub same_type : word_at z 4 ≡ word_at b 4
  pub none : word_at z 8 ≡ 0
  pub same_rest : drop 12 z ≡ drop 12 b

none_choice_of : (b : List ℕ) → 12 ≤ length b → IsNoneOf b (none_choice_pod b)
none_choice_of b l =
    let a = take 8 b in
    let n8 : length a ≡ 8 = length-take-le 8 b (omega arith) in
    let s4 = length-word_bytes 0 in
    let n12 : length (a ++ word_bytes 0) ≡ 12 = length-append a (word_bytes 0) ∙ (omega arith) in
    record {
      same_length = length-none_choice_pod b l;
      same_size = word_at-append a (word_bytes 0 ++ drop 12 b) 0 (omega arith) ∙ word_at-take 8 0 b (omega arith);
      same_type = word_at-append a (word_bytes 0 ++ drop 12 b) 4 (omega arith) ∙ word_at-take 8 4 b (omega arith);
      none = word_inside a (drop 12 b) 0 8 n8 (omega arith);
      same_rest = ap (drop 12) (sym (append_assoc a (word_bytes 0) (drop 12 b)))
          ∙ drop_at (a ++ word_bytes 0) (drop 12 b) 12 n12;
    }

-- the part of a body behind its first eight bytes
behind_header : (b : List ℕ) (m : ℕ) → word_at b 0 ≡ 8 + m → drop 8 (body_of b) ≡ take m (drop 4 (drop 12 b))
behind_header b m e =
    ap (λ n. drop 8 (take n (drop 8 b))) e
    ∙ drop-take 8 m (drop 8 b)
    ∙ ap (take m) (drop-drop 8 8 b ∙ sym (drop-drop 4 12 b))

-- a choice's pod has room for its header
choice_size : (s : Shape) (f : ℕ) (k : Kind) (x : Fixed) (xs : List Fixed) (b : List ℕ) →
    IsWhole b 19 (IsChoice s f k x xs) → 16 ≤ word_at b 0
choice_size s f k x xs b w =
    let l = length_of_body b _ _ w in
    let h = w.content.header in
    let v = w.content.values.header in
    let d = length-drop 8 (body_of b) in
    omega arith

is_choice_pod-of : (s : Shape) (f : ℕ) (k : Kind) (x : Fixed) (xs : List Fixed) (b : List ℕ) →
    IsWhole b 19 (IsChoice s f k x xs) → is_choice_pod b ≡ true
is_choice_pod-of s f k x xs b w =
    ap (λ n. nat_eq n 19 && nat_le 16 (word_at b 0)) w.its_type
    ∙ ap (λ t. true && t) (le-leb 16 (word_at b 0) (choice_size s f k x xs b w))

is_choice_pod-other : (t : ℕ) (P : List ℕ → Type 0) (b : List ℕ) → IsWhole b t P → t ≢ 19 → is_choice_pod b ≡ false
is_choice_pod-other t P b w ne = ap (λ z. z && nat_le 16 (word_at b 0)) (ne_eqb (word_at b 4) 19 (λ q. ne (sym w.its_type ∙ q)))

choice_fixated : (s : Shape) (f : ℕ) (k : Kind) (x : Fixed) (xs : List Fixed) (b : List ℕ) →
    IsWhole b 19 (IsChoice s f k x xs) → IsWhole (none_choice_pod b) 19 (IsChoice none_choice 0 k x [])
choice_fixated s f k x xs b w =
    let big = choice_size s f k x xs b w in
    let ex = w.whole in
    let y = none_choice_pod b in
    let z = none_choice_of b (omega arith) in
    let m = word_at b 0 - 8 in
    let e0 : word_at b 0 ≡ 8 + m = omega arith in
    let ez0 = z.same_size in
    let e1 : word_at y 0 ≡ 8 + m = ez0 ∙ e0 in
    let same : drop 8 (body_of y) ≡ drop 8 (body_of b) =
    behind_header y m e1
    ∙ ap (λ q. take m (drop 4 q)) z.same_rest
    ∙ sym (behind_header b m e0) in
    let whole : length y ≡ extent (word_at y 0) = z.same_length ∙ ex ∙ ap extent (sym ez0) in
    let d = length-drop 8 y in
    let lb : length (body_of y) ≡ word_at y 0 = length-take-le (word_at y 0) (drop 8 y) (omega arith) in
    let shape : word_at (body_of y) 0 ≡ 0 =
    word_at-take (word_at y 0) 0 (drop 8 y) (omega arith)
    ∙ word_at-drop 8 0 y
    ∙ z.none in
    record {
      whole = whole;
      its_type = z.same_type ∙ w.its_type;
      content = record {
        header = omega arith;
        shape = shape;
        flags = refl;
        all = w.content.all;
        values = subst (IsArray k (x ∷ w.content.all)) (sym same) w.content.values;
        enough = omega arith;
        first = refl;
      };
    }

-- a property after fixation: the same key and flags, and then a pod of the value after fixation
abbrev pub IsFixatedTo : List ℕ → List ℕ → Tree → Tree → Type 0
IsFixatedTo h first v w = (q : List ℕ) × (fixated_property (h ++ first) ≡ h ++ q) × IsPod q (if may_fixate (word_at (h ++ first) 4) then w else v)

choose : (t : Bool) (a p h first z : List ℕ) (v w : Tree) → a ≡ h ++ z → p ≡ h ++ first → IsPod z w →
    IsPod first v → (q : List ℕ) × ((if t then a else p) ≡ h ++ q) × IsPod q (if t then w else v)
choose true a p h first z v w ea ep pw pv = (z, ea, pw)
choose false a p h first z v w ea ep pw pv = (first, ep, pv)

same_choice : (t : Bool) (v : Tree) → (if t then v else v) ≡ v
same_choice true v = refl
same_choice false v = refl

other_fixated : (v : Tree) (h first : List ℕ) → length h ≡ 8 → IsPod first v → type_of v ≢ 19 →
    IsFixatedTo h first v v
other_fixated v h first l p ne =
    let flag = may_fixate (word_at (h ++ first) 4) in
    let e : is_choice_pod (drop 8 (h ++ first)) ≡ false =
    ap is_choice_pod (drop_at h first 8 l)
    ∙ is_choice_pod-other _ _ first p ne in
    let f : is_fixable (h ++ first) ≡ false = ap (λ t. flag && t) e ∙ and-false flag in
    (first, ap (λ t. if t then take 8 (h ++ first) ++ none_choice_pod (drop 8 (h ++ first)) else h ++ first) f, subst (IsPod first) (sym (same_choice flag v)) p)

value_fixated : (v : Tree) (h first : List ℕ) → length h ≡ 8 → IsPod first v → IsFixatedTo h first v (default_of v)
value_fixated (choice s f k x xs) h first l p =
    let a = take 8 (h ++ first) ++ none_choice_pod (drop 8 (h ++ first)) in
    let ea : a ≡ h ++ none_choice_pod first =
    ap (λ z. z ++ none_choice_pod (drop 8 (h ++ first))) (take_at h first 8 l)
    ∙ ap (λ z. h ++ none_choice_pod z) (drop_at h first 8 l) in
    let flag = may_fixate (word_at (h ++ first) 4) in
    let e : is_fixable (h ++ first) ≡ flag =
    ap (λ z. flag && is_choice_pod z) (drop_at h first 8 l)
    ∙ ap (λ t. flag && t) (is_choice_pod-of s f k x xs first p)
    ∙ and-true flag in
    let r = choose flag a (h ++ first) h first (none_choice_pod first) (choice s f k x xs) (choice none_choice 0 k x []) ea refl (choice_fixated s f k x xs first p) p in
    (r.0, ap (λ t. if t then a else h ++ first) e ∙ r.1, r.2)
value_fixated (fixed x) h first l p = other_fixated (fixed x) h first l p (λ e. let i = number_is (kind_of x) in grind arith)
value_fixated (string s) h first l p = other_fixated (string s) h first l p (λ e. omega arith)
value_fixated (bytes s) h first l p = other_fixated (bytes s) h first l p (λ e. omega arith)
value_fixated (bitmap s) h first l p = other_fixated (bitmap s) h first l p (λ e. omega arith)
value_fixated (array k xs) h first l p = other_fixated (array k xs) h first l p (λ e. omega arith)
value_fixated (pointer t a) h first l p = other_fixated (pointer t a) h first l p (λ e. omega arith)
value_fixated (struct vs) h first l p = other_fixated (struct vs) h first l p (λ e. omega arith)
value_fixated (object t i ps) h first l p = other_fixated (object t i ps) h first l p (λ e. omega arith)

pub properties_fixated : (ps : Properties) (b : List ℕ) → AreProperties ps b →
    AreProperties (default_properties ps) (fixated_properties b)
properties_fixated no_properties b h = fixated_properties-end b (let l = ap length h in omega arith) ∙ h
properties_fixated (property key flags v ps) b h =
    let first = h.3 in
    let others = h.4 in
    let s = property_parts b first others _ _ h.0 h.5 h.6 in
    let n = 8 + length first in
    let hd = take 8 b in
    let n8 : length hd ≡ 8 = length-take-le 8 b h.0 in
    let c = value_fixated v hd first n8 h.6 in
    let q = c.0 in
    let tail = fixated_properties others in
    let e : fixated_properties b ≡ hd ++ (q ++ tail) =
    fixated_properties-next n b (sym s.here) s.fits
    ∙ ap (λ z. fixated_property z ++ fixated_properties (drop n b)) s.taken
    ∙ ap (λ z. fixated_property (hd ++ first) ++ fixated_properties z) s.left
    ∙ ap (λ z. z ++ tail) c.1
    ∙ append_assoc hd q tail in
    let la = length-append hd (q ++ tail) in
    let fl : word_at (hd ++ first) 4 ≡ flags =
    word_at-append hd first 4 (omega arith)
    ∙ word_at-take 8 4 b (omega arith)
    ∙ sym h.2 in
    subst (AreProperties (default_properties (property key flags v ps))) (sym e) (
      omega arith,
      h.1 ∙ sym (word_at-append hd (q ++ tail) 0 (omega arith) ∙ word_at-take 8 0 b (omega arith)),
      h.2 ∙ sym (word_at-append hd (q ++ tail) 4 (omega arith) ∙ word_at-take 8 4 b (omega arith)),
      q,
      tail,
      drop_at hd (q ++ tail) 8 n8,
      subst (λ m. IsPod q (if may_fixate m then default_of v else v)) fl c.2,
      properties_fixated ps others h.7,
    )

-- which accepted values are settled
other_settled : (v : Tree) (b : List ℕ) → IsPod b v → type_of v ≢ 19 → is_settled_pod b ≡ true
other_settled v b h ne = ap (λ t. not t || nat_eq (word_at b 8) 0) (is_choice_pod-other _ _ b h ne)

one_settled : (v : Tree) (b : List ℕ) → IsPod b v → is_settled_pod b ≡ is_settled v
one_settled (choice s f k x xs) b h =
    let big = choice_size s f k x xs b h in
    let sh : word_at b 8 ≡ _ =
    sym (word_at-drop 8 0 b)
    ∙ sym (word_at-take (word_at b 0) 0 (drop 8 b) (omega arith))
    ∙ h.content.shape in
    ap (λ t. not t || nat_eq (word_at b 8) 0) (is_choice_pod-of s f k x xs b h) ∙ ap (λ n. nat_eq n 0) sh
one_settled (fixed x) b h = other_settled (fixed x) b h (λ e. let i = number_is (kind_of x) in grind arith)
one_settled (string s) b h = other_settled (string s) b h (λ e. omega arith)
one_settled (bytes s) b h = other_settled (bytes s) b h (λ e. omega arith)
one_settled (bitmap s) b h = other_settled (bitmap s) b h (λ e. omega arith)
one_settled (array k xs) b h = other_settled (array k xs) b h (λ e. omega arith)
one_settled (pointer t a) b h = other_settled (pointer t a) b h (λ e. omega arith)
one_settled (struct vs) b h = other_settled (struct vs) b h (λ e. omega arith)
one_settled (object t i ps) b h = other_settled (object t i ps) b h (λ e. omega arith)

pub all_settled-of : (ps : Properties) (bs : List (List ℕ)) → ArePropertiesOf ps bs → all_settled bs ≡ are_settled ps
all_settled-of no_properties bs h = ap all_settled h
all_settled-of (property key flags v ps) [] h = absurd h
all_settled-of (property key flags v ps) (b ∷ bs) h =
    ap₂ (λ t r. if t then r else false) (one_settled v (drop 8 b) h.2) (all_settled-of ps bs h.3)
