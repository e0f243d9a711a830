-- Bodies of one kind one after another.
use Rattle.std.proofs.Common.{◌≡◌, ℕ, ◌+◌, ◌*◌, ◌<◌, ◌≤◌, ◌^◌, List, [], ◌∷◌, ◌++◌, length, take, drop, refl, sym, ap, ◌∙◌, subst, arith, length-append, length-drop, length-take, append_assoc}
use Rattle.std.proofs.lemmas.List.{append-nil, take_at, drop_at, take-append-drop, take_all, take-append-le, drop-append-le, nil_from_length}
use Rattle.std.proofs.Common.{drop_of_length-le}
use Rattle.spa_format.specs.Words.{word_bytes}
use Rattle.spa_format.specs.Kind.{Kind, none_kind, bool_kind, id_kind, int_kind, long_kind, float_kind, double_kind, rectangle_kind, fraction_kind, fd_kind, type_number, body_size, Fixed, IsFixedBody, fixed_body}
use Rattle.spa_format.specs.Normal.{kept_elements}
use Rattle.spa_format.specs.Pod.{AreElements, IsArray}
use Rattle.spa_format.specs.Encoding.{fixed_bodies, array_body}
use Rattle.spa_format.specs.Typed.{IsBytes, AreOf}
use Rattle.spa_format.proofs.WordLemmas.{length-word_bytes, word_inside, IsBytes-take, IsBytes-drop}
use Rattle.spa_format.proofs.FixedKinds.{same_kind, number_is, size_fits, kind_of_body, same_fixed, fixed_back, typed_fixed, fixed_length, length-fixed_body}
use Rattle.spa_format.proofs.Encodings.{length-behind_two}

-- a sized body is not at the end
not_at_end : (k : Kind) (x : Fixed) (b : List ℕ) → b ≡ [] → 0 < body_size k → ¬ (IsFixedBody k (take (body_size k) b) x)
not_at_end k x b e l h = let w = h.whole in let t = length-take (body_size k) b in let z = ap length e in omega arith

pub same_elements : (k : Kind) (xs ys : List Fixed) (b : List ℕ) → AreElements k xs b → AreElements k ys b → xs ≡ ys
same_elements k [] [] b h i = refl
same_elements k [] (y ∷ ys) b h i = absurd (not_at_end k y b h i.0 i.1)
same_elements k (x ∷ xs) [] b h i = absurd (not_at_end k x b i h.0 h.1)
same_elements k (x ∷ xs) (y ∷ ys) b h i =
    let e = same_fixed k (take (body_size k) b) x y h.1 i.1 in
    let f = same_elements k xs ys (drop (body_size k) b) h.2 i.2 in
    cc

pub length_of_elements : (k : Kind) (xs : List Fixed) (b : List ℕ) → AreElements k xs b → length b ≡ length xs * body_size k
length_of_elements k [] b h = let e = ap length h in omega arith
length_of_elements k (x ∷ xs) b h =
    let w = h.1.whole in
    let t = length-take (body_size k) b in
    let d = length-drop (body_size k) b in
    let e = length_of_elements k xs (drop (body_size k) b) h.2 in
    grind arith

-- the bodies as they are written are as long
pub elements_length : (k : Kind) (xs : List Fixed) (b : List ℕ) → AreElements k xs b → length (fixed_bodies xs) ≡ length b
elements_length k [] b h = sym (ap length h)
elements_length k (x ∷ xs) b h =
    let w = h.1.whole in
    let t = length-take (body_size k) b in
    let d = length-drop (body_size k) b in
    let e = fixed_length k (take (body_size k) b) x h.1 in
    let f = elements_length k xs (drop (body_size k) b) h.2 in
    let a = length-append (fixed_body x) (fixed_bodies xs) in
    omega arith

pub typed_elements : (k : Kind) (xs : List Fixed) (b : List ℕ) → IsBytes b → AreElements k xs b → AreOf k xs
typed_elements k [] b f h = tt
typed_elements k (x ∷ xs) b f h =
    (kind_of_body k (take (body_size k) b) x h.1, typed_fixed k (take (body_size k) b) x (IsBytes-take (body_size k) b f) h.1, typed_elements k xs (drop (body_size k) b) (IsBytes-drop (body_size k) b f) h.2)

pub normal_elements : (k : Kind) (xs : List Fixed) (b : List ℕ) → AreElements k xs b → kept_elements k xs ≡ xs
normal_elements none_kind [] b h = refl
normal_elements none_kind (x ∷ xs) b h = absurd (let l = h.0 in omega arith)
normal_elements bool_kind xs b h = refl
normal_elements id_kind xs b h = refl
normal_elements int_kind xs b h = refl
normal_elements long_kind xs b h = refl
normal_elements float_kind xs b h = refl
normal_elements double_kind xs b h = refl
normal_elements rectangle_kind xs b h = refl
normal_elements fraction_kind xs b h = refl
normal_elements fd_kind xs b h = refl

-- elements with bytes are all kept
pub kept_of_sized : (k : Kind) (xs : List Fixed) → 0 < body_size k → kept_elements k xs ≡ xs
kept_of_sized none_kind xs l = absurd (omega arith)
kept_of_sized bool_kind xs l = refl
kept_of_sized id_kind xs l = refl
kept_of_sized int_kind xs l = refl
kept_of_sized long_kind xs l = refl
kept_of_sized float_kind xs l = refl
kept_of_sized double_kind xs l = refl
kept_of_sized rectangle_kind xs l = refl
kept_of_sized fraction_kind xs l = refl
kept_of_sized fd_kind xs l = refl

pub sized_back : (k : Kind) (xs : List Fixed) → 0 < body_size k → AreOf k xs → AreElements k xs (fixed_bodies xs)
sized_back k [] l h = refl
sized_back k (x ∷ xs) l h =
    let e : length (fixed_body x) ≡ body_size k = length-fixed_body x ∙ ap body_size h.0 in
    let here : IsFixedBody k (fixed_body x) x = subst (λ j. IsFixedBody j (fixed_body x) x) h.0 (fixed_back x h.1) in (
      l,
      subst (λ b. IsFixedBody k b x) (sym (take_at (fixed_body x) (fixed_bodies xs) (body_size k) e)) here,
      subst (AreElements k xs) (sym (drop_at (fixed_body x) (fixed_bodies xs) (body_size k) e)) (sized_back k xs l h.2),
    )

units_back : (xs : List Fixed) → AreOf none_kind xs → fixed_bodies xs ≡ []
units_back [] h = refl
units_back (x ∷ xs) h =
    let e : length (fixed_body x) ≡ 0 = length-fixed_body x ∙ ap body_size h.0 in
    ap (λ l. l ++ fixed_bodies xs) (nil_from_length (fixed_body x) e) ∙ units_back xs h.2

pub elements_back : (k : Kind) (xs : List Fixed) → AreOf k xs → AreElements k (kept_elements k xs) (fixed_bodies xs)
elements_back none_kind xs h = units_back xs h
elements_back bool_kind xs h = sized_back bool_kind xs (omega arith) h
elements_back id_kind xs h = sized_back id_kind xs (omega arith) h
elements_back int_kind xs h = sized_back int_kind xs (omega arith) h
elements_back long_kind xs h = sized_back long_kind xs (omega arith) h
elements_back float_kind xs h = sized_back float_kind xs (omega arith) h
elements_back double_kind xs h = sized_back double_kind xs (omega arith) h
elements_back rectangle_kind xs h = sized_back rectangle_kind xs (omega arith) h
elements_back fraction_kind xs h = sized_back fraction_kind xs (omega arith) h
elements_back fd_kind xs h = sized_back fd_kind xs (omega arith) h

pub fixed_bodies-append : (xs ys : List Fixed) → fixed_bodies (xs ++ ys) ≡ fixed_bodies xs ++ fixed_bodies ys
fixed_bodies-append [] ys = refl
fixed_bodies-append (x ∷ xs) ys = ap (λ l. fixed_body x ++ l) (fixed_bodies-append xs ys) ∙ sym (append_assoc (fixed_body x) (fixed_bodies xs) (fixed_bodies ys))

-- one more body at the end
pub bodies_push : (xs : List Fixed) (x : Fixed) → fixed_bodies (xs ++ x ∷ []) ≡ fixed_bodies xs ++ fixed_body x
bodies_push xs x = fixed_bodies-append xs (x ∷ []) ∙ ap (λ l. fixed_bodies xs ++ l) (append-nil (fixed_body x))

-- the bodies of a front of a list are no longer
pub fewer_bodies : (n : ℕ) (xs : List Fixed) → length (fixed_bodies (take n xs)) ≤ length (fixed_bodies xs)
fewer_bodies n xs =
    let e = ap (λ l. length (fixed_bodies l)) (take-append-drop n xs) in
    let f = ap length (fixed_bodies-append (take n xs) (drop n xs)) in
    let g = length-append (fixed_bodies (take n xs)) (fixed_bodies (drop n xs)) in
    omega arith

AreOf-first : (k : Kind) (xs ys : List Fixed) → AreOf k (xs ++ ys) → AreOf k xs
AreOf-first k [] ys h = tt
AreOf-first k (x ∷ xs) ys h = (h.0, h.1, AreOf-first k xs ys h.2)

pub AreOf-take : (k : Kind) (n : ℕ) (xs : List Fixed) → AreOf k xs → AreOf k (take n xs)
AreOf-take k n xs h = AreOf-first k (take n xs) (drop n xs) (subst (AreOf k) (sym (take-append-drop n xs)) h)

-- The body of an array.

pub same_array : (k l : Kind) (xs ys : List Fixed) (b : List ℕ) → IsArray k xs b → IsArray l ys b → (k ≡ l) × (xs ≡ ys)
same_array k l xs ys b h i =
    let e = same_kind k l (sym h.child_type ∙ i.child_type) in
    (e, same_elements k xs ys (drop 8 b) h.elements (subst (λ j. AreElements j ys (drop 8 b)) (sym e) i.elements))

pub array_length : (k : Kind) (xs : List Fixed) → length (array_body k xs) ≡ 8 + length (fixed_bodies xs)
array_length k xs = length-behind_two (body_size k) (type_number k) (fixed_bodies xs)

pub same_array_length : (k : Kind) (xs : List Fixed) (b : List ℕ) → IsArray k xs b → length (array_body k xs) ≡ length b
same_array_length k xs b h =
    let e0 = array_length k xs in
    let e1 = elements_length k xs (drop 8 b) h.elements in
    let e2 = length-drop 8 b in
    let l = h.header in
    omega arith

pub array_back : (k : Kind) (xs : List Fixed) → AreOf k xs → IsArray k (kept_elements k xs) (array_body k xs)
array_back k xs h =
    let s = word_bytes (body_size k) in
    let t = word_bytes (type_number k) in
    let r = fixed_bodies xs in
    let e2 = length-word_bytes (body_size k) in
    let e3 = length-word_bytes (type_number k) in
    let l = array_length k xs in
    let n : type_number k < 2 ^ 32 = let i = number_is k in grind arith in
    let d : drop 8 (array_body k xs) ≡ r = ap (drop 8) (sym (append_assoc s t r)) ∙ drop_at (s ++ t) r 8 (length-append s t ∙ omega arith) in
    record {
      header = omega arith;
      child_size = word_inside [] (t ++ r) (body_size k) 0 refl (let f = size_fits k in omega arith);
      child_type = word_inside s r (type_number k) 4 e2 n;
      elements = subst (AreElements k (kept_elements k xs)) (sym d) (elements_back k xs h);
    }

pub typed_array : (k : Kind) (xs : List Fixed) (b : List ℕ) → IsBytes b → IsArray k xs b → AreOf k xs
typed_array k xs b f h = typed_elements k xs (drop 8 b) (IsBytes-drop 8 b f) h.elements

-- some bodies, and others behind them
pub elements_joined : (k : Kind) (xs ys : List Fixed) (a b : List ℕ) → AreElements k xs a → AreElements k ys b →
    AreElements k (xs ++ ys) (a ++ b)
elements_joined k [] ys a b h i = subst (AreElements k ys) (ap (λ l. l ++ b) (sym h)) i
elements_joined k (x ∷ xs) ys a b h i =
    let s = body_size k in
    let w = h.1.whole in
    let t = length-take s a in
    let long : s ≤ length a = omega arith in (
      h.0,
      subst (λ y. IsFixedBody k y x) (sym (take-append-le s a b long)) h.1,
      subst (AreElements k (xs ++ ys)) (sym (drop-append-le s a b long)) (elements_joined k xs ys (drop s a) b h.2 i),
    )

-- one more element at the end
pub elements_push : (k : Kind) (xs : List Fixed) (x : Fixed) (a c : List ℕ) → 0 < body_size k → AreElements k xs a → IsFixedBody k c x → AreElements k (xs ++ x ∷ []) (a ++ c)
elements_push k xs x a c l h i =
    let w : length c ≤ body_size k = let n = i.whole in omega arith in
    elements_joined k xs (x ∷ []) a c h
    (l, subst (λ b. IsFixedBody k b x) (sym (take_all (body_size k) c w)) i, drop_of_length-le c w)
