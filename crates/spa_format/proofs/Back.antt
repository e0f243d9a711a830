-- The encoding of a value reads back as the value's normal form.
use Rattle.std.proofs.Common.{◌≡◌, ℕ, ◌<◌, ◌≤◌, ◌^◌, inl, inr, List, [], ◌++◌, length, drop, take, refl, sym, ap, ◌∙◌, subst, arith, length-append, append_assoc}
use Rattle.std.proofs.lemmas.List.{take_at, drop_at}
use Rattle.spa_format.specs.Words.{word_at, word_bytes, extent, padding, body_of}
use Rattle.spa_format.specs.Tree.{Tree, fixed, string, bytes, bitmap, array, choice, pointer, struct, object, Trees, no_trees, member, Properties, no_properties, property, type_of}
use Rattle.spa_format.specs.Kind.{kind_of}
use Rattle.spa_format.specs.Pod.{IsWhole, IsBody, AreMembers, AreProperties, IsPod}
use Rattle.spa_format.specs.Encoding.{encoded_pod, encoded_body, member_encodings, property_encodings, encoding_of}
use Rattle.spa_format.specs.Normal.{normal_of, normal_members, normal_properties}
use Rattle.spa_format.specs.Typed.{IsTyped, AllTyped, AllPropertiesTyped}
use Rattle.spa_format.specs.Writable.{HasNul, SomeHasNul, SomeValueHasNul, IsTooLarge, SomeTooLarge, SomeValueTooLarge, IsWritable}
use Rattle.spa_format.specs.Front.{front_of, Begins}
use Rattle.spa_format.proofs.WordLemmas.{length-word_bytes, word_inside}
use Rattle.spa_format.proofs.Short.{length-encoded_pod}
use Rattle.spa_format.proofs.Fronts.{front_of_whole}
use Rattle.spa_format.proofs.FixedKinds.{number_is, size_fits, fixed_back, length-fixed_body}
use Rattle.spa_format.proofs.Elements.{array_back}
use Rattle.spa_format.proofs.Choices.{choice_back, pointer_back, pointer_length}
use Rattle.spa_format.proofs.Encodings.{length-behind_two, two_words_length}

-- an encoded pod is whole
pub whole_frame : (t : ℕ) (b : List ℕ) (P : List ℕ → Type 0) → t < 2 ^ 32 → length b < 2 ^ 32 → P b → IsWhole (encoded_pod t b) t P
whole_frame t b P lt lb p =
    let n = length b in
    let body_size : word_at (encoded_pod t b) 0 ≡ n = word_inside [] (word_bytes t ++ (b ++ padding n)) n 0 refl lb in
    let its_type : word_at (encoded_pod t b) 4 ≡ t = word_inside (word_bytes n) (b ++ padding n) t 4 (length-word_bytes n) lt in
    let head = sym (append_assoc (word_bytes n) (word_bytes t) (b ++ padding n)) in
    let behind : drop 8 (encoded_pod t b) ≡ b ++ padding n =
    ap (drop 8) head ∙ drop_at (word_bytes n ++ word_bytes t) (b ++ padding n) 8 (length-append (word_bytes n) (word_bytes t) ∙ (let e = length-word_bytes n in let f = length-word_bytes t in omega arith)) in
    let inside : body_of (encoded_pod t b) ≡ b = ap (λ s. take s (drop 8 (encoded_pod t b))) body_size ∙ ap (take n) behind ∙ take_at b (padding n) n refl in
    record { whole = length-encoded_pod t b ∙ ap extent (sym body_size); its_type = its_type; content = subst P (sym inside) p }

pub same_type : (v : Tree) → type_of (normal_of v) ≡ type_of v
same_type (fixed x) = refl
same_type (string s) = refl
same_type (bytes s) = refl
same_type (bitmap s) = refl
same_type (array k xs) = refl
same_type (choice s f k x xs) = refl
same_type (pointer t a) = refl
same_type (struct vs) = refl
same_type (object t i ps) = refl

pub type_fits : (v : Tree) → type_of v < 2 ^ 32
type_fits (fixed x) = let i = number_is (kind_of x) in grind arith
type_fits (string s) = omega arith
type_fits (bytes s) = omega arith
type_fits (bitmap s) = omega arith
type_fits (array k xs) = omega arith
type_fits (choice s f k x xs) = omega arith
type_fits (pointer t a) = omega arith
type_fits (struct vs) = omega arith
type_fits (object t i ps) = omega arith

-- a body whose size word fits
pub body_fits : (v : Tree) → ¬ (IsTooLarge v) → length (encoded_body v) < 2 ^ 32
body_fits (fixed x) h = let e = length-fixed_body x in let l = size_fits (kind_of x) in omega arith
body_fits (string s) h = omega arith
body_fits (bytes s) h = omega arith
body_fits (bitmap s) h = omega arith
body_fits (array k xs) h = omega arith
body_fits (choice s f k x xs) h = omega arith
body_fits (pointer t a) h = let e = pointer_length t a in omega arith
body_fits (struct vs) h = let k : ¬ (2 ^ 32 ≤ length (member_encodings vs)) = λ l. h (inl l) in omega arith
body_fits (object t i ps) h = let k : ¬ (2 ^ 32 ≤ length (encoded_body (object t i ps))) = λ l. h (inl l) in omega arith

mutual
  pub back_body : (v : Tree) → IsTyped v → ¬ (HasNul v) → ¬ (IsTooLarge v) → IsBody (normal_of v) (encoded_body v)
  back_body (fixed x) h n l = fixed_back x h
  back_body (string s) h n l = (record { utf8 = h; no_nul = n }, refl)
  back_body (bytes s) h n l = refl
  back_body (bitmap s) h n l = refl
  back_body (array k xs) h n l = array_back k xs h
  back_body (choice s f k x xs) h n l = choice_back s f k x xs h.0 h.1 h.2 h.3
  back_body (pointer t a) h n l = pointer_back t a h.0 h.1
  back_body (struct vs) h n l = back_members vs h n (λ t. l (inr t))
  back_body (object t i ps) h n l =
      let b = encoded_body (object t i ps) in
      let e0 = length-behind_two t i (property_encodings ps) in
      let e1 = length-word_bytes t in
      let w0 : word_at b 0 ≡ t = word_inside [] (word_bytes i ++ property_encodings ps) t 0 refl h.0 in
      let w1 : word_at b 4 ≡ i = word_inside (word_bytes t) (property_encodings ps) i 4 e1 h.1 in
      let d : drop 8 b ≡ property_encodings ps =
      ap (drop 8) (sym (append_assoc (word_bytes t) (word_bytes i) (property_encodings ps))) ∙ drop_at (word_bytes t ++ word_bytes i) (property_encodings ps) 8 (two_words_length t i) in
      ((let le : 8 ≤ length b = omega arith in le), sym w0, sym w1, subst (AreProperties (normal_properties ps)) (sym d) (back_props ps h.2 n (λ x. l (inr x))))

  pub back_members : (vs : Trees) → AllTyped vs → ¬ (SomeHasNul vs) → ¬ (SomeTooLarge vs) → AreMembers (normal_members vs) (member_encodings vs)
  back_members no_trees h n l = refl
  back_members (member v vs) h n l =
      let here = back_body v h.0 (λ x. n (inl x)) (λ x. l (inl x)) in
      let whole = whole_frame (type_of v) (encoded_body v) (IsBody (normal_of v)) (type_fits v) (body_fits v (λ x. l (inl x))) here in (
        encoded_pod (type_of v) (encoded_body v),
        member_encodings vs,
        refl,
        subst (λ t. IsWhole (encoded_pod (type_of v) (encoded_body v)) t (IsBody (normal_of v))) (sym (same_type v)) whole,
        back_members vs h.1 (λ x. n (inr x)) (λ x. l (inr x)),
      )

  pub back_props : (ps : Properties) → AllPropertiesTyped ps → ¬ (SomeValueHasNul ps) → ¬ (SomeValueTooLarge ps) → AreProperties (normal_properties ps) (property_encodings ps)
  back_props no_properties h n l = refl
  back_props (property k f v ps) h n l =
      let here = back_body v h.2 (λ x. n (inl x)) (λ x. l (inl x)) in
      let whole = whole_frame (type_of v) (encoded_body v) (IsBody (normal_of v)) (type_fits v) (body_fits v (λ x. l (inl x))) here in
      let t = encoded_pod (type_of v) (encoded_body v) in
      let more = t ++ property_encodings ps in
      let b = property_encodings (property k f v ps) in
      let e0 = length-behind_two k f more in
      let e1 = length-word_bytes k in
      let w0 : word_at b 0 ≡ k = word_inside [] (word_bytes f ++ more) k 0 refl h.0 in
      let w1 : word_at b 4 ≡ f = word_inside (word_bytes k) more f 4 e1 h.1 in
      let d : drop 8 b ≡ more = ap (drop 8) (sym (append_assoc (word_bytes k) (word_bytes f) more)) ∙ drop_at (word_bytes k ++ word_bytes f) more 8 (two_words_length k f) in (
        (let le : 8 ≤ length b = omega arith in le),
        sym w0,
        sym w1,
        t,
        property_encodings ps,
        d,
        subst (λ u. IsWhole t u (IsBody (normal_of v))) (sym (same_type v)) whole,
        back_props ps h.3 (λ x. n (inr x)) (λ x. l (inr x)),
      )

pub encoding_is_pod : (v : Tree) → IsTyped v → IsWritable v → IsPod (encoding_of v) (normal_of v)
encoding_is_pod v h w =
    subst (λ t. IsWhole (encoding_of v) t (IsBody (normal_of v))) (sym (same_type v))
    (whole_frame (type_of v) (encoded_body v) (IsBody (normal_of v)) (type_fits v) (body_fits v w.fits) (back_body v h w.no_nul w.fits))

-- whatever follows it
pub encoding_begins : (v : Tree) (r : List ℕ) → IsTyped v → IsWritable v → (front_of (encoding_of v ++ r) ≡ encoding_of v) × Begins (encoding_of v ++ r) (normal_of v)
encoding_begins v r h w =
    let p = encoding_is_pod v h w in
    let f = front_of_whole (encoding_of v ++ r) (encoding_of v) r _ _ refl p in
    (sym f.1, record { there = f.0; pod = subst (λ b. IsPod b (normal_of v)) f.1 p })
