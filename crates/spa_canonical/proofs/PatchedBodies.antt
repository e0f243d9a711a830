-- Pods without members that become their rewritings in place.
use Rattle.std.proofs.Common.{◌≡◌, ◌≢◌, ℕ, ◌+◌, ◌-◌, ◌%◌, ◌^◌, ◌<◌, ◌≤◌, inl, inr, List, [], ◌∷◌, ◌++◌, length, drop, take, refl, sym, ap, ◌∙◌, subst, arith, append_assoc}
use Rattle.std.specs.Prelude.{Bool, false, replicate, true}
use Rattle.std.proofs.Math.Seq.{take-add}
use Rattle.std.proofs.lemmas.Bool.{cases_lt}
use Rattle.std.proofs.lemmas.List.{append-nil, drop-append-le, drop-drop, drop-take, length-replicate, length-take-le, nil_from_length, take-append-drop, take-take, take_all, take_at, drop_at}
use Rattle.std.proofs.lemmas.Slice.{take-put_mid}
use borrow.Rule.Slice.PartMut.{put_mid}
use Rattle.spa_format.specs.Words.{extent, padding, wide_at, wide_bytes, word_at, word_bytes}
use Rattle.spa_format.specs.Kind.{Fixed, Kind, body_size, bool, bool_kind, content, fixed_body, kind_of, type_number}
use Rattle.spa_format.specs.Tree.{Shape, Tree, array, array_type, bitmap, bytes, choice, choice_type, fixed, object, pointer, pointer_type, shape_number, string, struct, type_of}
use Rattle.spa_format.specs.Normal.{kept_flags}
use Rattle.spa_format.specs.Pod.{AreElements, IsArray, IsBody, IsChoice, IsPod, IsPointer}
use Rattle.spa_format.specs.Encoding.{array_body, encoded_body, encoding_of, fixed_bodies, encoded_pod}
use Rattle.spa_format.specs.Typed.{IsBytes}
use Rattle.spa_format.proofs.Elements.{elements_push, length_of_elements, same_elements}
use Rattle.spa_format.proofs.Encodings.{pointer_encoding}
use Rattle.spa_format.proofs.FixedKinds.{fixed_length, length-fixed_body, same_kind}
use Rattle.spa_format.proofs.Shapes.{array_only, choice_only, pointer_only}
use Rattle.spa_format.proofs.WordLemmas.{IsBytes-drop, IsBytes-take, wide_at-drop, word_at-drop, word_at-take, word_fits}
use Rattle.spa_canonical.proofs.Words.{wide_back, word_back, zeros_behind}
use Rattle.spa_canonical.specs.Canonical.{AreCanonicalElements, bytes_taken}
use Rattle.spa_canonical.proofs.Parts.{no_elements, whole_elements}
use Rattle.spa_canonical.specs.Emit.{Encodes, HoldsWhole, IsPlaced, IsPodOf, TurnsWritten}
use Rattle.spa_canonical.proofs.Bodies.{enough_bytes, taken_elements}
use Rattle.spa_canonical.proofs.Patches.{front_bytes, pod_again, says_body, two_words_of}
use Rattle.spa_canonical.proofs.ShorterLemmas.{whole_keyed, whole_list}
use Rattle.spa_canonical.proofs.Written.{drop_past, take_past}
use Rattle.spa_canonical.proofs.Lengths.{lengths}

-- elements
pub truths_written : (old cleared sub new : List ℕ) (number n : ℕ) → number ≡ 2 → n ≤ length old → cleared ≡ take n old ++ replicate (length old - n) 0 →
    (values : List Fixed) × AreElements bool_kind values (take n cleared) × (sub ≡ fixed_bodies values) → length sub ≡ length (take n cleared) → new ≡ sub ++ drop n cleared → TurnsWritten number n old new
truths_written old cleared sub new number n z b c t l e =
    let zeros : List ℕ = replicate (length old - n) 0 in
    let many = length-take-le n old b in
    let same : take n cleared ≡ take n old = ap (take n) c ∙ take_at (take n old) zeros n many in
    record {
      elements = sub;
      long = l ∙ ap length same ∙ many;
      bodies = λ k xs m a.
          let own : AreElements bool_kind xs (take n cleared) =
          subst (AreElements bool_kind xs) (sym same) (subst (λ j. AreElements j xs (take n old)) (same_kind k bool_kind (sym m ∙ z)) a) in
          t.2 ∙ ap fixed_bodies (same_elements bool_kind t.0 xs (take n cleared) t.1 own);
      others = λ m. absurd (m z);
      is = e ∙ ap (λ x. sub ++ x) (ap (drop n) c ∙ drop_at (take n old) zeros n many);
    }

-- one truth value, and its padding
pub truth_written : (old word new : List ℕ) (t : Bool) (number n : ℕ) → number ≡ 2 → n ≡ 4 → length old ≡ 8 → word ≡ take 4 old →
    bool t ≡ content bool_kind word → take 4 new ≡ fixed_body (bool t) → drop 4 new ≡ replicate 4 0 → TurnsWritten number n old new
truth_written old word new t number n z four eight w c a d =
    let many = length-take-le 4 old (omega arith) in
    let one : AreElements bool_kind (bool t ∷ []) (take 4 old) =
    elements_push bool_kind [] (bool t) [] (take 4 old) (omega arith) refl (record { whole = many; says = c ∙ ap (content bool_kind) w }) in
    let own = λ (k : Kind) (xs : List Fixed) (m : number ≡ type_number k) (e : AreElements k xs (take n old)).
    let is : AreElements bool_kind xs (take 4 old) =
    subst (λ i. AreElements bool_kind xs (take i old)) four (subst (λ j. AreElements j xs (take n old)) (same_kind k bool_kind (sym m ∙ z)) e) in
    let same : fixed_body (bool t) ≡ fixed_bodies xs =
    sym (append-nil (fixed_body (bool t))) ∙ ap fixed_bodies (same_elements bool_kind (bool t ∷ []) xs (take 4 old) one is) in
    same in
    record {
      elements = fixed_body (bool t);
      long = length-fixed_body (bool t) ∙ sym four;
      bodies = own;
      others = λ m. absurd (m z);
      is = sym (take-append-drop 4 new) ∙ ap (λ x. x ++ drop 4 new) a
          ∙ ap (λ x. fixed_body (bool t) ++ x) (d ∙ ap (λ m. replicate m 0) (let e : 4 ≡ length old - n = omega arith in e));
    }

pub others_written : (old new : List ℕ) (number n : ℕ) → IsBytes new → n ≤ length old → new ≡ take n old ++ replicate (length old - n) 0 → (number ≡ 2 → n % 4 ≢ 0) →
    TurnsWritten number n old new
others_written old new number n h b e o =
    let many = length-take-le n old b in
    let bytes : IsBytes (take n old) = subst IsBytes (ap (take n) e ∙ take_at (take n old) (replicate (length old - n) 0) n many) (IsBytes-take n new h) in
    record {
      elements = take n old;
      long = many;
      bodies = λ k xs m a.
          let count = length_of_elements k xs (take n old) a in
          let other : k ≢ bool_kind = λ z. let four : body_size k ≡ 4 = ap body_size z in o (m ∙ ap type_number z) (grind arith) in
          let c : AreCanonicalElements k (take n old) = elim (cases_lt 0 (body_size k)) [
            | inl p ↦ whole_elements k (length xs) (take n old) bytes other p count
            | inr y ↦ no_elements k (take n old) (let z : length (take n old) ≡ 0 = grind arith in z)
          ] in
          c.same ∙ ap fixed_bodies (same_elements k c.values xs (take n old) c.elements a);
      others = λ m. refl;
      is = e;
    }

-- and other bytes before them
elements_behind : (pod sub : List ℕ) (at number n k : ℕ) (t : TurnsWritten number n (take k (drop at pod)) sub) → n ≤ k → at + k ≤ length pod →
    (take (at + k) (put_mid at k pod sub) ≡ take at pod ++ (t.elements ++ replicate (k - n) 0)) × (length (put_mid at k pod sub) ≡ length pod)
elements_behind pod sub at number n k t l r =
    let many = t.long in
    let long : length sub ≡ k = ap length t.is ∙ omega (lengths, length-replicate {A = ℕ}) in (
      take-put_mid at k pod sub (at + k) (omega lengths) (omega lengths) ∙ ap (λ x. take at pod ++ x) (t.is ∙ ap (λ m. t.elements ++ replicate m 0) (omega lengths)),
      omega lengths,
    )

-- a pod with another body of its size
pub body_placed : (pod new body : List ℕ) (type size : ℕ) → IsBytes (take 8 pod) → IsPodOf pod type size → length body ≡ size →
    ((v : Tree) → type_of v ≡ type → IsBody v (take size (drop 8 pod)) → body ≡ encoded_body v) → new ≡ take 8 pod ++ (body ++ padding size) → IsPlaced pod new
body_placed pod new body type size h p l f e = λ v w.
    let b = says_body pod type size v p w in
    e ∙ pod_again pod body type size h p l ∙ ap (encoded_pod type) (f v b.its_type b.its_body) ∙ ap (λ t. encoded_pod t (encoded_body v)) (sym b.its_type)

-- types and sizes of pods that hold no others, but for arrays, pointers and choices
pub record IsPlainType (type size : ℕ) : Type 0 where
  pub no_inner : (keyed : Bool) → ¬ (HoldsWhole type size keyed)
  pub no_array : type ≢ array_type
  pub no_pointer : type ≢ pointer_type
  pub no_choice : type ≢ choice_type

as_written : (v : Tree) (old new : List ℕ) (number n : ℕ) → type_of v ≡ number → (t : TurnsWritten number n old new) → IsPlainType number (length (take n old)) →
    IsBody v (take n old) → t.elements ≡ encoded_body v
as_written (fixed x) old new number n y t p w =
    let k = kind_of x in
    let long = fixed_length k (take n old) x w in
    elim (cases_lt 0 (body_size k)) [
      | inl some ↦ t.bodies k (x ∷ []) (sym y) (elements_push k [] x [] (take n old) some refl w) ∙ append-nil (fixed_body x)
      | inr none ↦
          t.bodies k [] (sym y) (nil_from_length (take n old) (w.whole ∙ omega arith)) ∙ sym (nil_from_length (fixed_body x) (long ∙ w.whole ∙ omega arith))
    ]
as_written (string s) old new number n y t p w = t.others (λ e. omega (arith, y ∙ e)) ∙ w.1
as_written (bytes s) old new number n y t p w = t.others (λ e. omega (arith, y ∙ e)) ∙ w
as_written (bitmap s) old new number n y t p w = t.others (λ e. omega (arith, y ∙ e)) ∙ w
as_written (array k xs) old new number n y t p w = absurd (p.no_array (sym y))
as_written (choice s f k x xs) old new number n y t p w = absurd (p.no_choice (sym y))
as_written (pointer u a) old new number n y t p w = absurd (p.no_pointer (sym y))
as_written (struct vs) old new number n y t p w = absurd (p.no_inner false (record { holds = sym y; whole = whole_list vs (take n old) w }))
as_written (object u i ps) old new number n y t p w =
    let z = whole_keyed ps (drop 8 (take n old)) w.3 in
    let r = w.0 in
    absurd (p.no_inner true (record { holds = (sym y, r); whole = omega lengths }))

pub plain_placed : (pod sub new : List ℕ) (type size k : ℕ) → IsBytes new → IsPodOf pod type size → IsPlainType type size → k ≡ length pod - 8 →
    TurnsWritten type size (take k (drop 8 pod)) sub → new ≡ put_mid 8 k pod sub → IsPlaced pod new
plain_placed pod sub new type size k h p l z t e =
    let own = elements_behind pod sub 8 type size k t (omega lengths) (omega lengths) in
    let long = ap length e ∙ own.1 in
    let is : new ≡ take 8 pod ++ (t.elements ++ replicate (k - size) 0) = sym (take_all (8 + k) new (omega lengths)) ∙ ap (take (8 + k)) e ∙ own.0 in
    let same : take size (take k (drop 8 pod)) ≡ take size (drop 8 pod) = take-take size k (drop 8 pod) (omega lengths) in
    let many : size ≡ length (take size (take k (drop 8 pod))) = omega lengths in
    body_placed pod new t.elements type size (front_bytes new pod _ 8 8 (omega lengths) (omega lengths) h is) p t.long
    (λ v y w. as_written v (take k (drop 8 pod)) sub type size y t (subst (IsPlainType type) many l) (subst (IsBody v) (sym same) w))
    (is ∙ ap (λ m. take 8 pod ++ (t.elements ++ replicate m 0)) (omega lengths))

-- a pointer
short_address : (a : ℕ) → a < 2 ^ 32 → word_bytes a ++ replicate 4 0 ≡ wide_bytes a
unfolding word_bytes wide_bytes
short_address a l =
    ap (λ x. take 4 (wide_bytes a) ++ x) (sym ((zeros_behind a 4 (omega arith) (omega arith)).0 (omega arith))) ∙ take-append-drop 4 (wide_bytes a)

pub pointer_placed : (pod first cleared new : List ℕ) (size : ℕ) → IsBytes new → IsPodOf pod pointer_type size → length pod ≡ 24 →
    first ≡ (word_bytes 16 ++ word_bytes pointer_type) ++ (word_bytes (word_at pod 8) ++ word_bytes 0) →
    cleared ≡ take (8 + size) pod ++ replicate (length pod - (8 + size)) 0 → new ≡ first ++ drop 16 cleared → IsPlaced pod new
pointer_placed pod first cleared new size h p n f c e = λ v w.
    let s = says_body pod pointer_type size v p w in
    let o = pointer_only v s.its_type in
    let a = o.1 in
    let body = take size (drop 8 pod) in
    let its : IsPointer o.0 a body = subst (λ x. IsBody x body) o.2 s.its_body in
    let sixteen : length first ≡ 16 = ap length f ∙ omega lengths in
    let address = drop 16 cleared in
    let long : length cleared ≡ 24 = ap length c ∙ omega (lengths, length-replicate {A = ℕ}) in
    let bytes : IsBytes address = subst IsBytes (ap (drop 16) e ∙ drop_at first address 16 sixteen) (IsBytes-drop 16 new h) in
    let last : address ≡ wide_bytes a = elim its.1 [
      | inl x ↦ (
          let z : size ≡ 12 = sym s.long ∙ x.0 in
          let short : cleared ≡ take 20 pod ++ replicate 4 0 = c ∙ ap (λ m. take (8 + m) pod ++ replicate (length pod - (8 + m)) 0) z ∙ ap (λ m. take 20 pod ++ replicate (m - 20) 0) n in
          let word = take 4 (drop 16 pod) in
          let is : address ≡ word ++ replicate 4 0 =
          ap (drop 16) short ∙ drop-append-le 16 (take 20 pod) (replicate 4 0) (omega lengths) ∙ ap (λ x. x ++ replicate 4 0) (drop-take 16 4 pod) in
          let there : a ≡ word_at word 0 =
          x.1 ∙ word_at-take size 8 (drop 8 pod) (omega lengths) ∙ word_at-drop 8 8 pod ∙ sym (word_at-take 4 0 (drop 16 pod) (omega lengths) ∙ word_at-drop 16 0 pod) in
          let all : IsBytes word = subst IsBytes (ap (take 4) is ∙ take_at word (replicate 4 0) 4 (omega lengths)) (IsBytes-take 4 address bytes) in
          is ∙ ap (λ y. y ++ replicate 4 0) (sym (word_back word all (omega lengths))) ∙ short_address (word_at word 0) (word_fits word 0 all) ∙ ap wide_bytes (sym there)
          )
      | inr x ↦ (
          let z : size ≡ 16 = sym s.long ∙ x.0 in
          let same : cleared ≡ pod =
          c ∙ ap (λ y. y ++ replicate (length pod - (8 + size)) 0) (take_all (8 + size) pod (omega lengths)) ∙ ap (λ m. pod ++ replicate m 0) (let y : length pod - (8 + size) ≡ 0 = omega lengths in y) ∙ append-nil pod in
          let there : a ≡ wide_at address 0 =
          x.1 ∙ ap (λ y. wide_at y 8) (take_all size (drop 8 pod) (omega lengths)) ∙ wide_at-drop 8 8 pod ∙ sym (ap (λ y. wide_at (drop 16 y) 0) same ∙ wide_at-drop 16 0 pod) in
          sym (wide_back address bytes (omega lengths)) ∙ ap wide_bytes (sym there)
          )
    ] in
    let words = word_bytes 16 ++ word_bytes pointer_type in
    let type : word_at pod 8 ≡ o.0 = sym (its.0 ∙ word_at-take size 0 (drop 8 pod) (omega lengths) ∙ word_at-drop 8 0 pod) in
    e ∙ ap (λ x. x ++ address) f ∙ ap (λ m. (words ++ (word_bytes m ++ word_bytes 0)) ++ address) type ∙ ap (λ x. (words ++ (word_bytes o.0 ++ word_bytes 0)) ++ x) last
    ∙ append_assoc words (word_bytes o.0 ++ word_bytes 0) (wide_bytes a) ∙ sym (pointer_encoding o.0 a) ∙ ap encoding_of (sym o.2)

pub no_pointer : (pod : List ℕ) (size : ℕ) → IsPodOf pod pointer_type size → length pod ≢ 24 → IsPlaced pod pod
no_pointer pod size p n = λ v w.
    let s = says_body pod pointer_type size v p w in
    let o = pointer_only v s.its_type in
    let its : IsPointer o.0 o.1 (take size (drop 8 pod)) = subst (λ x. IsBody x (take size (drop 8 pod))) o.2 s.its_body in
    elim its.1 [
      | inl x ↦ absurd (let z : size ≡ 12 = sym s.long ∙ x.0 in n (omega arith))
      | inr x ↦ absurd (let z : size ≡ 16 = sym s.long ∙ x.0 in n (omega arith))
    ]

inside : (at n : ℕ) (b : List ℕ) → 8 ≤ n → drop 8 (take n (drop at b)) ≡ take (n - 8) (drop (at + 8) b)
inside at n b l = ap (λ i. drop 8 (take i (drop at b))) (omega arith) ∙ drop-take 8 (n - 8) (drop at b) ∙ ap (take (n - 8)) (drop-drop 8 at b)

-- the child header and the elements of an array
array_written : (b old new : List ℕ) (number n : ℕ) (k : Kind) (all xs : List Fixed) → IsBytes (take 8 b) → IsArray k all b → number ≡ word_at b 4 →
    (t : TurnsWritten number n old new) → AreElements k xs (take n old) → take 8 b ++ t.elements ≡ array_body k xs
array_written b old new number n k all xs h a w t m =
    let size = word_bytes (body_size k) in
    let type = word_bytes (type_number k) in
    ap (λ x. x ++ t.elements) (two_words_of b h a.header ∙ ap (λ n. word_bytes n ++ word_bytes (word_at b 4)) a.child_size ∙ ap (λ n. size ++ word_bytes n) a.child_type)
    ∙ append_assoc size type t.elements ∙ ap (λ x. size ++ (type ++ x)) (t.bodies k xs (w ∙ a.child_type) m)

pub array_placed : (pod sub new : List ℕ) (number size k : ℕ) → IsBytes new → IsPodOf pod array_type size → 8 ≤ size → number ≡ word_at pod 12 → k ≡ length pod - 16 →
    TurnsWritten number (size - 8) (take k (drop 16 pod)) sub → new ≡ put_mid 16 k pod sub → IsPlaced pod new
array_placed pod sub new number size k h p big n z t e =
    let own = elements_behind pod sub 16 number (size - 8) k t (omega lengths) (omega lengths) in
    let long = ap length e ∙ own.1 in
    let many = t.long in
    let is : new ≡ take 16 pod ++ (t.elements ++ replicate (k - (size - 8)) 0) = sym (take_all (16 + k) new (omega lengths)) ∙ ap (take (16 + k)) e ∙ own.0 in
    let old = take size (drop 8 pod) in
    let words : take 8 old ≡ take 8 (drop 8 pod) = take-take 8 size (drop 8 pod) big in
    let same : take (size - 8) (take k (drop 16 pod)) ≡ take (size - 8) (drop 16 pod) = take-take (size - 8) k (drop 16 pod) (omega lengths) in
    body_placed pod new (take 8 old ++ t.elements) array_type size (front_bytes new pod _ 8 16 (omega lengths) (omega lengths) h is) p (omega lengths)
    (λ v y w.
    let o = array_only v y in
    let its : IsArray o.0 o.1 old = subst (λ x. IsBody x old) o.2 w in
    let bytes = subst IsBytes (sym (words ∙ sym (drop-take 8 8 pod))) (IsBytes-drop 8 (take 16 pod) (front_bytes new pod _ 16 16 (omega lengths) (omega lengths) h is)) in
    array_written old (take k (drop 16 pod)) sub number (size - 8) o.0 o.1 o.1 bytes its
    (n ∙ sym (word_at-take size 4 (drop 8 pod) (omega lengths) ∙ word_at-drop 8 4 pod)) t
    (subst (AreElements o.0 o.1) (inside 8 size pod big ∙ sym same) its.elements) ∙ ap encoded_body (sym o.2))
    (is ∙ ap (λ x. x ++ (t.elements ++ replicate (k - (size - 8)) 0)) (take-add 8 8 pod ∙ ap (λ x. take 8 pod ++ x) (sym words))
    ∙ ap (λ m. (take 8 pod ++ take 8 old) ++ (t.elements ++ replicate m 0)) (omega lengths) ∙ array_parts (take 8 pod) (take 8 old) t.elements (padding size))
  where
    array_parts : (a b c d : List ℕ) → (a ++ b) ++ (c ++ d) ≡ a ++ ((b ++ c) ++ d)
    array_parts a b c d = simp append_assoc

pub no_array : (pod : List ℕ) (size : ℕ) → IsPodOf pod array_type size → size < 8 → IsPlaced pod pod
no_array pod size p n = λ v pd.
    let b = says_body pod array_type size v p pd in
    let o = array_only v b.its_type in
    let its : IsArray o.0 o.1 (take size (drop 8 pod)) = subst (λ x. IsBody x (take size (drop 8 pod))) o.2 b.its_body in
    absurd (omega arith)

-- a choice without its surplus values
pub choice_encoded : (pod first sub new : List ℕ) (n size number shape flags end k : ℕ) → IsBytes new → IsPodOf pod choice_type size → 16 + n ≤ size →
    end ≡ extent (16 + n) → shape ≡ word_at pod 8 → number ≡ word_at pod 20 →
    ((s : Shape) → shape ≡ shape_number s → n ≡ bytes_taken s (word_at pod 16) (size - 16)) →
    ((s : Shape) → shape ≡ shape_number s → flags ≡ kept_flags s (word_at pod 12)) →
    first ≡ (word_bytes (16 + n) ++ word_bytes choice_type) ++ (word_bytes shape ++ word_bytes flags) →
    k ≡ end - 24 → TurnsWritten number n (take k (drop 24 (first ++ drop 16 pod))) sub → new ≡ put_mid 24 k (first ++ drop 16 pod) sub → Encodes IsPlaced pod new end
choice_encoded pod first sub new n size number shape flags end many h p room z w8 w20 taken kept f zk t e =
    let part = first ++ drop 16 pod in
    let els = t.elements in
    let words = take 8 (drop 16 pod) in
    let zeros : List ℕ = replicate (many - n) 0 in
    let sixteen : length first ≡ 16 = ap length f ∙ omega lengths in
    let own = elements_behind part sub 24 number n many t (omega lengths) (omega lengths) in
    let count = t.long in
    let is : take end new ≡ first ++ (words ++ (els ++ zeros)) =
    ap (λ i. take i new) (omega arith) ∙ ap (take (24 + many)) e ∙ own.0 ∙ ap (λ x. x ++ (els ++ zeros)) (take_past first (drop 16 pod) 16 8 sixteen)
    ∙ append_assoc first words (els ++ zeros) in
    let there : take n (take many (drop 24 part)) ≡ take n (drop 24 pod) =
    take-take n many (drop 24 part) (omega arith) ∙ ap (take n) (drop_past first (drop 16 pod) 16 8 sixteen ∙ drop-drop 8 16 pod) in
    let bytes : IsBytes words =
    subst IsBytes (ap (λ x. take 8 (drop 16 x)) is ∙ ap (take 8) (drop_at first (words ++ (els ++ zeros)) 16 sixteen) ∙ take_at words (els ++ zeros) 8 (omega lengths))
    (IsBytes-take 8 (drop 16 (take end new)) (IsBytes-drop 16 (take end new) (IsBytes-take end new h))) in
    record {
      placed = λ v w.
          let b = says_body pod choice_type size v p w in
          let o = choice_only v b.its_type in
          let s = o.0 in
          let k = o.2 in
          let body = take size (drop 8 pod) in
          let its : IsChoice s o.1 k o.3 o.4 body = subst (λ x. IsBody x body) o.5 b.its_body in
          let arr = drop 8 body in
          let low = λ (i : ℕ) (r : i + 4 ≤ size). word_at-take size i (drop 8 pod) r ∙ word_at-drop 8 i pod in
          let shape_is : shape ≡ shape_number s = w8 ∙ sym (low 0 (omega arith)) ∙ its.shape in
          let flags_is : flags ≡ o.1 = kept s shape_is ∙ ap (kept_flags s) (sym (low 4 (omega arith))) ∙ sym its.flags in
          let child : word_at pod 16 ≡ body_size k = sym (word_at-drop 8 0 body ∙ low 8 (omega arith)) ∙ its.values.child_size in
          let c : drop 8 arr ≡ take (size - 16) (drop 24 pod) = ap (drop 8) (inside 8 size pod (omega arith)) ∙ inside 16 (size - 8) pod (omega arith)
          ∙ ap (λ m. take m (drop 24 pod)) (omega arith) in
          let n_is : n ≡ bytes_taken s (body_size k) (length (drop 8 arr)) =
          taken s shape_is ∙ ap (λ m. bytes_taken s m (size - 16)) child ∙ ap (bytes_taken s (body_size k)) (sym (ap length c ∙ omega lengths)) in
          let all : AreElements k (o.3 ∷ o.4) (take n (drop 8 arr)) =
          subst (λ m. AreElements k (o.3 ∷ o.4) (take m (drop 8 arr))) (sym n_is)
          (subst (λ y. AreElements k (o.3 ∷ y) (take (bytes_taken s (body_size k) (length (drop 8 arr))) (drop 8 arr))) (sym its.first)
          (taken_elements s k o.3 its.all (drop 8 arr) its.values.elements)) in
          let here : take n (drop 8 arr) ≡ take n (take many (drop 24 part)) = ap (take n) c ∙ take-take n (size - 16) (drop 24 pod) (omega arith) ∙ sym there in
          let eight : take 8 arr ≡ words = ap (take 8) (inside 8 size pod (omega arith)) ∙ take-take 8 (size - 8) (drop 16 pod) (omega arith) in
          let values : words ++ els ≡ array_body k (o.3 ∷ o.4) = ap (λ x. x ++ els) (sym eight)
          ∙ array_written arr (take many (drop 24 part)) sub number n k (o.3 ∷ its.all) (o.3 ∷ o.4) (subst IsBytes (sym eight) bytes) its.values
          (w20 ∙ sym (word_at-drop 8 4 body ∙ low 12 (omega arith))) t (subst (AreElements k (o.3 ∷ o.4)) here all) in
          let head = word_bytes (16 + n) ++ word_bytes choice_type in
          let size_is = ap length values in
          let x = encoded_body (choice s o.1 k o.3 o.4) in
          is ∙ ap (λ y. y ++ (words ++ (els ++ zeros))) (f ∙ ap (λ m. head ++ (word_bytes m ++ word_bytes flags)) shape_is ∙ ap (λ m. head ++ (word_bytes (shape_number s) ++ word_bytes m)) flags_is)
          ∙ choice_parts (word_bytes (16 + n)) (word_bytes choice_type) (word_bytes (shape_number s)) (word_bytes o.1) words els zeros
          ∙ ap (λ y. word_bytes (16 + n) ++ (word_bytes choice_type ++ ((word_bytes (shape_number s) ++ (word_bytes o.1 ++ y)) ++ zeros))) values
          ∙ ap (λ m. word_bytes (16 + n) ++ (word_bytes choice_type ++ (x ++ replicate m 0))) (omega lengths)
          ∙ ap (λ m. word_bytes m ++ (word_bytes choice_type ++ (x ++ padding m))) (omega lengths) ∙ ap encoding_of (sym o.5);
      within = omega arith;
    }
  where
    choice_parts : (a b c d e f g : List ℕ) → ((a ++ b) ++ (c ++ d)) ++ (e ++ (f ++ g)) ≡ a ++ (b ++ ((c ++ (d ++ (e ++ f))) ++ g))
    choice_parts a b c d e f g = simp append_assoc

-- choices that no value says
pub no_short_choice : (pod : List ℕ) (size : ℕ) → IsPodOf pod choice_type size → size < 16 → (v : Tree) → ¬ (IsPod pod v)
no_short_choice pod size p n v pd =
    let b = says_body pod choice_type size v p pd in
    let o = choice_only v b.its_type in
    let its : IsChoice o.0 o.1 o.2 o.3 o.4 (take size (drop 8 pod)) = subst (λ x. IsBody x (take size (drop 8 pod))) o.5 b.its_body in
    absurd (omega lengths)

pub no_few_values : (pod : List ℕ) (size n shape child : ℕ) → IsPodOf pod choice_type size → 16 ≤ size → shape ≡ word_at pod 8 →
    child ≡ word_at pod 16 → ((s : Shape) → shape ≡ shape_number s → n ≡ bytes_taken s child (size - 16)) → size - 16 < n → (v : Tree) → ¬ (IsPod pod v)
no_few_values pod size n shape child p big w8 w16 taken less v pd =
    let b = says_body pod choice_type size v p pd in
    let o = choice_only v b.its_type in
    let body = take size (drop 8 pod) in
    let its : IsChoice o.0 o.1 o.2 o.3 o.4 body = subst (λ x. IsBody x body) o.5 b.its_body in
    let inside : drop 8 body ≡ take (size - 8) (drop 16 pod) =
    ap (λ m. drop 8 (take m (drop 8 pod))) (omega lengths) ∙ drop-take 8 (size - 8) (drop 8 pod)
    ∙ ap (take (size - 8)) (drop-drop 8 8 pod) in
    let shape_is : shape ≡ shape_number o.0 = w8 ∙ sym (word_at-take size 0 (drop 8 pod) (omega lengths) ∙ word_at-drop 8 0 pod) ∙ its.shape in
    let child_is : child ≡ body_size o.2 =
    w16 ∙ sym (ap (λ x. word_at x 0) inside ∙ word_at-take (size - 8) 0 (drop 16 pod) (omega lengths) ∙ word_at-drop 16 0 pod) ∙ its.values.child_size in
    let count = length_of_elements o.2 (o.3 ∷ its.all) (drop 8 (drop 8 body)) its.values.elements in
    let n_is = taken o.0 shape_is ∙ ap (λ c. bytes_taken o.0 c (size - 16)) child_is in
    let enough = (enough_bytes o.0 (body_size o.2) (length (o.3 ∷ its.all)) (size - 16) (sym (omega lengths)) its.values.elements.0 its.enough).1 in
    absurd (omega lengths)
