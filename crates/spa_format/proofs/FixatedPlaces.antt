-- Which places of an object's bytes fixation changes.
use Rattle.std.proofs.Common.{◌≡◌, ℕ, ◌+◌, ◌-◌, ◌<◌, ◌≤◌, inl, inr, List, [], ◌∷◌, ◌++◌, length, take, drop, refl, sym, ap, ◌∙◌, subst, arith, length-append, length-drop, append_assoc, true, false}
use Rattle.std.specs.Prelude.{if◌then◌else◌, Bool, ◌⊎◌, IsTrue, slice_index, nat_eq, ◌&&◌}
use Rattle.std.proofs.lemmas.Bool.{cases_lt}
use Rattle.std.proofs.lemmas.Bool.Decides.{leb_tells}
use Rattle.std.proofs.lemmas.List.{take-append-drop, drop-drop, drop_at, take_at, length-take-le, get_or_append_left, get_or-append_right, get_or-take, get_or-drop}
use Rattle.spa_format.specs.Words.{word_at, word_bytes}
use Rattle.spa_format.specs.Tree.{choice_type}
use Rattle.spa_format.specs.Walk.{extent_behind, property_walk, properties_of, HasObject}
use Rattle.spa_format.specs.Fixation.{may_fixate, is_fixable, none_choice_pod, fixated_property, fixated_properties, fixated_bytes, IsShapePlace, IsFixatedPlace}
use Rattle.spa_format.proofs.WordLemmas.{word_inside, word_at-append, word_at-drop, length-word_bytes}
use Rattle.spa_format.proofs.WalkLemmas.{walk_behind-there, walk_behind-end, length-take_extent}
use Rattle.spa_format.proofs.FixationLemmas.{never, walk_induction, fixated_properties-there, fixated_properties-end, length-first_fixated, length-fixated_properties}
use Rattle.spa_format.proofs.FixatedObjects.{object_parts}

-- a property with its shape word set, by places
pub shape_word-set : (p : List ℕ) → 16 ≤ length p →
    take 8 p ++ none_choice_pod (drop 8 p) ≡ take 16 p ++ (word_bytes 0 ++ drop 20 p)
shape_word-set p l =
    let h = take 8 p in
    let q = drop 8 p in
    let a = take 8 q in
    let d = length-drop 8 p in
    let n8 : length h ≡ 8 = length-take-le 8 p (omega arith) in
    let m8 : length a ≡ 8 = length-take-le 8 q (omega arith) in
    let n16 : length (h ++ a) ≡ 16 = length-append h a ∙ omega arith in
    let whole : p ≡ (h ++ a) ++ drop 8 q =
    sym (take-append-drop 8 p)
    ∙ ap (λ z. h ++ z) (sym (take-append-drop 8 q))
    ∙ sym (append_assoc h a (drop 8 q)) in
    let t : take 16 p ≡ h ++ a = ap (take 16) whole ∙ take_at (h ++ a) (drop 8 q) 16 n16 in
    sym (append_assoc h a (word_bytes 0 ++ drop 12 q))
    ∙ ap (λ z. z ++ (word_bytes 0 ++ drop 12 q)) (sym t)
    ∙ ap (λ z. take 16 p ++ (word_bytes 0 ++ z)) (drop-drop 12 8 p)

pub when_fixable : (p : List ℕ) → is_fixable p ≡ true → 16 ≤ length p →
    fixated_property p ≡ take 16 p ++ (word_bytes 0 ++ drop 20 p)
when_fixable p h l = ap (λ t. if t then take 8 p ++ none_choice_pod (drop 8 p) else p) h ∙ shape_word-set p l

-- a property that fixation changes has room for a shape word
pub fixable_size : (p : List ℕ) → is_fixable p ≡ true → length p ≡ extent_behind 8 p → 24 ≤ length p
fixable_size p h l =
    elim (leb_tells 16 (word_at (drop 8 p) 0)) [
      | inl q ↦ let e : word_at (drop 8 p) 0 ≡ word_at p 8 = word_at-drop 8 0 p in let le = q.1 in omega arith
      | inr q ↦
          let f = may_fixate (word_at p 4) in
          let t = nat_eq (word_at (drop 8 p) 4) choice_type in
          let e : is_fixable p ≡ false = ap (λ z. f && (t && z)) q.0 ∙ never f t in
          let w : true ≡ false = sym h ∙ e in
          absurd (cc)
    ]

shape_word : (p : List ℕ) → is_fixable p ≡ true → 24 ≤ length p → word_at (fixated_property p) 16 ≡ 0
shape_word p h l =
    ap (λ b. word_at b 16) (when_fixable p h (omega arith))
    ∙ word_inside (take 16 p) (drop 20 p) 0 16 (length-take-le 16 p (omega arith)) (omega arith)

same_index : (t : Bool) (a p : List ℕ) (i : ℕ) → (t ≡ true → slice_index a i ≡ slice_index p i) →
    slice_index (if t then a else p) i ≡ slice_index p i
same_index true a p i h = h refl
same_index false a p i h = refl

-- every other byte of a property stays
other_byte : (p : List ℕ) (i : ℕ) → length p ≡ extent_behind 8 p →
    (is_fixable p ≡ true → (i < 16) ⊎ (20 ≤ i)) → slice_index (fixated_property p) i ≡ slice_index p i
other_byte p i l h = same_index (is_fixable p) (take 8 p ++ none_choice_pod (drop 8 p)) p i (λ f.
    let big = fixable_size p f l in
    let a = take 16 p in
    let n16 : length a ≡ 16 = length-take-le 16 p (omega arith) in
    let n4 = length-word_bytes 0 in
    let n20 : length (a ++ word_bytes 0) ≡ 20 = length-append a (word_bytes 0) ∙ omega arith in
    ap (λ z. slice_index z i) (shape_word-set p (omega arith)) ∙ elim (h f) [
      | inl q ↦ get_or_append_left a (word_bytes 0 ++ drop 20 p) 0 i (omega arith) ∙ get_or-take 16 p i 0 q
      | inr q ↦
          let e : 20 + (i - 20) ≡ i = omega arith in
          ap (λ z. slice_index z i) (sym (append_assoc a (word_bytes 0) (drop 20 p)))
          ∙ get_or-append_right (a ++ word_bytes 0) (drop 20 p) 20 i 0 n20 q
          ∙ get_or-drop 20 p (i - 20) 0
          ∙ ap (slice_index p) e
    ])

not_past : (at : ℕ) (ps : List (List ℕ)) (i : ℕ) → IsShapePlace at ps i → at ≤ i
not_past at [] i h = absurd h
not_past at (p ∷ ps) i h =
    elim h [
      | inl q ↦ let e = q.1 in omega arith
      | inr q ↦ let l = not_past (at + length p) ps i q in omega arith
    ]

-- the shape words that are set, where the first property is at `at` and t follows the last one
abbrev AreSet : List ℕ → Type 0
AreSet b = (at i : ℕ) (t : List ℕ) → IsShapePlace at (property_walk b) (at + i) → word_at (fixated_properties b ++ t) i ≡ 0

are_set : (b : List ℕ) → AreSet b
are_set = walk_induction AreSet
    (λ b l at i t h. absurd (subst (λ q. IsShapePlace at q (at + i)) (walk_behind-end 8 b l) h))
    (λ b l ih at i t h.
    let n = extent_behind 8 b in
    let p = take n b in
    let r = fixated_properties (drop n b) in
    let np : length p ≡ n = length-take-le n b l in
    let nf = length-first_fixated n b refl l in
    let w = length-take_extent 8 n b refl l in
    let h' : (IsTrue (is_fixable p) × (at + i ≡ at + 16)) ⊎ IsShapePlace (at + length p) (property_walk (drop n b)) (at + i) =
    subst (λ q. IsShapePlace at q (at + i)) (walk_behind-there 8 b l) h in
    ap (λ z. word_at (z ++ t) i) (fixated_properties-there b l)
    ∙ ap (λ z. word_at z i) (append_assoc (fixated_property p) r t)
    ∙ elim h' [
      | inl q ↦
          let e = q.1 in
          let i16 : i ≡ 16 = omega arith in
          let big = fixable_size p q.0 w in
          ap (word_at (fixated_property p ++ (r ++ t))) i16
          ∙ word_at-append (fixated_property p) (r ++ t) 16 (omega arith)
          ∙ shape_word p q.0 big
      | inr q ↦
          let le = not_past (at + length p) (property_walk (drop n b)) (at + i) q in
          let j = i - n in
          let ei : i ≡ n + j = omega arith in
          let ea : at + i ≡ (at + length p) + j = omega arith in
          ap (word_at (fixated_property p ++ (r ++ t))) ei
          ∙ sym (word_at-drop n j (fixated_property p ++ (r ++ t)))
          ∙ ap (λ z. word_at z j) (drop_at (fixated_property p) (r ++ t) n nf)
          ∙ ih (at + length p) j t (subst (IsShapePlace (at + length p) (property_walk (drop n b))) ea q)
    ])

-- no shape word that fixation sets covers this place
abbrev IsOther : ℕ → List (List ℕ) → ℕ → Type 0
IsOther at ps i = (k : ℕ) → IsShapePlace at ps k → (i < k) ⊎ (k + 4 ≤ i)

abbrev OthersStay : List ℕ → Type 0
OthersStay b = (at i : ℕ) → IsOther at (property_walk b) (at + i) → slice_index (fixated_properties b) i ≡ slice_index b i

relative : (at i k : ℕ) → k ≡ at + 16 → (at + i < k) ⊎ (k + 4 ≤ at + i) → (i < 16) ⊎ (20 ≤ i)
relative at i k e h = elim h [
  | inl q ↦ inl (omega arith)
  | inr q ↦ inr (omega arith)
]

others : (b : List ℕ) → OthersStay b
others = walk_induction OthersStay
    (λ b l at i h. ap (λ z. slice_index z i) (fixated_properties-end b l))
    (λ b l ih at i h.
    let n = extent_behind 8 b in
    let p = take n b in
    let r = fixated_properties (drop n b) in
    let np : length p ≡ n = length-take-le n b l in
    let nf = length-first_fixated n b refl l in
    let w = length-take_extent 8 n b refl l in
    let h' : IsOther at (p ∷ property_walk (drop n b)) (at + i) =
    subst (λ q. IsOther at q (at + i)) (walk_behind-there 8 b l) h in
    ap (λ z. slice_index z i) (fixated_properties-there b l) ∙ elim (cases_lt i n) [
      | inl q ↦
          get_or_append_left (fixated_property p) r 0 i (omega arith)
          ∙ other_byte p i w (λ f. relative at i (at + 16) refl (h' (at + 16) (inl (f, refl))))
          ∙ get_or-take n b i 0 q
      | inr q ↦
          let j = i - n in
          let ei : n + j ≡ i = omega arith in
          let ea : at + i ≡ (at + length p) + j = omega arith in
          get_or-append_right (fixated_property p) r n i 0 nf q
          ∙ ih (at + length p) j (subst (IsOther (at + length p) (property_walk (drop n b))) ea (λ k g. h' k (inr g)))
          ∙ get_or-drop n b j 0
          ∙ ap (slice_index b) ei
    ])

-- fixation of the object at the front of an input sets the shape words
pub shape_words_set : (b : List ℕ) (i : ℕ) → HasObject b → IsFixatedPlace b i → word_at (fixated_bytes b) i ≡ 0
shape_words_set b i o h =
    let k = object_parts b o.front o.parts in
    let a = take 16 b in
    let ps = properties_of b in
    let f = fixated_properties ps in
    let d = drop (8 + word_at b 0) b in
    let le = not_past 16 (property_walk ps) i h in
    let j = i - 16 in
    let ei : i ≡ 16 + j = omega arith in
    ap (word_at (a ++ (f ++ d))) ei
    ∙ sym (word_at-drop 16 j (a ++ (f ++ d)))
    ∙ ap (λ z. word_at z j) (drop_at a (f ++ d) 16 k.beginning)
    ∙ are_set ps 16 j d (subst (IsShapePlace 16 (property_walk ps)) ei h)

pub others_stay : (b : List ℕ) (i : ℕ) → HasObject b →
    ((k : ℕ) → IsFixatedPlace b k → (i < k) ⊎ (k + 4 ≤ i)) → slice_index (fixated_bytes b) i ≡ slice_index b i
others_stay b i o h =
    let k = object_parts b o.front o.parts in
    let a = take 16 b in
    let ps = properties_of b in
    let f = fixated_properties ps in
    let d = drop (8 + word_at b 0) b in
    let nf = length-fixated_properties ps in
    let na = k.beginning in
    elim (cases_lt i 16) [
      | inl q ↦ get_or_append_left a (f ++ d) 0 i (omega arith) ∙ get_or-take 16 b i 0 q
      | inr q ↦
          let j = i - 16 in
          let ei : i ≡ 16 + j = omega arith in
          let first = get_or-append_right a (f ++ d) 16 i 0 na q in
          let same = ap (λ z. slice_index z i) k.parts ∙ get_or-append_right a (ps ++ d) 16 i 0 na q in
          first ∙ elim (cases_lt j (length f)) [
            | inl s ↦ get_or_append_left f d 0 j s ∙ others ps 16 j (subst (IsOther 16 (property_walk ps)) ei h) ∙ sym (get_or_append_left ps d 0 j (omega arith))
            | inr s ↦ get_or-append_right f d (length f) j 0 refl s ∙ sym (get_or-append_right ps d (length f) j 0 (sym nf) s)
          ] ∙ sym same
    ]
