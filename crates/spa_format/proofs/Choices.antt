-- The bodies of choices and of pointers.
use Rattle.std.proofs.Common.{◌≡◌, ℕ, ◌+◌, ◌<◌, ◌≤◌, ◌^◌, inr, ⊎_elim, List, [], ◌∷◌, ◌++◌, length, drop, refl, sym, ap, ◌∙◌, subst, arith, length-append, length-drop, length-take, append_assoc}
use Rattle.std.proofs.lemmas.List.{drop_at, take_all, nil_from_length}
use Rattle.spa_format.specs.Words.{word_at, word_bytes, wide_at, wide_bytes}
use Rattle.spa_format.specs.Kind.{Kind, body_size, Fixed, fixed_body}
use Rattle.spa_format.specs.Tree.{Shape, none_choice, range_choice, step_choice, enum_choice, flags_choice, shape_number, choice, pointer}
use Rattle.spa_format.specs.Normal.{kept_flags}
use Rattle.spa_format.specs.Pod.{IsArray, least_count, values_taken, IsChoice, IsPointer}
use Rattle.spa_format.specs.Encoding.{fixed_bodies, array_body, encoded_body}
use Rattle.spa_format.specs.Typed.{IsBytes, AreOf, IsCount}
use Rattle.spa_format.proofs.WordLemmas.{length-word_bytes, word_inside, wide_last, word_fits, wide_fits, IsBytes-drop}
use Rattle.spa_format.proofs.Elements.{same_array, same_array_length, array_length, array_back, typed_array, kept_of_sized, fewer_bodies, AreOf-take}
use Rattle.spa_format.proofs.Encodings.{length-behind_two}
pub use Rattle.spa_format.proofs.Encodings.{length-pointer as pointer_length}

pub same_shape : (s t : Shape) → shape_number s ≡ shape_number t → s ≡ t
same_shape none_choice none_choice e = refl
same_shape range_choice range_choice e = refl
same_shape step_choice step_choice e = refl
same_shape enum_choice enum_choice e = refl
same_shape flags_choice flags_choice e = refl
same_shape _ _ e = absurd (omega arith)

pub shape_fits : (s : Shape) → shape_number s < 5
shape_fits none_choice = omega arith
shape_fits range_choice = omega arith
shape_fits step_choice = omega arith
shape_fits enum_choice = omega arith
shape_fits flags_choice = omega arith

pub flags_kept_once : (s : Shape) (f : ℕ) → kept_flags s (kept_flags s f) ≡ kept_flags s f
flags_kept_once none_choice f = refl
flags_kept_once range_choice f = refl
flags_kept_once step_choice f = refl
flags_kept_once enum_choice f = refl
flags_kept_once flags_choice f = refl

flags_fit : (s : Shape) (f : ℕ) → f < 2 ^ 32 → kept_flags s f < 2 ^ 32
flags_fit none_choice f l = omega arith
flags_fit range_choice f l = l
flags_fit step_choice f l = l
flags_fit enum_choice f l = l
flags_fit flags_choice f l = l

-- the values that a choice takes are some of those that are there,
pub fewer_taken : (s : Shape) (xs : List Fixed) → length (fixed_bodies (values_taken s xs)) ≤ length (fixed_bodies xs)
fewer_taken none_choice xs = fewer_bodies 0 xs
fewer_taken range_choice xs = fewer_bodies 2 xs
fewer_taken step_choice xs = fewer_bodies 3 xs
fewer_taken enum_choice xs = omega arith
fewer_taken flags_choice xs = omega arith

AreOf-values_taken : (s : Shape) (k : Kind) (xs : List Fixed) → AreOf k xs → AreOf k (values_taken s xs)
AreOf-values_taken none_choice k xs h = tt
AreOf-values_taken range_choice k xs h = AreOf-take k 2 xs h
AreOf-values_taken step_choice k xs h = AreOf-take k 3 xs h
AreOf-values_taken enum_choice k xs h = h
AreOf-values_taken flags_choice k xs h = h

-- as many as it has to,
count_of_taken : (s : Shape) (xs : List Fixed) → least_count s ≤ length xs + 1 → IsCount s (length (values_taken s xs))
count_of_taken none_choice xs h = refl
count_of_taken range_choice xs h = omega (arith, length-take 2 xs)
count_of_taken step_choice xs h = omega (arith, length-take 3 xs)
count_of_taken enum_choice xs h = tt
count_of_taken flags_choice xs h = tt

-- and all of a list that is as long as that.
all_taken : (s : Shape) (xs : List Fixed) → IsCount s (length xs) → xs ≡ values_taken s xs
all_taken none_choice xs h = nil_from_length xs h
all_taken range_choice xs h = sym (take_all 2 xs (omega arith))
all_taken step_choice xs h = sym (take_all 3 xs (omega arith))
all_taken enum_choice xs h = refl
all_taken flags_choice xs h = refl

enough_of_count : (s : Shape) (n : ℕ) → IsCount s n → least_count s ≤ n + 1
enough_of_count none_choice n h = omega arith
enough_of_count range_choice n h = omega arith
enough_of_count step_choice n h = omega arith
enough_of_count enum_choice n h = omega arith
enough_of_count flags_choice n h = omega arith

pub same_choice : (s t : Shape) (f g : ℕ) (k l : Kind) (x y : Fixed) (xs ys : List Fixed) (b : List ℕ) → IsChoice s f k x xs b → IsChoice t g l y ys b → choice s f k x xs ≡ choice t g l y ys
same_choice s t f g k l x y xs ys b h i =
    let e0 = same_shape s t (sym h.shape ∙ i.shape) in
    let e1 = same_array k l (x ∷ h.all) (y ∷ i.all) (drop 8 b) h.values i.values in
    let e2 = e1.0 in
    let e3 = e1.1 in
    let e4 = h.flags in
    let e5 = i.flags in
    let e6 = h.first in
    let e7 = i.first in
    cc

pub short_choice : (s : Shape) (f : ℕ) (k : Kind) (x : Fixed) (xs : List Fixed) (b : List ℕ) → IsChoice s f k x xs b → length (encoded_body (choice s f k x xs)) ≤ length b
short_choice s f k x xs b h =
    let e0 = length-behind_two (shape_number s) f (array_body k (x ∷ xs)) in
    let e1 = array_length k (x ∷ xs) in
    let e2 = array_length k (x ∷ h.all) in
    let e3 = same_array_length k (x ∷ h.all) (drop 8 b) h.values in
    let e4 = length-drop 8 b in
    let e5 = length-append (fixed_body x) (fixed_bodies xs) in
    let e6 = length-append (fixed_body x) (fixed_bodies h.all) in
    let e7 : length (fixed_bodies xs) ≤ length (fixed_bodies h.all) = subst (λ l. length (fixed_bodies l) ≤ length (fixed_bodies h.all)) (sym h.first) (fewer_taken s h.all) in
    let l = h.header in
    omega arith

pub choice_back : (s : Shape) (f : ℕ) (k : Kind) (x : Fixed) (xs : List Fixed) → f < 2 ^ 32 → 0 < body_size k → AreOf k (x ∷ xs) → IsCount s (length xs) → IsChoice s (kept_flags s f) k x xs (encoded_body (choice s f k x xs))
choice_back s f k x xs lf lk h n =
    let a = array_body k (x ∷ xs) in
    let m = word_bytes (shape_number s) in
    let e2 = length-word_bytes (shape_number s) in
    let e3 = length-word_bytes f in
    let l = length-behind_two (shape_number s) f a in
    let w : word_at (m ++ (word_bytes f ++ a)) 4 ≡ f = word_inside m a f 4 e2 lf in
    let d : drop 8 (m ++ (word_bytes f ++ a)) ≡ a = ap (drop 8) (sym (append_assoc m (word_bytes f) a)) ∙ drop_at (m ++ word_bytes f) a 8 (length-append m (word_bytes f) ∙ omega arith) in
    let v : IsArray k (x ∷ xs) a = subst (λ ys. IsArray k ys a) (kept_of_sized k (x ∷ xs) lk) (array_back k (x ∷ xs) h) in
    record {
      header = omega arith;
      shape = word_inside [] (word_bytes f ++ a) (shape_number s) 0 refl (let z = shape_fits s in omega arith);
      flags = ap (kept_flags s) (sym w);
      all = xs;
      values = subst (IsArray k (x ∷ xs)) (sym d) v;
      enough = let z = enough_of_count s (length xs) n in omega arith;
      first = all_taken s xs n;
    }

pub typed_choice : (s : Shape) (f : ℕ) (k : Kind) (x : Fixed) (xs : List Fixed) (b : List ℕ) → IsBytes b → IsChoice s f k x xs b → (f < 2 ^ 32) × (0 < body_size k) × AreOf k (x ∷ xs) × IsCount s (length xs)
typed_choice s f k x xs b y h =
    let a = typed_array k (x ∷ h.all) (drop 8 b) (IsBytes-drop 8 b y) h.values in (
      subst (λ n. n < 2 ^ 32) (sym h.flags) (flags_fit s (word_at b 4) (word_fits b 4 y)),
      h.values.elements.0,
      (a.0, a.1, subst (AreOf k) (sym h.first) (AreOf-values_taken s k h.all a.2)),
      subst (λ ys. IsCount s (length ys)) (sym h.first) (count_of_taken s h.all (let e = h.enough in omega arith)),
    )

pub normal_choice : (s : Shape) (f : ℕ) (k : Kind) (x : Fixed) (xs : List Fixed) (b : List ℕ) → IsChoice s f k x xs b → kept_flags s f ≡ f
normal_choice s f k x xs b h = ap (kept_flags s) h.flags ∙ flags_kept_once s (word_at b 4) ∙ sym h.flags

-- Pointers.

pub same_pointer : (t u a c : ℕ) (b : List ℕ) → IsPointer t a b → IsPointer u c b → pointer t a ≡ pointer u c
same_pointer t u a c b h i =
    let e = h.0 ∙ sym i.0 in
    let f : a ≡ c =
    ⊎_elim
    (λ m. ⊎_elim (λ n. m.1 ∙ sym n.1) (λ n. absurd (let p = m.0 in let q = n.0 in omega arith)) i.1)
    (λ m. ⊎_elim (λ n. absurd (let p = m.0 in let q = n.0 in omega arith)) (λ n. m.1 ∙ sym n.1) i.1)
    h.1 in
    cc

-- a pointer's body has 12 or 16 bytes, which pads to 16
pub pointer_size : (t a : ℕ) (b : List ℕ) → IsPointer t a b → (12 ≤ length b) × (length b ≤ 16)
pointer_size t a b h = ⊎_elim (λ m. let p = m.0 in (omega arith, omega arith)) (λ m. let p = m.0 in (omega arith, omega arith)) h.1

pub pointer_back : (t a : ℕ) → t < 2 ^ 32 → a < 2 ^ 64 → IsPointer t a (encoded_body (pointer t a))
pointer_back t a lt la =
    let m = word_bytes t ++ word_bytes 0 in
    let e2 = length-word_bytes t in
    let e3 = length-word_bytes 0 in
    let e : encoded_body (pointer t a) ≡ m ++ wide_bytes a = sym (append_assoc (word_bytes t) (word_bytes 0) (wide_bytes a)) in
    let w : wide_at (encoded_body (pointer t a)) 8 ≡ a = ap (λ l. wide_at l 8) e ∙ wide_last m a 8 (length-append (word_bytes t) (word_bytes 0) ∙ omega arith) la in
    (sym (word_inside [] (word_bytes 0 ++ wide_bytes a) t 0 refl lt), inr (pointer_length t a, sym w))

pub typed_pointer : (t a : ℕ) (b : List ℕ) → IsBytes b → IsPointer t a b → (t < 2 ^ 32) × (a < 2 ^ 64)
typed_pointer t a b y h =
    let at = word_fits b 8 y in
    let at_wide = wide_fits b 8 y in (
      subst (λ n. n < 2 ^ 32) (sym h.0) (word_fits b 0 y),
      ⊎_elim (λ m. let p = m.1 in let r : a < 2 ^ 64 = omega arith in r) (λ m. let p = m.1 in let r : a < 2 ^ 64 = omega arith in r) h.1,
    )
