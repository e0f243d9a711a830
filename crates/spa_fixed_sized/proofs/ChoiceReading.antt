-- Steps of the reader of choices.
use Rattle.std.proofs.Common.{◌≡◌, ℕ, ◌+◌, ◌*◌, ◌-◌, ◌<◌, ◌≤◌, List, [], ◌∷◌, length}
use Rattle.std.proofs.Common.{take, drop, map, refl, sym, ap, ◌∙◌, subst, arith, length-drop}
use Rattle.std.proofs.lemmas.List.{drop-drop}
use Rattle.spa_format.specs.Words.{word_at}
use Rattle.spa_format.specs.Kind.{Kind, type_number, body_size, Fixed, IsFixedBody}
use Rattle.spa_format.specs.Tree.{Shape, none_choice, range_choice, step_choice, enum_choice}
use Rattle.spa_format.specs.Tree.{flags_choice, shape_number}
use Rattle.spa_format.specs.Normal.{kept_flags}
use Rattle.spa_format.specs.Pod.{AreElements, IsChoice, least_count, values_taken}
use Rattle.spa_format.specs.Faults.{LacksValues}
use Rattle.spa_format.proofs.WordLemmas.{word_at-drop}
use Rattle.std.specs.declared.alloc.Global.{Global}
use Rattle.std.specs.declared.vec.Vec.{Vec}
use Rattle.spa_utils.specs.declared.choice.ChoiceEnum.TheVariants as E
use Rattle.spa_fixed_sized.specs.declared.fault.Refusal.{Refusal}
use Rattle.spa_fixed_sized.specs.declared.fault.Refusal.TheVariants.{Short, Text, InvalidType}
use Rattle.spa_fixed_sized.specs.declared.fault.Refusal.TheVariants.{InvalidChoiceType}
use Rattle.spa_fixed_sized.specs.declared.fault.Refusal.TheVariants.{MissingChoiceValues, WrongSize}
use Rattle.spa_fixed_sized.specs.declared.fault.Refusal.TheVariants.{OutOfMemory}
use Rattle.spa_fixed_sized.specs.Reading.{AreWhole, IsOpened, ReadsAs, RefusesValues, RefusesChoice}
use Rattle.spa_fixed_sized.proofs.Arrays.{one_less}

pub array_type : (b array : List ℕ) (n : ℕ) → array ≡ drop 8 b → word_at b 12 ≡ n →
    word_at array 4 ≡ n
array_type b array n e t = ap (λ l. word_at l 4) e ∙ word_at-drop 8 4 b ∙ t

-- what the reader of arrays finds behind the first two words
pub opened : (k : Kind) (b array elements : List ℕ) → 16 ≤ length b → array ≡ drop 8 b →
    word_at array 0 ≡ body_size k → word_at b 12 ≡ type_number k → elements ≡ drop 8 array →
    IsOpened k elements b
opened k b array elements h e z t f = record {
  header = h;
  child_size = sym (word_at-drop 8 0 b) ∙ ap (λ l. word_at l 0) (sym e) ∙ z;
  child_type = t;
  behind = f ∙ ap (drop 8) e ∙ drop-drop 8 8 b;
}

pub lacks : (h : Shape) (k : Kind) (s : ℕ) (elements b : List ℕ) → IsOpened k elements b →
    s ≡ body_size k → word_at b 0 ≡ shape_number h → length elements < least_count h * s →
    LacksValues b
lacks h k s elements b o z e l =
    let d = ap length o.behind ∙ length-drop 16 b in
    let n = o.header in
    let l' : length elements < least_count h * body_size k =
    subst (λ x. length elements < least_count h * x) z l in
    record {
      header = o.header;
      shape = h;
      kind = k;
      its_shape = e;
      child_size = o.child_size;
      child_type = o.child_type;
      few = omega arith;
    }

-- a refusal of the values is one of the choice
pub refused_values : (h : Shape) (k : Kind) (s : ℕ) (elements b : List ℕ) → IsOpened k elements b →
    s ≡ body_size k → word_at b 0 ≡ shape_number h → (e : Refusal) → RefusesValues h s elements e →
    RefusesChoice k b e
refused_values h k s elements b o z w Short r = absurd r
refused_values h k s elements b o z w Text r = absurd r
refused_values h k s elements b o z w InvalidType r = absurd r
refused_values h k s elements b o z w InvalidChoiceType r = absurd r
refused_values h k s elements b o z w MissingChoiceValues r = lacks h k s elements b o z w r
refused_values h k s elements b o z w WrongSize r = absurd r
refused_values h k s elements b o z w OutOfMemory r = r

pub whole_behind : (s : ℕ) (b after : List ℕ) → 0 < s → AreWhole s b → s ≤ length b →
    after ≡ drop s b → AreWhole s after
whole_behind s b after p w l e =
    record {
      many = w.many - 1;
      count = ap length e ∙ length-drop s b ∙ one_less w.many s
          (length b) w.count l p;
    }

-- an element before others
pub before : (k : Kind) (s : ℕ) (x : Fixed) (xs : List Fixed) (b after : List ℕ) → s ≡ body_size k →
    0 < s → IsFixedBody k (take s b) x → after ≡ drop s b → AreElements k xs after →
    AreElements k (x ∷ xs) b
before k s x xs b after z p h e r = (
  subst (λ n. 0 < n) z p,
  subst (λ n. IsFixedBody k (take n b) x) z h,
  subst (λ n. AreElements k xs (drop n b)) z (subst (AreElements k xs) e r),
)

chosen : (h : Shape) (f : ℕ) (k : Kind) (x : Fixed) (xs all : List Fixed) (elements b : List ℕ) →
    IsOpened k elements b → word_at b 0 ≡ shape_number h → f ≡ kept_flags h (word_at b 4) →
    AreElements k (x ∷ all) elements → least_count h ≤ length (x ∷ all) → xs ≡ values_taken h all →
    IsChoice h f k x xs b
chosen h f k x xs all elements b o e g r n t =
    let d = length-drop 8 b in
    let z = o.header in
    record {
      header = omega arith;
      shape = e;
      flags = g;
      all = all;
      values = record {
        header = omega arith;
        child_size = word_at-drop 8 0 b ∙ o.child_size;
        child_type = word_at-drop 8 4 b ∙ o.child_type;
        elements = subst (AreElements k (x ∷ all)) (o.behind ∙ sym (drop-drop 8 8 b)) r;
      };
      enough = n;
      first = t;
    }

-- What some first elements say: nothing is asked of those behind them.

pub none_reads :
    {T : Type 0} (k : Kind) (f : T → Fixed) (x : T) (all : List Fixed) (elements : List ℕ) →
    AreElements k (f x ∷ all) elements → ReadsAs none_choice k f elements (E.None x)
none_reads k f x all elements r =
    record {
      says = λ b flags o w e. chosen none_choice flags k (f x) [] all elements b o w e r
          (omega arith) refl;
    }

pub range_reads :
    {T : Type 0} (k : Kind) (f : T → Fixed) (x a b : T) (all : List Fixed) (elements : List ℕ) →
    AreElements k (f x ∷ f a ∷ f b ∷ all) elements →
    ReadsAs range_choice k f elements (E.Range x a b)
range_reads k f x a c all elements r =
    record {
      says = λ b flags o w e. chosen range_choice flags k (f x) (f a ∷ f c ∷ [])
          (f a ∷ f c ∷ all) elements b o w e r (omega arith) refl;
    }

pub step_reads :
    {T : Type 0} (k : Kind) (f : T → Fixed) (x a b s : T) (all : List Fixed) (elements : List ℕ) →
    AreElements k (f x ∷ f a ∷ f b ∷ f s ∷ all) elements →
    ReadsAs step_choice k f elements (E.Step x a b s)
step_reads k f x a c s all elements r =
    record {
      says = λ b flags o w e. chosen step_choice flags k (f x) (f a ∷ f c ∷ f s ∷ [])
          (f a ∷ f c ∷ f s ∷ all) elements b o w e r (omega arith) refl;
    }

-- three elements before others
pub three_before : (k : Kind) (s : ℕ) (x y z : Fixed) (all : List Fixed) (b b1 b2 b3 : List ℕ) →
    s ≡ body_size k → 0 < s → IsFixedBody k (take s b) x → b1 ≡ drop s b →
    IsFixedBody k (take s b1) y → b2 ≡ drop s b1 → IsFixedBody k (take s b2) z → b3 ≡ drop s b2 →
    AreElements k all b3 → AreElements k (x ∷ y ∷ z ∷ all) b
three_before k s x y z all b b1 b2 b3 e p h0 d0 h1 d1 h2 d2 r =
    before k s x (y ∷ z ∷ all) b b1 e p h0 d0 (before k s y (z ∷ all)
    b1 b2 e p h1 d1 (before k s z all b2 b3 e p h2 d2 r))

-- behind which the others are whole
pub three_whole : (s n : ℕ) (b b1 b2 b3 : List ℕ) → 0 < s → AreWhole s b → 3 * s + n ≤ length b →
    b1 ≡ drop s b → b2 ≡ drop s b1 → b3 ≡ drop s b2 → AreWhole s b3 × (n ≤ length b3)
three_whole s n b b1 b2 b3 p w l d0 d1 d2 =
    let l1 = ap length d0 ∙ length-drop s b in
    let l2 = ap length d1 ∙ length-drop s b1 in
    let l3 = ap length d2 ∙ length-drop s b2 in
    let w1 = whole_behind s b b1 p w (omega arith) d0 in
    let w2 = whole_behind s b1 b2 p w1 (omega arith) d1 in
    (whole_behind s b2 b3 p w2 (omega arith) d2, omega arith)

-- so many elements take so many bytes
pub room : (n m s l : ℕ) → m * s ≡ l → n ≤ m → n * s ≤ l
room n m s l e h = grind arith

-- fewer elements take fewer bytes
pub too_few : (n m s l : ℕ) → m * s ≡ l → m < n → 0 < s → l < n * s
too_few n m s l e h p = grind arith

pub enum_reads :
    {T : Type 0} (k : Kind) (f : T → Fixed) (x : T) (xs : Vec T Global) (elements : List ℕ) →
    AreElements k (f x ∷ map f xs.items) elements → ReadsAs enum_choice k f elements (E.Enum x xs)
enum_reads k f x xs elements r =
    record {
      says = λ b flags o w e. chosen enum_choice flags k (f x) (map f xs.items)
          (map f xs.items) elements b o w e r (omega arith) refl;
    }

pub flags_reads :
    {T : Type 0} (k : Kind) (f : T → Fixed) (x : T) (xs : Vec T Global) (elements : List ℕ) →
    AreElements k (f x ∷ map f xs.items) elements → ReadsAs flags_choice k f elements (E.Flags x xs)
flags_reads k f x xs elements r =
    record {
      says = λ b flags o w e. chosen flags_choice flags k (f x) (map f xs.items)
          (map f xs.items) elements b o w e r (omega arith) refl;
    }
