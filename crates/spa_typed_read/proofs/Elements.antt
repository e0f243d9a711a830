-- What is taken of an array, element by element.
use Rattle.std.proofs.Common.{◌≡◌, ℕ, ◌*◌, ◌<◌, List, [], ◌∷◌, ◌++◌, length, map, refl, sym, subst, ◌∙◌, ap, arith, length-drop}
use Rattle.spa_format.specs.Kind.{Kind, Fixed, body_size, none_kind}
use Rattle.spa_format.specs.Tree.{array, array_type}
use Rattle.spa_format.specs.Tree as tree
use Rattle.spa_format.specs.Pod.{AreElements, IsArray}
use Rattle.spa_format.specs.Encoding.{encoding_of}
use Rattle.spa_format.specs.Front.{Begins, front_of}
use Rattle.spa_format.specs.Typed.{IsTyped}
use Rattle.spa_format.proofs.Back.{encoding_begins}
use Rattle.spa_format.proofs.Unique.{one_value}
use Rattle.spa_format.proofs.Elements.{kept_of_sized}
use Rattle.spa_typed_read.specs.Members.{ArrayReader, ElementsAreTheArrays, EncodingBegins, HasElements, ListsComeBack, OpensArray, TakesElement, TakesElements, single_tree}
use Rattle.spa_bodies.specs.Reading.{IsRead}
use Rattle.spa_bodies.proofs.Steps.{pod_read}

-- where one is taken, its bodies have bytes
sized : {C X : Type 0} (k : Kind) (fixed : C → Fixed) (made_of : C → X) (a b : ArrayReader) (x : X) →
    HasElements (body_size k) a → TakesElement k fixed made_of a b x → 0 < body_size k
sized none_kind fixed made_of a b x h t = absurd (omega (arith, h.units refl, t.counted))
sized _ fixed made_of a b x h t = omega arith

-- and whole elements are left behind it
fewer : {C X : Type 0} (k : Kind) (fixed : C → Fixed) (made_of : C → X) (a b : ArrayReader) (x : X) →
    HasElements (body_size k) a → TakesElement k fixed made_of a b x → HasElements (body_size k) b
fewer k fixed made_of a b x h t = record {
  whole =
      let cut = length-drop (body_size k) a.reader.left in
      let one = ap (λ n. n * body_size k) t.counted in
      omega (arith, ap length t.left, h.whole, cut, one);
  units = λ none. absurd (omega (arith, sized k fixed made_of a b x h t, none));
}

-- the bodies of what is taken, up to where none is left, are all that was there
record Bodies {C X : Type 0} (k : Kind) (fixed : C → Fixed) (made_of : C → X) (b : List ℕ) (xs : List X) : Type 0 where
  elements : List C
  are : AreElements k (map fixed elements) b
  made : xs ≡ map made_of elements

none_behind : (n : ℕ) (b : List ℕ) (c : ℕ) → c ≡ 0 → length b ≡ c * n → b ≡ []
none_behind n [] c z l = refl
none_behind n (x ∷ b) c z l = absurd (omega (arith, l, ap (λ m. m * n) z))

all_bodies : {C X : Type 0} (k : Kind) (fixed : C → Fixed) (made_of : C → X) (a last : ArrayReader) (xs : List X) →
    HasElements (body_size k) a → TakesElements k fixed made_of a xs last → last.count ≡ 0 →
    Bodies k fixed made_of a.reader.left xs
all_bodies k fixed made_of a last [] h t z =
    record { elements = []; are = none_behind (body_size k) a.reader.left a.count (sym (ap (λ r. r.count) t) ∙ z) h.whole; made = refl }
all_bodies k fixed made_of a last (x ∷ xs) h t z =
    let one = t.1 in
    let more = all_bodies k fixed made_of t.0 last xs (fewer k fixed made_of a t.0 x h one) t.2 z in
    record {
      elements = one.canonical ∷ more.elements;
      are = (sized k fixed made_of a t.0 x h one, one.says, subst (AreElements k (map fixed more.elements)) one.left more.are);
      made = ap (λ y. y ∷ xs) one.made ∙ ap (λ ys. made_of one.canonical ∷ ys) more.made;
    }

-- what follows the array stays
same_after : {C X : Type 0} (k : Kind) (fixed : C → Fixed) (made_of : C → X) (a last : ArrayReader) (xs : List X) →
    TakesElements k fixed made_of a xs last → last.reader.after ≡ a.reader.after
same_after k fixed made_of a last [] t = ap (λ r. r.reader.after) t
same_after k fixed made_of a last (x ∷ xs) t = same_after k fixed made_of t.0 last xs t.2 ∙ t.1.after

pub all_elements : {C X : Type 0} (k : Kind) (fixed : C → Fixed) (made_of : C → X) → ElementsAreTheArrays k fixed made_of
all_elements k fixed made_of input xs first last o t z =
    let all = all_bodies k fixed made_of first last xs o.elements t z in
    let value = array k (map fixed all.elements) in
    let body : IsArray k (map fixed all.elements) o.body = record {
      header = o.header;
      child_size = o.child_size;
      child_type = o.child_type;
      elements = subst (AreElements k (map fixed all.elements)) o.left all.are;
    } in
    let pod = pod_read input o.body first.reader.after array_type value o.opens refl body in
    record {
      value = value;
      begins = pod.begins;
      follows = same_after k fixed made_of first last xs t ∙ pod.follows;
      holds = record { elements = all.elements; value = refl; made = all.made };
    }

-- one more is taken
pub took_element : {C X : Type 0} (k : Kind) (fixed : C → Fixed) (made_of : C → X) (a b c : ArrayReader) (xs : List X) (x : X) →
    TakesElements k fixed made_of a xs b → TakesElement k fixed made_of b c x → TakesElements k fixed made_of a (xs ++ x ∷ []) c
took_element k fixed made_of a b c [] x t one = (c, subst (λ r. TakesElement k fixed made_of r c x) t one, refl)
took_element k fixed made_of a b c (y ∷ xs) x t one =
    (t.0, t.1, took_element k fixed made_of t.0 b c xs x t.2 one)

-- Lists that come back.

-- where what says the same is the same, so are the lists
same_list : {C : Type 0} (fixed : C → Fixed) → ((c d : C) → fixed c ≡ fixed d → c ≡ d) → (cs ds : List C) →
    map fixed cs ≡ map fixed ds → cs ≡ ds
same_list fixed same [] [] e = refl
same_list fixed same [] (d ∷ ds) e = absurd (cc e)
same_list fixed same (c ∷ cs) [] e = absurd (cc e)
same_list fixed same (c ∷ cs) (d ∷ ds) e =
    let heads : fixed c ≡ fixed d = cc e in
    let tails : map fixed cs ≡ map fixed ds = cc e in
    ap (λ x. x ∷ cs) (same c d heads) ∙ ap (λ l. d ∷ l) (same_list fixed same cs ds tails)

map_twice : {A B C : Type 0} (f : A → B) (g : B → C) (xs : List A) → map g (map f xs) ≡ map (λ x. g (f x)) xs
map_twice f g [] = refl
map_twice f g (x ∷ xs) = ap (λ l. g (f x) ∷ l) (map_twice f g xs)

-- and where each is given back, so is the list
given_back : {X : Type 0} (f : X → X) → ((x : X) → f x ≡ x) → (xs : List X) → map f xs ≡ xs
given_back f h [] = refl
given_back f h (x ∷ xs) = ap (λ y. y ∷ map f xs) (h x) ∙ ap (λ l. x ∷ l) (given_back f h xs)

-- what each of a list says
abbrev pub says_all : {C X : Type 0} → (C → Fixed) → (X → C) → List X → List Fixed
says_all fixed stands_for xs = map (λ x. fixed (stands_for x)) xs

pub comes_back : {C X : Type 0} (k : Kind) (fixed : C → Fixed) (stands_for : X → C) (made_of : C → X) →
    ((c d : C) → fixed c ≡ fixed d → c ≡ d) → ListsComeBack k fixed stands_for made_of
comes_back k fixed stands_for made_of same input xs ys first last lawful b o t z =
    let all = all_elements k fixed made_of input ys first last o t z in
    let made = all.holds in
    let says = map (λ x. fixed (stands_for x)) xs in
    let one : array k (map fixed made.elements) ≡ array k says =
    sym made.value ∙ one_value (front_of input) all.value (array k says) all.begins.pod b.pod in
    let said : map fixed made.elements ≡ says = cc one in
    let same_elements = same_list fixed same made.elements (map stands_for xs) (said ∙ sym (map_twice stands_for fixed xs)) in
    made.made ∙ ap (map made_of) same_elements ∙ map_twice stands_for made_of xs
    ∙ given_back (λ x. made_of (stands_for x)) lawful xs

pub array_begins : (k : Kind) (xs : List Fixed) (rest : List ℕ) → 0 < body_size k → EncodingBegins rest (array k xs)
array_begins k xs rest h t w =
    subst (λ ys. Begins (encoding_of (array k xs) ++ rest) (array k ys)) (kept_of_sized k xs h)
    (encoding_begins (array k xs) rest t w).1

pub no_units : {C X : Type 0} (k : Kind) (fixed : C → Fixed) (made_of : C → X) (input : List ℕ) (ys : List X)
    (first last : ArrayReader) → body_size k ≡ 0 → OpensArray k input first → TakesElements k fixed made_of first ys last → ys ≡ []
no_units k fixed made_of input [] first last z o t = refl
no_units k fixed made_of input (y ∷ ys) first last z o t =
    absurd (omega (arith, o.elements.units z, t.1.counted))

-- Values that come back.

pub single_back : {C X : Type 0} (says : C → Fixed) (stands_for : X → C) (made_of : C → X) →
    ((c d : C) → says c ≡ says d → c ≡ d) → (input rest : List ℕ) (x : X) (c : C) → made_of (stands_for x) ≡ x →
    Begins input (single_tree says stands_for x) → IsRead input rest (λ v. v ≡ tree.fixed (says c)) → made_of c ≡ x
single_back says stands_for made_of same input rest x c lawful b r =
    let one : tree.fixed (says c) ≡ tree.fixed (says (stands_for x)) =
    sym r.holds ∙ one_value (front_of input) r.value (single_tree says stands_for x) r.begins.pod b.pod in
    ap made_of (same c (stands_for x) (cc one)) ∙ lawful

pub single_begins : (x : Fixed) (rest : List ℕ) → IsTyped (tree.fixed x) → Begins (encoding_of (tree.fixed x) ++ rest) (tree.fixed x)
single_begins x rest t = (encoding_begins (tree.fixed x) rest t (record { no_nul = λ n. n; fits = λ n. n })).1
