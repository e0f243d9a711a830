-- What bytes convey in the lenient reading: one value at most, and a pod's own.
use Rattle.std.proofs.Common.{◌≡◌, ℕ, suc, ◌<◌, ◌⊎◌, inl, inr, ⊎_elim, List, [], ◌∷◌, ◌++◌, length, take, drop, get_or, refl, sym, ap, ◌∙◌, subst, arith, length-append, length-drop, length-take}
use Rattle.std.specs.Prelude.{Contains, ⊤}
use Rattle.spa_format.specs.Words.{word_at, body_of}
use Rattle.spa_format.specs.Tree.{Shape, none_choice, range_choice, step_choice, enum_choice, flags_choice, shape_number, Tree, fixed, string, bytes, bitmap, array, choice, pointer, struct, object, Trees, no_trees, member, Properties, no_properties, property, type_of, choice_type}
use Rattle.spa_format.specs.Kind.{Kind, Fixed, kind_of, type_number, body_size, IsFixedBody}
use Rattle.spa_format.specs.Pod.{IsWhole, IsBody, IsChoice, AreMembers, AreProperties, IsPod}
use Rattle.spa_format.specs.Front.{HasFront, front_of, rest_of}
use Rattle.spa_format.specs.Lenient.{HasChild, HasFixedChild, ConveysChoice, ReplacesNoneChoice, ConveysIn, ConveysBody, ConveyMembers, ConveyProperties, Conveys}
use Rattle.spa_format.proofs.Shapes.{fixed_only, string_only, bytes_only, bitmap_only, array_only, choice_only, pointer_only, struct_only, object_only}
use Rattle.spa_format.proofs.FixedKinds.{same_fixed, same_kind}
use Rattle.spa_format.proofs.Choices.{same_choice}
use Rattle.spa_format.proofs.Unique.{same_body}
use Rattle.spa_format.proofs.Fronts.{front_of_whole}

-- A None choice, or another.

pub by_shape : (s : Shape) (f : ℕ) (k : Kind) (x : Fixed) (xs : List Fixed) (b : List ℕ) → ConveysChoice s f k x xs b →
    ((s ≡ none_choice) × (f ≡ 0) × (xs ≡ []) × HasFixedChild k x b) ⊎ ((0 < shape_number s) × IsChoice s f k x xs b)
by_shape none_choice f k x xs b h = inl (refl, h.0, h.1, h.2)
by_shape range_choice f k x xs b h = inr (omega arith, h)
by_shape step_choice f k x xs b h = inr (omega arith, h)
by_shape enum_choice f k x xs b h = inr (omega arith, h)
by_shape flags_choice f k x xs b h = inr (omega arith, h)

-- One value.

-- a text ends at the first NUL
pub same_text : (s t p q : List ℕ) → ¬ (Contains s 0) → ¬ (Contains t 0) → s ++ 0 ∷ p ≡ t ++ 0 ∷ q → s ≡ t
same_text [] [] p q m n e = refl
same_text [] (y ∷ t) p q m n e = absurd (n (0, omega arith, sym (ap (λ l. get_or l 0 0) e)))
same_text (x ∷ s) [] p q m n e = absurd (m (0, omega arith, ap (λ l. get_or l 0 0) e))
same_text (x ∷ s) (y ∷ t) p q m n e =
    let e0 = ap (λ l. get_or l 0 0) e in
    let e1 = same_text s t p q (λ c. m (suc c.0, omega (arith, c.1), c.2)) (λ c. n (suc c.0, omega (arith, c.1), c.2)) (ap (drop 1) e) in
    cc

-- no body has two children
pub same_child : (t u : ℕ) (c d b : List ℕ) → HasChild t c b → HasChild u d b → (t ≡ u) × (c ≡ d)
same_child t u c d b h i = (sym h.its_type ∙ i.its_type, h.body ∙ sym i.body)

same_fixed_child : (k l : Kind) (x y : Fixed) (b : List ℕ) → HasFixedChild k x b → HasFixedChild l y b → (k ≡ l) × (x ≡ y)
same_fixed_child k l x y b h i =
    let e = same_child (type_number k) (type_number l) h.child i.child b h.there i.there in
    let j = same_kind k l e.0 in
    let says : IsFixedBody l h.child y = subst (λ c. IsFixedBody l c y) (sym e.1) i.says in
    (j, same_fixed k h.child x y h.says (subst (λ m. IsFixedBody m h.child y) (sym j) says))

same_conveyed_choice : (s t : Shape) (f g : ℕ) (k l : Kind) (x y : Fixed) (xs ys : List Fixed) (b : List ℕ) →
    ConveysChoice s f k x xs b → ConveysChoice t g l y ys b → choice s f k x xs ≡ choice t g l y ys
same_conveyed_choice s t f g k l x y xs ys b h i =
    ⊎_elim
    (λ m. ⊎_elim
    (λ n. let e = same_fixed_child k l x y b m.3 n.3 in let e0 = e.0 in let e1 = e.1 in let e2 = m.0 ∙ sym n.0 in let e3 = m.1 ∙ sym n.1 in let e4 = m.2 ∙ sym n.2 in cc)
    (λ n. absurd (let p = m.3.there.shape in let q = n.1.shape in let l = n.0 in omega arith))
    (by_shape t g l y ys b i))
    (λ m. ⊎_elim
    (λ n. absurd (let p = n.3.there.shape in let q = m.1.shape in let l = m.0 in omega arith))
    (λ n. same_choice s t f g k l x y xs ys b m.1 n.1)
    (by_shape t g l y ys b i))
    (by_shape s f k x xs b h)

-- what a choice conveys as a choice, it conveys as nothing else
never_both : (v w : Tree) (b child : List ℕ) → type_of v ≡ choice_type → ConveysBody v b → ReplacesNoneChoice w →
    HasChild (type_of w) child b → ⊥
never_both v w b child e h r c =
    let i = choice_only v e in
    let h' : ConveysBody (choice i.0 i.1 i.2 i.3 i.4) b = subst (λ t. ConveysBody t b) i.5 h in
    ⊎_elim
    (λ m.
    let t = same_child (type_number i.2) (type_of w) m.3.child child b m.3.there c in
    let j = fixed_only w i.2 (sym t.0) in
    let none : body_size (kind_of j.0) ≡ 0 = subst ReplacesNoneChoice j.2 r in
    let same = ap body_size j.1 in
    let sized = m.3.sized in
    omega arith)
    (λ m. let p = c.shape in let q = m.1.shape in let l = m.0 in omega arith)
    (by_shape i.0 i.1 i.2 i.3 i.4 b h')

-- whole bytes convey one value, where bodies do
same_in : (v w : Tree) (b : List ℕ) → ((c : List ℕ) → type_of v ≡ type_of w → ConveysBody v c → ConveysBody w c → v ≡ w) →
    Conveys b v → Conveys b w → v ≡ w
same_in v w b inner h i =
    ⊎_elim
    (λ m. ⊎_elim
    (λ n. inner (body_of b) (sym m.0 ∙ n.0) m.1 n.1)
    (λ n. absurd (never_both v w (body_of b) n.2 (sym m.0 ∙ n.0) m.1 n.1 n.3))
    i.content)
    (λ m. ⊎_elim
    (λ n. absurd (never_both w v (body_of b) m.2 (sym n.0 ∙ m.0) n.1 m.1 m.3))
    (λ n. let e = same_child (type_of v) (type_of w) m.2 n.2 (body_of b) m.3 n.3 in inner m.2 e.0 m.4 (subst (ConveysBody w) (sym e.1) n.4))
    i.content)
    h.content

-- whole bytes at the beginning are the front
pub conveying_front : (b first others : List ℕ) (t : ℕ) (R : Type 0) (P : List ℕ → Type 0) → b ≡ first ++ others →
    ConveysIn first t R P → HasFront b × (first ≡ front_of b) × (others ≡ rest_of b)
conveying_front b first others t R P e h =
    let w : IsWhole first (word_at first 4) (λ c. ⊤) = record { whole = h.whole; its_type = refl; content = tt } in
    front_of_whole b first others _ _ e w

-- no such bytes are empty
not_empty : (first others : List ℕ) (t : ℕ) (R : Type 0) (P : List ℕ → Type 0) → [] ≡ first ++ others → ConveysIn first t R P → ⊥
not_empty first others t R P e h = let x = h.whole in let l = ap length e ∙ length-append first others in omega arith

mutual
  same_conveyed : (v w : Tree) (b : List ℕ) → type_of v ≡ type_of w → ConveysBody v b → ConveysBody w b → v ≡ w
  same_conveyed (fixed x) w b e h k =
      let i = fixed_only w (kind_of x) (sym e) in
      let k' : ConveysBody (fixed i.0) b = subst (λ t. ConveysBody t b) i.2 k in
      same_body (fixed x) (fixed i.0) b (e ∙ ap type_of i.2) h k' ∙ sym i.2
  same_conveyed (string s) w b e h k =
      let i = string_only w (sym e) in
      let k' : ConveysBody (string i.0) b = subst (λ t. ConveysBody t b) i.1 k in
      ap string (same_text s i.0 h.surplus k'.surplus h.text.no_nul k'.text.no_nul (sym h.parts ∙ k'.parts)) ∙ sym i.1
  same_conveyed (bytes s) w b e h k =
      let i = bytes_only w (sym e) in
      let k' : ConveysBody (bytes i.0) b = subst (λ t. ConveysBody t b) i.1 k in
      ap bytes (sym h ∙ k') ∙ sym i.1
  same_conveyed (bitmap s) w b e h k =
      let i = bitmap_only w (sym e) in
      let k' : ConveysBody (bitmap i.0) b = subst (λ t. ConveysBody t b) i.1 k in
      ap bitmap (sym h ∙ k') ∙ sym i.1
  same_conveyed (array l xs) w b e h k =
      let i = array_only w (sym e) in
      let k' : ConveysBody (array i.0 i.1) b = subst (λ t. ConveysBody t b) i.2 k in
      same_body (array l xs) (array i.0 i.1) b refl h k' ∙ sym i.2
  same_conveyed (choice s f l x xs) w b e h k =
      let i = choice_only w (sym e) in
      let k' : ConveysBody (choice i.0 i.1 i.2 i.3 i.4) b = subst (λ t. ConveysBody t b) i.5 k in
      same_conveyed_choice s i.0 f i.1 l i.2 x i.3 xs i.4 b h k' ∙ sym i.5
  same_conveyed (pointer t a) w b e h k =
      let i = pointer_only w (sym e) in
      let k' : ConveysBody (pointer i.0 i.1) b = subst (λ t. ConveysBody t b) i.2 k in
      same_body (pointer t a) (pointer i.0 i.1) b refl h k' ∙ sym i.2
  same_conveyed (struct vs) w b e h k =
      let i = struct_only w (sym e) in
      let k' : ConveysBody (struct i.0) b = subst (λ t. ConveysBody t b) i.1 k in
      ap struct (same_members vs i.0 b h k') ∙ sym i.1
  same_conveyed (object t n ps) w b e h k =
      let i = object_only w (sym e) in
      let k' : ConveysBody (object i.0 i.1 i.2) b = subst (λ t. ConveysBody t b) i.3 k in
      let e0 = h.1 ∙ sym k'.1 in
      let e1 = h.2 ∙ sym k'.2 in
      let e2 = same_properties ps i.2 (drop 8 b) h.3 k'.3 in
      let e3 = i.3 in
      cc

  same_members : (vs ws : Trees) (b : List ℕ) → ConveyMembers vs b → ConveyMembers ws b → vs ≡ ws
  same_members no_trees no_trees b h k = refl
  same_members no_trees (member w ws) b h k = absurd (not_empty k.0 k.1 _ _ _ (sym h ∙ k.2) k.3)
  same_members (member v vs) no_trees b h k = absurd (not_empty h.0 h.1 _ _ _ (sym k ∙ h.2) h.3)
  same_members (member v vs) (member w ws) b h k =
      let f = conveying_front b h.0 h.1 _ _ _ h.2 h.3 in
      let g = conveying_front b k.0 k.1 _ _ _ k.2 k.3 in
      let here : Conveys h.0 w = subst (λ l. Conveys l w) (g.1 ∙ sym f.1) k.3 in
      let there : ConveyMembers ws h.1 = subst (ConveyMembers ws) (g.2 ∙ sym f.2) k.4 in
      let e0 = same_in v w h.0 (same_conveyed v w) h.3 here in
      let e1 = same_members vs ws h.1 h.4 there in
      cc

  same_properties : (ps qs : Properties) (b : List ℕ) → ConveyProperties ps b → ConveyProperties qs b → ps ≡ qs
  same_properties no_properties no_properties b h k = refl
  same_properties no_properties (property q f w qs) b h k = absurd (let e = ap length h in let l = k.0 in omega arith)
  same_properties (property p f v ps) no_properties b h k = absurd (let e = ap length k in let l = h.0 in omega arith)
  same_properties (property p f v ps) (property q g w qs) b h k =
      let a = conveying_front (drop 8 b) h.3 h.4 _ _ _ h.5 h.6 in
      let c = conveying_front (drop 8 b) k.3 k.4 _ _ _ k.5 k.6 in
      let here : Conveys h.3 w = subst (λ l. Conveys l w) (c.1 ∙ sym a.1) k.6 in
      let there : ConveyProperties qs h.4 = subst (ConveyProperties qs) (c.2 ∙ sym a.2) k.7 in
      let e0 = same_in v w h.3 (same_conveyed v w) h.6 here in
      let e1 = same_properties ps qs h.4 h.7 there in
      let e2 = h.1 ∙ sym k.1 in
      let e3 = h.2 ∙ sym k.2 in
      cc

pub one_value : (b : List ℕ) (v w : Tree) → Conveys b v → Conveys b w → v ≡ w
one_value b v w h k = same_in v w b (same_conveyed v w) h k

-- A pod conveys its value.

conveys_as : (b : List ℕ) (t : ℕ) (R : Type 0) (P Q : List ℕ → Type 0) → (P (body_of b) → Q (body_of b)) → IsWhole b t P → ConveysIn b t R Q
conveys_as b t R P Q f h = record { whole = h.whole; content = inl (h.its_type, f h.content) }

none_choice_conveyed : (f : ℕ) (k : Kind) (x : Fixed) (xs : List Fixed) (b : List ℕ) → IsChoice none_choice f k x xs b →
    ConveysChoice none_choice f k x xs b
none_choice_conveyed f k x xs b h =
    let behind = drop 8 b in
    let first = h.values.elements.1 in
    let n = h.values.child_size in
    let l0 = length-drop 8 b in
    let l1 = h.values.header in
    let l2 = length-take (body_size k) (drop 8 behind) in
    let l3 = first.whole in
    let there : HasChild (type_number k) (body_of behind) b =
    record { headers = omega arith; shape = h.shape; its_type = h.values.child_type; whole = omega arith; body = refl } in (
      h.flags,
      h.first,
      record { sized = h.values.elements.0; child = body_of behind; there = there; says = subst (λ m. IsFixedBody k (take m (drop 8 behind)) x) (sym n) first },
    )

pub choice_conveyed : (s : Shape) (f : ℕ) (k : Kind) (x : Fixed) (xs : List Fixed) (b : List ℕ) → IsChoice s f k x xs b →
    ConveysChoice s f k x xs b
choice_conveyed none_choice f k x xs b h = none_choice_conveyed f k x xs b h
choice_conveyed range_choice f k x xs b h = h
choice_conveyed step_choice f k x xs b h = h
choice_conveyed enum_choice f k x xs b h = h
choice_conveyed flags_choice f k x xs b h = h

mutual
  body_conveyed : (v : Tree) (b : List ℕ) → IsBody v b → ConveysBody v b
  body_conveyed (fixed x) b h = h
  body_conveyed (string s) b h = record { text = h.0; surplus = []; parts = h.1; before = s; last = h.1 }
  body_conveyed (bytes s) b h = h
  body_conveyed (bitmap s) b h = h
  body_conveyed (array k xs) b h = h
  body_conveyed (choice s f k x xs) b h = choice_conveyed s f k x xs b h
  body_conveyed (pointer t a) b h = h
  body_conveyed (struct vs) b h = members_conveyed vs b h
  body_conveyed (object t i ps) b h = (h.0, h.1, h.2, properties_conveyed ps (drop 8 b) h.3)

  members_conveyed : (vs : Trees) (b : List ℕ) → AreMembers vs b → ConveyMembers vs b
  members_conveyed no_trees b h = h
  members_conveyed (member v vs) b h =
      (h.0, h.1, h.2, conveys_as h.0 _ _ _ _ (body_conveyed v (body_of h.0)) h.3, members_conveyed vs h.1 h.4)

  properties_conveyed : (ps : Properties) (b : List ℕ) → AreProperties ps b → ConveyProperties ps b
  properties_conveyed no_properties b h = h
  properties_conveyed (property k f v ps) b h =
      (h.0, h.1, h.2, h.3, h.4, h.5, conveys_as h.3 _ _ _ _ (body_conveyed v (body_of h.3)) h.6, properties_conveyed ps h.4 h.7)

pub pod_conveys : (b : List ℕ) (v : Tree) → IsPod b v → Conveys b v
pod_conveys b v h = conveys_as b _ _ _ _ (body_conveyed v (body_of b)) h
