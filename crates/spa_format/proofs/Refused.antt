-- Where a fault stands, the input is refused.
use Rattle.std.proofs.Common.{◌≡◌, ◌≢◌, ℕ, ◌+◌, ◌<◌, ◌≤◌, List, [], ◌∷◌, ◌++◌, length, drop, sym, ap, ◌∙◌, subst, arith, length-drop, ⊎_elim}
use Rattle.spa_format.specs.Words.{word_at, body_of}
use Rattle.spa_format.specs.Kind.{Kind, type_number, body_size, Fixed, kind_of}
use Rattle.spa_format.specs.Tree.{Shape, Tree, fixed, string, bytes, bitmap, array, choice, pointer, struct, object, Trees, no_trees, member, Properties, no_properties, property, type_of}
use Rattle.spa_format.specs.Pod.{IsArray, IsChoice, least_count, IsBody, AreMembers, AreProperties, IsPod}
use Rattle.spa_format.specs.Front.{Begins, IsRefused}
use Rattle.spa_format.specs.Faults.{Fault, Short, Text, InvalidType, InvalidChoiceType, MissingChoiceValues, WrongSize, IsUnknownType, IsInvalidType, no_type, of_elements, of_values, IsWrongArray, IsWrongSize, of_fixed, of_array, of_choice, of_pointer, short_array, short_choice, short_object, LacksValues, StandsAtFront, Stands, at_front, in_member, in_key, in_property}
use Rattle.spa_format.proofs.Fronts.{front_of_whole, of_whole_front}
use Rattle.spa_format.proofs.Shapes.{fixed_only, string_only, array_only, choice_only, pointer_only, struct_only, object_only}
use Rattle.spa_format.proofs.FixedKinds.{same_kind, number_is}
use Rattle.spa_format.proofs.Elements.{length_of_elements}
use Rattle.spa_format.proofs.Choices.{same_shape, shape_fits}
use Rattle.spa_format.proofs.WordLemmas.{word_at-drop}
use Rattle.std.proofs.lemmas.Nat.{mul-le}
use Rattle.std.proofs.Common.{◌*◌}
use Rattle.spa_format.proofs.Sequences.{members_left, props_left}

-- what begins an input, without its front
pub begun : (b : List ℕ) (v : Tree) → Begins b v → (word_at b 4 ≡ type_of v) × IsBody v (body_of b)
begun b v h = of_whole_front b (type_of v) (IsBody v) h.pod

known : (v : Tree) → ¬ (IsUnknownType (type_of v))
known (fixed x) h = let i = number_is (kind_of x) in grind arith
known (string s) h = grind arith
known (bytes s) h = grind arith
known (bitmap s) h = grind arith
known (array k xs) h = grind arith
known (choice s f k x xs) h = grind arith
known (pointer t a) h = grind arith
known (struct vs) h = grind arith
known (object t i ps) h = grind arith

-- an array's body is no wrong one, for any kind
array_is_right : (k l : Kind) (xs : List Fixed) (b : List ℕ) → IsArray l xs b → ¬ (IsWrongArray k b)
array_is_right k l xs b h w =
    let e = same_kind l k (sym h.child_type ∙ w.child_type) in
    ⊎_elim (λ n. n (h.child_size ∙ ap body_size e)) (λ n. n (length xs) (array_size k l xs b e h)) w.wrong
  where
    array_size : (k l : Kind) (xs : List Fixed) (b : List ℕ) → l ≡ k → IsArray l xs b → length b ≡ 8 + length xs * body_size k
    array_size k l xs b e h =
        let f = length_of_elements l xs (drop 8 b) h.elements ∙ ap (λ j. length xs * body_size j) e in
        let d = length-drop 8 b in
        let z = h.header in
        omega arith

child_of_values : (s : Shape) (f : ℕ) (k : Kind) (x : Fixed) (xs : List Fixed) (b : List ℕ) → IsChoice s f k x xs b → word_at b 12 ≡ type_number k
child_of_values s f k x xs b h = sym (word_at-drop 8 4 b) ∙ h.values.child_type

pub right_size : (v : Tree) (b : List ℕ) → IsBody v b → ¬ (IsWrongSize (type_of v) b)
right_size v b h (of_fixed k e n) =
    let i = fixed_only v k e in
    let c : IsBody (fixed i.0) b = subst (λ t. IsBody t b) i.2 h in
    n (c.whole ∙ ap body_size i.1)
right_size v b h (of_array k e w) =
    let i = array_only v e in
    array_is_right k i.0 i.1 b (subst (λ t. IsBody t b) i.2 h) w
right_size v b h (of_choice k e l w) =
    let i = choice_only v e in
    let c : IsBody (choice i.0 i.1 i.2 i.3 i.4) b = subst (λ t. IsBody t b) i.5 h in
    array_is_right k i.2 (i.3 ∷ c.all) (drop 8 b) c.values w
right_size v b h (of_pointer e m n) =
    let i = pointer_only v e in
    let c : IsBody (pointer i.0 i.1) b = subst (λ t. IsBody t b) i.2 h in
    ⊎_elim (λ p. m p.0) (λ p. n p.0) c.1
right_size v b h (short_array e l) =
    let i = array_only v e in
    let c : IsBody (array i.0 i.1) b = subst (λ t. IsBody t b) i.2 h in
    let z = c.header in
    omega arith
right_size v b h (short_choice e l) =
    let i = choice_only v e in
    let c : IsBody (choice i.0 i.1 i.2 i.3 i.4) b = subst (λ t. IsBody t b) i.5 h in
    let z = c.values.header in
    let d = length-drop 8 b in
    omega arith
right_size v b h (short_object e l) =
    let i = object_only v e in
    let c : IsBody (object i.0 i.1 i.2) b = subst (λ t. IsBody t b) i.3 h in
    let z = c.0 in
    omega arith

pub right_type : (v : Tree) (b : List ℕ) → IsBody v b → ¬ (IsInvalidType (type_of v) b)
right_type v b h (no_type u) = known v u
right_type v b h (of_elements e l n) =
    let i = array_only v e in
    let c : IsBody (array i.0 i.1) b = subst (λ t. IsBody t b) i.2 h in
    n i.0 c.child_type
right_type v b h (of_values e l n) =
    let i = choice_only v e in
    let c : IsBody (choice i.0 i.1 i.2 i.3 i.4) b = subst (λ t. IsBody t b) i.5 h in
    n i.2 c.values.elements.0 (child_of_values i.0 i.1 i.2 i.3 i.4 b c)

pub enough_values : (s : Shape) (f : ℕ) (k : Kind) (x : Fixed) (xs : List Fixed) (b : List ℕ) → IsChoice s f k x xs b → ¬ (LacksValues b)
enough_values s f k x xs b h w =
    let e = same_shape s w.shape (sym h.shape ∙ w.its_shape) in
    let g = same_kind k w.kind (sym (child_of_values s f k x xs b h) ∙ w.child_type) in
    let n = length (x ∷ h.all) in
    let c : length (drop 8 (drop 8 b)) ≡ n * body_size k = length_of_elements k (x ∷ h.all) (drop 8 (drop 8 b)) h.values.elements in
    let d0 = length-drop 8 (drop 8 b) in
    let d1 = length-drop 8 b in
    let z = w.header in
    let m : least_count s * body_size k ≤ n * body_size k = mul-le (least_count s) (body_size k) n (body_size k) h.enough (omega arith) in
    let t : length b < 16 + least_count s * body_size k = subst (λ j. length b < 16 + least_count s * body_size j) (sym g) (subst (λ j. length b < 16 + least_count j * body_size w.kind) (sym e) w.few) in
    omega arith

no_pod_at : (k : Fault) (b : List ℕ) → StandsAtFront k b → IsRefused b
no_pod_at Short b s v h = s h.there
no_pod_at Text b s v h =
    let g = begun b v h in
    let i = string_only v (sym g.0 ∙ s.1) in
    let c : IsBody (string i.0) (body_of b) = subst (λ t. IsBody t (body_of b)) i.1 g.1 in
    s.2 i.0 c.0 c.1
no_pod_at InvalidType b s v h = let g = begun b v h in right_type v (body_of b) g.1 (subst (λ t. IsInvalidType t (body_of b)) g.0 s.1)
no_pod_at InvalidChoiceType b s v h =
    let g = begun b v h in
    let i = choice_only v (sym g.0 ∙ s.1) in
    let c : IsBody (choice i.0 i.1 i.2 i.3 i.4) (body_of b) = subst (λ t. IsBody t (body_of b)) i.5 g.1 in
    let e = c.shape in
    let f = shape_fits i.0 in
    let l = s.3 in
    omega arith
no_pod_at MissingChoiceValues b s v h =
    let g = begun b v h in
    let i = choice_only v (sym g.0 ∙ s.1) in
    enough_values i.0 i.1 i.2 i.3 i.4 (body_of b) (subst (λ t. IsBody t (body_of b)) i.5 g.1) s.2
no_pod_at WrongSize b s v h = let g = begun b v h in right_size v (body_of b) g.1 (subst (λ t. IsWrongSize t (body_of b)) g.0 s.1)

pub refused : (k : Fault) (place b : List ℕ) → Stands k place b → IsRefused b
refused k place _ (at_front b e s) = no_pod_at k b s
refused k place _ (in_member b vs first left f t e m n s) = λ v h.
    let g = begun b v h in
    let i = struct_only v (sym g.0 ∙ t) in
    let c : AreMembers i.0 (first ++ left) = subst (AreMembers i.0) e (subst (λ x. IsBody x (body_of b)) i.1 g.1) in
    let r = members_left vs i.0 first left m c in
    member_refused left r.0 n (refused k place left s) r.2
  where
    member_refused : (left : List ℕ) (us : Trees) → left ≢ [] → IsRefused left → ¬ (AreMembers us left)
    member_refused left no_trees n s m = n m
    member_refused left (member u us) n s m =
        let a = front_of_whole left m.0 m.1 _ _ m.2 m.3 in
        s u (record { there = a.0; pod = subst (λ l. IsPod l u) a.1 m.3 })
refused k place _ (in_key b ps first f t l e m n short _) = λ v h.
    let g = begun b v h in
    let i = object_only v (sym g.0 ∙ t) in
    let o : IsBody (object i.0 i.1 i.2) (body_of b) = subst (λ x. IsBody x (body_of b)) i.3 g.1 in
    let r = props_left ps i.2 first place m (subst (AreProperties i.2) e o.3) in
    key_refused place r.0 n short r.2
  where
    key_refused : (left : List ℕ) (us : Properties) → left ≢ [] → length left < 8 → ¬ (AreProperties us left)
    key_refused left no_properties n s m = n m
    key_refused left (property q g u us) n s m = let l = m.0 in omega arith
refused k place _ (in_property b ps first left f t l e m n s) = λ v h.
    let g = begun b v h in
    let i = object_only v (sym g.0 ∙ t) in
    let o : IsBody (object i.0 i.1 i.2) (body_of b) = subst (λ x. IsBody x (body_of b)) i.3 g.1 in
    let r = props_left ps i.2 first left m (subst (AreProperties i.2) e o.3) in
    property_refused left r.0 n (refused k place (drop 8 left) s) r.2
  where
    property_refused : (left : List ℕ) (us : Properties) → 8 ≤ length left → IsRefused (drop 8 left) → ¬ (AreProperties us left)
    property_refused left no_properties n s m = let z = ap length m in omega arith
    property_refused left (property q g u us) n s m =
        let a = front_of_whole (drop 8 left) m.3 m.4 _ _ m.5 m.6 in
        s u (record { there = a.0; pod = subst (λ x. IsPod x u) a.1 m.6 })

-- no pods one after another go on with an input that is refused
pub refused_behind_members : (vs ws : Trees) (first left : List ℕ) → AreMembers vs first → left ≢ [] → IsRefused left → ¬ (AreMembers ws (first ++ left))
refused_behind_members vs ws first left m n s c =
    let r = members_left vs ws first left m c in
    none_of left r.0 n s r.2
  where
    none_of : (left : List ℕ) (us : Trees) → left ≢ [] → IsRefused left → ¬ (AreMembers us left)
    none_of left no_trees n s m = n m
    none_of left (member u us) n s m =
        let a = front_of_whole left m.0 m.1 _ _ m.2 m.3 in
        s u (record { there = a.0; pod = subst (λ l. IsPod l u) a.1 m.3 })
