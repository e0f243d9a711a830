-- The value of a pod nests deeper than so many levels exactly where the pod does.
use Rattle.std.proofs.Common.{◌≡◌, ℕ, suc, zero, ◌<◌, ◌≤◌, inl, inr, List, [], ◌∷◌, drop, refl, sym, ap, ◌∙◌, subst, arith}
use Rattle.std.specs.Prelude.{◌⊎◌, ◌↔◌, Bool, false, true, Decides, max}
use Rattle.std.proofs.lemmas.Bool.{cases_lt, both_ways}
use Rattle.spa_format.specs.Words.{body_of, header_size, word_at}
use Rattle.spa_format.specs.Tree.{Tree, fixed, string, bytes, bitmap, array, choice, pointer, struct, object, Trees, no_trees, member, Properties, no_properties, property, type_of}
use Rattle.spa_format.specs.Pod.{AreMembers, IsBody, IsPod}
use Rattle.spa_format.specs.Front.{Begins, HasFront}
use Rattle.spa_format.specs.Walk.{ArePodsOf, ArePropertiesOf, property_walk, walk}
use Rattle.spa_format.proofs.Refused.{begun}
use Rattle.spa_format.proofs.Shapes.{object_only, struct_only}
use Rattle.spa_format.proofs.WalkedMembers.{members_walked, properties_walked}
use Rattle.spa_events.specs.Inside.{IsInside}
use Rattle.spa_canonical.specs.Depth.{NestsDeeper, NestsDeeperInside, SomeOf, depth_of, member_depth, property_depth}

-- a pod that nests deeper has such a value
abbrev DeepValue : ℕ → Type 0
DeepValue n = (b : List ℕ) (v : Tree) → NestsDeeper n b → word_at b 4 ≡ type_of v → IsBody v (body_of b) → n < depth_of v

some_member : (n : ℕ) → DeepValue n → (vs : Trees) (bs : List (List ℕ)) → ArePodsOf vs bs → SomeOf (NestsDeeper n) bs → n < member_depth vs
some_member n f no_trees bs m s = absurd (subst (SomeOf (NestsDeeper n)) m s)
some_member n f (member v vs) [] m s = absurd s
some_member n f (member v vs) (b ∷ bs) m s = elim s [
  | inl d ↦ let e : n < depth_of v = f b v d m.0.its_type m.0.content in let g : n < max (depth_of v) (member_depth vs) = omega arith in g
  | inr r ↦ let e = some_member n f vs bs m.1 r in let g : n < max (depth_of v) (member_depth vs) = omega arith in g
]

some_property : (n : ℕ) → DeepValue n → (ps : Properties) (bs : List (List ℕ)) → ArePropertiesOf ps bs →
    SomeOf (λ p. NestsDeeper n (drop header_size p)) bs → n < property_depth ps
some_property n f no_properties bs m s = absurd (subst (SomeOf (λ p. NestsDeeper n (drop header_size p))) m s)
some_property n f (property k l v ps) [] m s = absurd s
some_property n f (property k l v ps) (b ∷ bs) m s = elim s [
  | inl d ↦
      let e : n < depth_of v = f (drop header_size b) v d m.2.its_type m.2.content in
      let g : n < max (depth_of v) (property_depth ps) = omega arith in
      g
  | inr r ↦ let e = some_property n f ps bs m.3 r in let g : n < max (depth_of v) (property_depth ps) = omega arith in g
]

deep_inside : (n : ℕ) → DeepValue n → (type : ℕ) (body inside : List ℕ) (v : Tree) (keyed : Bool) → type ≡ type_of v → IsBody v body →
    IsInside type body keyed inside → NestsDeeperInside n keyed inside → suc n < depth_of v
deep_inside n f type body inside v false t c i s =
    let o = struct_only v (sym t ∙ i.0) in
    let e = ap depth_of o.1 in
    let m : AreMembers o.0 body = subst (λ x. IsBody x body) o.1 c in
    let k = some_member n f o.0 (walk body) (members_walked o.0 body m) (subst (λ b. SomeOf (NestsDeeper n) (walk b)) i.1 s) in
    omega arith
deep_inside n f type body inside v true t c i s =
    let o = object_only v (sym t ∙ i.0) in
    let e = ap depth_of o.3 in
    let m = subst (λ x. IsBody x body) o.3 c in
    let k =
    some_property n f o.2 (property_walk (drop header_size body)) (properties_walked o.2 (drop header_size body) m.3)
    (subst (λ b. SomeOf (λ p. NestsDeeper n (drop header_size p)) (property_walk b)) i.2 s) in
    omega arith

deep_value : (n : ℕ) → DeepValue n
unfolding NestsDeeper
deep_value zero b v d t c = elim d.1 [
  | inl s ↦ let o = struct_only v (sym t ∙ s) in let e = ap depth_of o.1 in omega arith
  | inr s ↦ let o = object_only v (sym t ∙ s) in let e = ap depth_of o.3 in omega arith
]
deep_value (suc n) b v d t c = deep_inside n (deep_value n) (word_at b 4) (body_of b) d.2 v d.1 t c d.3 d.4

-- the pod of such a value nests deeper
abbrev ValueDeep : ℕ → Type 0
ValueDeep n = (b : List ℕ) (v : Tree) → HasFront b → word_at b 4 ≡ type_of v → IsBody v (body_of b) → n < depth_of v → NestsDeeper n b

whole_there : (b : List ℕ) (v : Tree) → IsPod b v → HasFront b
whole_there b v p = let w = p.whole in record { header = omega arith; whole = omega arith }

member_deep : (n : ℕ) → ValueDeep n → (vs : Trees) (bs : List (List ℕ)) → ArePodsOf vs bs → n < member_depth vs → SomeOf (NestsDeeper n) bs
member_deep n f no_trees bs m l = absurd (omega arith)
member_deep n f (member v vs) [] m l = absurd m
member_deep n f (member v vs) (b ∷ bs) m l = elim (cases_lt n (depth_of v)) [
  | inl d ↦ inl (f b v (whole_there b v m.0) m.0.its_type m.0.content d)
  | inr d ↦ let g : n < max (depth_of v) (member_depth vs) = l in inr (member_deep n f vs bs m.1 (omega arith))
]

property_deep : (n : ℕ) → ValueDeep n → (ps : Properties) (bs : List (List ℕ)) → ArePropertiesOf ps bs → n < property_depth ps →
    SomeOf (λ p. NestsDeeper n (drop header_size p)) bs
property_deep n f no_properties bs m l = absurd (omega arith)
property_deep n f (property k w v ps) [] m l = absurd m
property_deep n f (property k w v ps) (b ∷ bs) m l = elim (cases_lt n (depth_of v)) [
  | inl d ↦ inl (f (drop header_size b) v (whole_there (drop header_size b) v m.2) m.2.its_type m.2.content d)
  | inr d ↦ let g : n < max (depth_of v) (property_depth ps) = l in inr (property_deep n f ps bs m.3 (omega arith))
]

holder : (v : Tree) → 0 < depth_of v → ((vs : Trees) × (v ≡ struct vs)) ⊎ ((t : ℕ) × (i : ℕ) × (ps : Properties) × (v ≡ object t i ps))
holder (fixed x) h = absurd (omega arith)
holder (string s) h = absurd (omega arith)
holder (bytes s) h = absurd (omega arith)
holder (bitmap s) h = absurd (omega arith)
holder (array k xs) h = absurd (omega arith)
holder (choice s f k x xs) h = absurd (omega arith)
holder (pointer t a) h = absurd (omega arith)
holder (struct vs) h = inl (vs, refl)
holder (object t i ps) h = inr (t, i, ps, refl)

value_deep : (n : ℕ) → ValueDeep n
unfolding NestsDeeper
value_deep zero b v h t c l = elim (holder v l) [
  | inl s ↦ (h, inl (t ∙ ap type_of s.1))
  | inr o ↦ (h, inr (t ∙ ap type_of o.3))
]
value_deep (suc n) b v h t c l = elim (holder v (omega arith)) [
  | inl s ↦
      let e = ap depth_of s.1 in
      let m : AreMembers s.0 (body_of b) = subst (λ x. IsBody x (body_of b)) s.1 c in
      let d = member_deep n (value_deep n) s.0 (walk (body_of b)) (members_walked s.0 (body_of b) m) (omega arith) in
      (h, false, body_of b, (t ∙ ap type_of s.1, refl), d)
  | inr o ↦
      let e = ap depth_of o.3 in
      let m = subst (λ x. IsBody x (body_of b)) o.3 c in
      let inside = drop header_size (body_of b) in
      let d = property_deep n (value_deep n) o.2 (property_walk inside) (properties_walked o.2 inside m.3) (omega arith) in
      (h, true, inside, (t ∙ ap type_of o.3, m.0, refl), d)
]

pub deep_begun : (n : ℕ) (input : List ℕ) (v : Tree) → NestsDeeper n input → Begins input v → n < depth_of v
deep_begun n input v d b = let q = begun input v b in deep_value n input v d q.0 q.1

pub begun_deep : (n : ℕ) (input : List ℕ) (v : Tree) → Begins input v → n < depth_of v → NestsDeeper n input
begun_deep n input v b l = let q = begun input v b in value_deep n input v b.there q.0 q.1 l

pub members_deep : (n : ℕ) (vs : Trees) (b : List ℕ) → AreMembers vs b → NestsDeeperInside n false b ↔ (n < member_depth vs)
members_deep n vs b m =
    let w = members_walked vs b m in
    (some_member n (deep_value n) vs (walk b) w, member_deep n (value_deep n) vs (walk b) w)

-- an answer whether levels are enough
pub decided : (b : Bool) (n depth : ℕ) → (b ≡ false → n < depth) → (n < depth → b ≡ false) → Decides b (depth ≤ n)
decided true n depth f g = (
  λ _. elim (cases_lt n depth) [
    | inl l ↦ absurd (both_ways true (g l) refl)
    | inr l ↦ l
  ],
  λ _. refl,
)
decided false n depth f g = (λ e. absurd (both_ways false refl e), λ l. absurd (let h = f refl in omega arith))
