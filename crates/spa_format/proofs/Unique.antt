-- Bytes are a pod of one value at most.
use Rattle.std.proofs.Common.{◌≡◌, ℕ, List, [], ◌∷◌, ◌++◌, length, drop, refl, sym, ap, ◌∙◌, subst, arith, length-append}
use Rattle.std.proofs.lemmas.List.{append_cancel_right}
use Rattle.spa_format.specs.Words.{body_of}
use Rattle.spa_format.specs.Tree.{Tree, fixed, string, bytes, bitmap, array, choice, pointer, struct, object, Trees, no_trees, member, Properties, no_properties, property, type_of}
use Rattle.spa_format.specs.Kind.{kind_of, IsFixedBody}
use Rattle.spa_format.specs.Pod.{IsWhole, IsBody, AreMembers, AreProperties, IsPod}
use Rattle.spa_format.proofs.Shapes.{fixed_only, string_only, bytes_only, bitmap_only, array_only, choice_only, pointer_only, struct_only, object_only}
use Rattle.spa_format.proofs.FixedKinds.{same_fixed}
use Rattle.spa_format.proofs.Elements.{same_array}
use Rattle.spa_format.proofs.Choices.{same_choice, same_pointer}
use Rattle.spa_format.proofs.Fronts.{front_of_whole}

-- no whole bytes are empty
not_empty : (first others : List ℕ) (t : ℕ) (P : List ℕ → Type 0) → [] ≡ first ++ others → IsWhole first t P → ⊥
not_empty first others t P e h = let x = h.whole in let l = ap length e ∙ length-append first others in omega arith

mutual
  pub same_body : (v w : Tree) (b : List ℕ) → type_of v ≡ type_of w → IsBody v b → IsBody w b → v ≡ w
  same_body (fixed x) w b e h k =
      let i = fixed_only w (kind_of x) (sym e) in
      let k' : IsBody (fixed i.0) b = subst (λ t. IsBody t b) i.2 k in
      ap fixed (same_fixed (kind_of x) b x i.0 h (subst (λ j. IsFixedBody j b i.0) i.1 k')) ∙ sym i.2
  same_body (string s) w b e h k =
      let i = string_only w (sym e) in
      let k' : IsBody (string i.0) b = subst (λ t. IsBody t b) i.1 k in
      ap string (append_cancel_right s i.0 (0 ∷ []) (sym h.1 ∙ k'.1)) ∙ sym i.1
  same_body (bytes s) w b e h k =
      let i = bytes_only w (sym e) in
      let k' : IsBody (bytes i.0) b = subst (λ t. IsBody t b) i.1 k in
      ap bytes (sym h ∙ k') ∙ sym i.1
  same_body (bitmap s) w b e h k =
      let i = bitmap_only w (sym e) in
      let k' : IsBody (bitmap i.0) b = subst (λ t. IsBody t b) i.1 k in
      ap bitmap (sym h ∙ k') ∙ sym i.1
  same_body (array l xs) w b e h k =
      let i = array_only w (sym e) in
      let k' : IsBody (array i.0 i.1) b = subst (λ t. IsBody t b) i.2 k in
      let r = same_array l i.0 xs i.1 b h k' in
      let e0 = r.0 in
      let e1 = r.1 in
      let e2 = i.2 in
      cc
  same_body (choice s f l x xs) w b e h k =
      let i = choice_only w (sym e) in
      let k' : IsBody (choice i.0 i.1 i.2 i.3 i.4) b = subst (λ t. IsBody t b) i.5 k in
      same_choice s i.0 f i.1 l i.2 x i.3 xs i.4 b h k' ∙ sym i.5
  same_body (pointer t a) w b e h k =
      let i = pointer_only w (sym e) in
      let k' : IsBody (pointer i.0 i.1) b = subst (λ t. IsBody t b) i.2 k in
      same_pointer t i.0 a i.1 b h k' ∙ sym i.2
  same_body (struct vs) w b e h k =
      let i = struct_only w (sym e) in
      let k' : IsBody (struct i.0) b = subst (λ t. IsBody t b) i.1 k in
      ap struct (same_members vs i.0 b h k') ∙ sym i.1
  same_body (object t n ps) w b e h k =
      let i = object_only w (sym e) in
      let k' : IsBody (object i.0 i.1 i.2) b = subst (λ t. IsBody t b) i.3 k in
      let e0 = h.1 ∙ sym k'.1 in
      let e1 = h.2 ∙ sym k'.2 in
      let e2 = same_props ps i.2 (drop 8 b) h.3 k'.3 in
      let e3 = i.3 in
      cc

  pub same_members : (vs ws : Trees) (b : List ℕ) → AreMembers vs b → AreMembers ws b → vs ≡ ws
  same_members no_trees no_trees b h k = refl
  same_members no_trees (member w ws) b h k = absurd (not_empty k.0 k.1 _ _ (sym h ∙ k.2) k.3)
  same_members (member v vs) no_trees b h k = absurd (not_empty h.0 h.1 _ _ (sym k ∙ h.2) h.3)
  same_members (member v vs) (member w ws) b h k =
      let f = front_of_whole b h.0 h.1 _ _ h.2 h.3 in
      let g = front_of_whole b k.0 k.1 _ _ k.2 k.3 in
      let here : IsWhole h.0 (type_of w) (IsBody w) = subst (λ l. IsWhole l (type_of w) (IsBody w)) (g.1 ∙ sym f.1) k.3 in
      let there : AreMembers ws h.1 = subst (AreMembers ws) (g.2 ∙ sym f.2) k.4 in
      let e0 = same_body v w (body_of h.0) (sym h.3.its_type ∙ here.its_type) h.3.content here.content in
      let e1 = same_members vs ws h.1 h.4 there in
      cc

  pub same_props : (ps qs : Properties) (b : List ℕ) → AreProperties ps b → AreProperties qs b → ps ≡ qs
  same_props no_properties no_properties b h k = refl
  same_props no_properties (property q f w qs) b h k = absurd (let e = ap length h in let l = k.0 in omega arith)
  same_props (property p f v ps) no_properties b h k = absurd (let e = ap length k in let l = h.0 in omega arith)
  same_props (property p f v ps) (property q g w qs) b h k =
      let a = front_of_whole (drop 8 b) h.3 h.4 _ _ h.5 h.6 in
      let c = front_of_whole (drop 8 b) k.3 k.4 _ _ k.5 k.6 in
      let here : IsWhole h.3 (type_of w) (IsBody w) = subst (λ l. IsWhole l (type_of w) (IsBody w)) (c.1 ∙ sym a.1) k.6 in
      let there : AreProperties qs h.4 = subst (AreProperties qs) (c.2 ∙ sym a.2) k.7 in
      let e0 = same_body v w (body_of h.3) (sym h.6.its_type ∙ here.its_type) h.6.content here.content in
      let e1 = same_props ps qs h.4 h.7 there in
      let e2 = h.1 ∙ sym k.1 in
      let e3 = h.2 ∙ sym k.2 in
      cc

pub one_value : (b : List ℕ) (v w : Tree) → IsPod b v → IsPod b w → v ≡ w
one_value b v w h k = same_body v w (body_of b) (sym h.its_type ∙ k.its_type) h.content k.content
