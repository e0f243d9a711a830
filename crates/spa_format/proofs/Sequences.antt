-- Members one after another: a front of them, and what is left.
use Rattle.std.proofs.Common.{◌≡◌, ℕ, ◌≤◌, List, [], ◌++◌, length, drop, refl, sym, ap, ◌∙◌, subst, arith, length-append, append_assoc}
use Rattle.std.proofs.lemmas.List.{append-nil}
use Rattle.spa_format.specs.Words.{body_of}
use Rattle.spa_format.specs.Tree.{Tree, Trees, no_trees, member, Properties, no_properties, property, type_of, join_members, join_properties}
use Rattle.spa_format.specs.Pod.{IsWhole, IsBody, AreMembers, AreProperties, IsPod}
use Rattle.spa_format.proofs.Fronts.{front_of_whole}
use Rattle.spa_format.proofs.Unique.{same_body}
use Rattle.spa_format.proofs.WordLemmas.{word_at-append}
use Rattle.std.proofs.lemmas.List.{drop-append-le}

pub join_members-none : (vs : Trees) → join_members vs no_trees ≡ vs
join_members-none no_trees = refl
join_members-none (member v vs) = ap (member v) (join_members-none vs)

pub join_properties-none : (ps : Properties) → join_properties ps no_properties ≡ ps
join_properties-none no_properties = refl
join_properties-none (property k f v ps) = ap (property k f v) (join_properties-none ps)

pub join_properties-assoc : (ps qs rs : Properties) →
    join_properties (join_properties ps qs) rs ≡ join_properties ps (join_properties qs rs)
join_properties-assoc no_properties qs rs = refl
join_properties-assoc (property k f v ps) qs rs = ap (property k f v) (join_properties-assoc ps qs rs)

pub members_joined : (vs ws : Trees) (b c : List ℕ) → AreMembers vs b → AreMembers ws c → AreMembers (join_members vs ws) (b ++ c)
members_joined no_trees ws b c h k = subst (λ l. AreMembers ws (l ++ c)) (sym h) k
members_joined (member v vs) ws b c h k =
    (h.0, h.1 ++ c, ap (λ l. l ++ c) h.2 ∙ append_assoc h.0 h.1 c, h.3, members_joined vs ws h.1 c h.4 k)

-- one more member at the end
pub members_push : (vs : Trees) (v : Tree) (b c : List ℕ) → AreMembers vs b → IsPod c v → AreMembers (join_members vs (member v no_trees)) (b ++ c)
members_push vs v b c h k = members_joined vs (member v no_trees) b c h (c, [], sym (append-nil c), k, refl)

-- the members of the whole begin with those of a front
pub members_left : (vs ws : Trees) (b c : List ℕ) → AreMembers vs b → AreMembers ws (b ++ c) → (us : Trees) × (ws ≡ join_members vs us) × AreMembers us c
members_left no_trees ws b c h k = (ws, refl, subst (λ l. AreMembers ws (l ++ c)) h k)
members_left (member v vs) no_trees b c h k =
    absurd (let e0 = ap length k in let e1 = length-append b c in let e2 = ap length h.2 in let e3 = length-append h.0 h.1 in let x = h.3.whole in omega arith)
members_left (member v vs) (member w ws) b c h k =
    let d = b ++ c in
    let e : d ≡ h.0 ++ (h.1 ++ c) = ap (λ l. l ++ c) h.2 ∙ append_assoc h.0 h.1 c in
    let f = front_of_whole d h.0 (h.1 ++ c) _ _ e h.3 in
    let g = front_of_whole d k.0 k.1 _ _ k.2 k.3 in
    let here : IsWhole h.0 (type_of w) (IsBody w) = subst (λ l. IsWhole l (type_of w) (IsBody w)) (g.1 ∙ sym f.1) k.3 in
    let there : AreMembers ws (h.1 ++ c) = subst (AreMembers ws) (g.2 ∙ sym f.2) k.4 in
    let e0 = same_body v w (body_of h.0) (sym h.3.its_type ∙ here.its_type) h.3.content here.content in
    let r = members_left vs ws h.1 c h.4 there in
    let e1 = r.1 in
    (r.0, cc, r.2)

pub props_joined : (ps qs : Properties) (b c : List ℕ) → AreProperties ps b → AreProperties qs c → AreProperties (join_properties ps qs) (b ++ c)
props_joined no_properties qs b c h k = subst (λ l. AreProperties qs (l ++ c)) (sym h) k
props_joined (property p f v ps) qs b c h k =
    let l = h.0 in
    let d = drop-append-le 8 b c l in (
      (let e = length-append b c in let n : 8 ≤ length (b ++ c) = omega arith in n),
      h.1 ∙ sym (word_at-append b c 0 (omega arith)),
      h.2 ∙ sym (word_at-append b c 4 (omega arith)),
      h.3,
      h.4 ++ c,
      d ∙ ap (λ x. x ++ c) h.5 ∙ append_assoc h.3 h.4 c,
      h.6,
      props_joined ps qs h.4 c h.7 k,
    )

pub props_left : (ps qs : Properties) (b c : List ℕ) → AreProperties ps b → AreProperties qs (b ++ c) → (us : Properties) × (qs ≡ join_properties ps us) × AreProperties us c
props_left no_properties qs b c h k = (qs, refl, subst (λ l. AreProperties qs (l ++ c)) h k)
props_left (property p f v ps) no_properties b c h k =
    absurd (let e0 = ap length k in let e1 = length-append b c in let l = h.0 in omega arith)
props_left (property p f v ps) (property q g w qs) b c h k =
    let l = h.0 in
    let e : drop 8 (b ++ c) ≡ h.3 ++ (h.4 ++ c) = drop-append-le 8 b c l ∙ ap (λ x. x ++ c) h.5 ∙ append_assoc h.3 h.4 c in
    let a = front_of_whole (drop 8 (b ++ c)) h.3 (h.4 ++ c) _ _ e h.6 in
    let z = front_of_whole (drop 8 (b ++ c)) k.3 k.4 _ _ k.5 k.6 in
    let here : IsWhole h.3 (type_of w) (IsBody w) = subst (λ y. IsWhole y (type_of w) (IsBody w)) (z.1 ∙ sym a.1) k.6 in
    let there : AreProperties qs (h.4 ++ c) = subst (AreProperties qs) (z.2 ∙ sym a.2) k.7 in
    let e0 = same_body v w (body_of h.3) (sym h.6.its_type ∙ here.its_type) h.6.content here.content in
    let e2 = h.1 ∙ sym (word_at-append b c 0 (omega arith)) ∙ sym k.1 in
    let e3 = h.2 ∙ sym (word_at-append b c 4 (omega arith)) ∙ sym k.2 in
    let r = props_left ps qs h.4 c h.7 there in
    let e1 = r.1 in
    (r.0, cc, r.2)
