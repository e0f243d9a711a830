-- Structs and objects that nest too deep, of pods one after another.
use Rattle.std.proofs.Common.{◌≡◌, ℕ, inl, inr, List, [], ◌∷◌, ◌++◌, length, refl, sym, ap, subst, ◌∙◌, append_assoc, arith}
use Rattle.spa_format.specs.Front.{HasFront, front_of}
use Rattle.spa_format.specs.Pod.{AreMembers, IsBody}
use Rattle.spa_format.specs.Tree.{Trees, no_trees, member, type_of}
use Rattle.spa_format.specs.Walk.{walk}
use Rattle.spa_format.proofs.Fronts.{front_of_whole}
use Rattle.spa_format.proofs.WalkLemmas.{walk-end, walk-there}
use Rattle.spa_canonical.specs.Depth.{NestsDeeper, SomeOf, levels_looked_into}
use Rattle.spa_canonical.proofs.Deeper.{of_front}
use Rattle.spav.specs.Faults.{NestsTooDeep}

none_deep : (b : List ℕ) → b ≡ [] → ¬ (SomeOf (NestsDeeper levels_looked_into) (walk b))
none_deep b e s =
    let none : ¬ (HasFront []) = λ h. let l = h.header in omega arith in
    subst (SomeOf (NestsDeeper levels_looked_into)) (ap walk e ∙ walk-end [] none) s

-- one of these pods nests too deep
too_deep_among : (vs : Trees) (b : List ℕ) → AreMembers vs b → SomeOf (NestsDeeper levels_looked_into) (walk b) → NestsTooDeep b
too_deep_among no_trees b m s = absurd (none_deep b m s)
too_deep_among (member v vs) b m s =
    let f = front_of_whole b m.0 m.1 (type_of v) (IsBody v) m.2 m.3 in
    let w : walk b ≡ front_of b ∷ walk m.1 = walk-there b f.0 ∙ ap (λ r. front_of b ∷ walk r) (sym f.2) in
    elim (subst (SomeOf (NestsDeeper levels_looked_into)) w s) [
      | inl d ↦ here (of_front levels_looked_into b f.0 d)
      | inr r ↦ behind (too_deep_among vs m.1 m.4 r)
    ]
  where
    there : HasFront b → ¬ (b ≡ [])
    there h e = let l = h.header in let n = ap length e in omega arith

    here : NestsDeeper levels_looked_into b → NestsTooDeep b
    here d =
        let f = front_of_whole b m.0 m.1 (type_of v) (IsBody v) m.2 m.3 in
        record { left = b; behind = (no_trees, [], refl, refl, there f.0); nests = d }

    behind : NestsTooDeep m.1 → NestsTooDeep b
    behind r =
        let i = r.behind in
        record {
          left = r.left;
          behind = (
            member v i.0,
            m.0 ++ i.1,
            m.2 ∙ ap (λ x. m.0 ++ x) i.2 ∙ sym (append_assoc m.0 i.1 r.left),
            (m.0, i.1, refl, m.3, i.3),
            i.4,
          );
          nests = r.nests;
        }

pub too_deep_in : (b : List ℕ) → ((vs : Trees) × AreMembers vs b) → SomeOf (NestsDeeper levels_looked_into) (walk b) → NestsTooDeep b
too_deep_in b m s = too_deep_among m.0 b m.1 s
