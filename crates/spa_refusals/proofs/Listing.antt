-- How far the work on several refused pods is.
use Rattle.std.proofs.Common.{◌≡◌, ◌+◌, ◌-◌, ◌<◌, ◌≤◌, ◌∙◌, ℕ, List, [], ◌∷◌, ◌++◌, append_assoc, append-nil, ap, arith, drop, length, refl, subst, sym}
use Rattle.spa_recordings.specs.Reading.{IsNothing}
use Rattle.spa_recordings.specs.declared.going_on.RefusedPod.{RefusedPod}
use Rattle.spa_recordings.specs.declared.reading.Reading.{Reading}
use Rattle.spa_refusals.specs.Refusals.{IsRefusalOf}
use Rattle.spa_refusals.specs.Several.{AreRefused, AreSaid, IsSaidOf}
use Rattle.spa_refusals.specs.declared.several.NamedRefusal.{NamedRefusal}

module _ (reading : Reading) (before : ℕ) (input : List ℕ) where
  -- some are said, and with what is said of those that are left all are
  pub record SaidSoFar (pods left : List RefusedPod) (old new : List NamedRefusal) : Type 0 where
    pub more : List NamedRefusal
    pub written : new ≡ old ++ more
    pub said : (rest : List NamedRefusal) → AreSaid reading before input left rest → AreSaid reading before input pods (more ++ rest)
    pub left_refused : AreRefused reading before input left

  pub begins : (pods left : List RefusedPod) (old : List NamedRefusal) → left ≡ pods → AreRefused reading before input pods → SaidSoFar pods left old old
  begins pods left old e r = record {
    more = [];
    written = sym (append-nil old);
    said = λ rest h. subst (λ z. AreSaid reading before input z rest) e h;
    left_refused = subst (AreRefused reading before input) (sym e) r;
  }

  pub one_said : (pods left behind : List RefusedPod) (pod : RefusedPod) (old mid new : List NamedRefusal) (its : NamedRefusal) → left ≡ pod ∷ behind →
      SaidSoFar pods left old mid → IsSaidOf reading before input pod its → new ≡ mid ++ (its ∷ []) → SaidSoFar pods behind old new
  one_said pods left behind pod old mid new its e so is w = record {
    more = so.more ++ (its ∷ []);
    written = w ∙ ap (λ z. z ++ (its ∷ [])) so.written ∙ append_assoc old so.more (its ∷ []);
    said = λ rest h.
        subst (AreSaid reading before input pods) (sym (append_assoc so.more (its ∷ []) rest))
        (so.said (its ∷ rest) (subst (λ z. AreSaid reading before input z (its ∷ rest)) (sym e) (is, h)));
    left_refused = (subst (AreRefused reading before input) e so.left_refused).3;
  }

  pub all_said : (pods left : List RefusedPod) (old new : List NamedRefusal) → left ≡ [] → SaidSoFar pods left old new →
      (more : List NamedRefusal) × AreSaid reading before input pods more × (new ≡ old ++ more)
  all_said pods left old new e so = (
    so.more,
    subst (AreSaid reading before input pods) (append-nil so.more)
        (so.said [] (subst (λ z. AreSaid reading before input z []) (sym e) refl)),
    so.written,
  )

  -- the next of those that are left isn't read
  pub next_refused : (pods left behind : List RefusedPod) (pod : RefusedPod) (old new : List NamedRefusal) → left ≡ pod ∷ behind →
      SaidSoFar pods left old new →
      (before ≤ pod.place) × (pod.place < before + length input) × IsNothing reading (drop (pod.place - before) input)
  next_refused pods left behind pod old new e so =
      let r = subst (AreRefused reading before input) e so.left_refused in (r.0, r.1, r.2)

  -- what is said of the pod behind these bytes of the part
  pub said_of : (pod : RefusedPod) (its : NamedRefusal) (left : List ℕ) → (before ≤ pod.place) × (pod.place < before + length input)
      × IsNothing reading (drop (pod.place - before) input) → left ≡ drop (pod.place - before) input → its.name.now ≡ pod.name.now →
      its.refusal.number ≡ pod.number → its.refusal.place ≡ pod.place → its.left_out ≡ pod.left_out → IsRefusalOf reading left its.refusal →
      IsSaidOf reading before input pod its
  said_of pod its left r e name number place out h =
      let b = r.0 in
      let w = r.1 in
      record {
        name = name;
        number = number;
        place = place;
        left_out = out;
        at = pod.place - before;
        its_place = omega (arith, b);
        within = omega (arith, b, w);
        refusal = subst (λ z. IsRefusalOf reading z its.refusal) e h;
      }
