-- What is made of inputs whose refused pods are left out or kept, name by name.
use Rattle.std.proofs.Common.{◌≡◌, ◌≤◌, ◌∙◌, ◌∷◌, ◌++◌, ◌+◌, ◌-◌, [], append_assoc, append-nil, ap, arith, drop, inl, length, length-append, length-drop, refl, sym, subst, List, ℕ, Option}
use Rattle.std.proofs.lemmas.List.{drop-drop, drop_at}
use Rattle.std.specs.Borrow.{Bor}
use Rattle.spa_device.specs.Whole.{IsAllOf}
use Rattle.spa_recordings.specs.GoingOn.{GoesOn, GoesOnFrom, ends, no_overlap, passes}
use Rattle.spa_recordings.specs.declared.going_on.Overlap.{Overlap}
use Rattle.spa_recordings.specs.declared.going_on.Refused.{Refused}
use Rattle.spa_recordings.specs.declared.going_on.RefusedPod.{RefusedPod}
use Rattle.spa_recordings.specs.Reading.{IsNothing}
use Rattle.spa_recordings.proofs.Going.{passed_some}
use Rattle.spa_recordings.proofs.Streamed.{nothing_of}
use Rattle.spa_recordings.specs.declared.reading.Reading.{Reading}
use Rattle.spa_refusals.specs.Several.{AreRefused}
use Rattle.spa_refusals.specs.declared.several.NamedRefusal.{NamedRefusal}
use Rattle.pod_commands.specs.Inputs.{IsKnown, content_of, left_behind}
use Rattle.pod_commands.specs.Making.{Makes}
use Rattle.pod_commands.specs.Working.{AreWorked, WorksOn, WorksThrough, to_end}
use Rattle.pod_commands.specs.declared.request.Making.{Making}
use Rattle.pod_commands.proofs.Known.{known_all, known_behind}

-- the refused pods of what is left of a part of an input aren't read
left_refused : (name : List ℕ) (reading : Reading) (refused : Refused) (Makes : List ℕ → List ℕ → Type 0) (before : ℕ) (part : List ℕ) (these : Overlap)
    (count place : ℕ) (left out : List ℕ) (pods : List RefusedPod) → GoesOnFrom name reading refused Makes these count place left out pods → before ≤ place →
    drop (place - before) part ≡ left → place + length left ≡ before + length part → AreRefused reading before part pods
left_refused name reading refused Makes before part these count place left out pods (ends _ _ p i o m) b e l = tt
left_refused name reading refused Makes before part these count place left out pods (passes _ behind _ p n first at made others pod more m its on) b e l =
    let is = its.its_place in
    let a = length-append first at in
    let d = length-drop n at in
    let passed = passed_some refused reading pod.place at these behind n its.some its.passed in
    let some = passed.0 in
    let fits = passed.1 in
    let here : drop (pod.place - before) part ≡ at =
    ap (λ z. drop z part) (let z : pod.place - before ≡ (place - before) + length first = omega (arith, is, b) in z)
    ∙ sym (drop-drop (length first) (place - before) part) ∙ ap (drop (length first)) e ∙ drop_at first at (length first) refl in
    let after : drop ((pod.place + n) - before) part ≡ drop n at =
    ap (λ z. drop z part) (let z : (pod.place + n) - before ≡ (pod.place - before) + n = omega (arith, is, b) in z)
    ∙ sym (drop-drop n (pod.place - before) part) ∙ ap (drop n) here in (
      omega (arith, is, b),
      omega (arith, is, l, a, some, fits),
      subst (IsNothing reading) (sym here) (nothing_of reading at pod.kind.now its.nothing),
      left_refused name reading refused Makes before part behind pod.number (pod.place + n) (drop n at) others more on (omega (arith, is, b)) after
          (omega (arith, is, l, a, d, fits)),
    )

-- nor are those of all of it
pub all_refused : (name : List ℕ) (reading : Reading) (refused : Refused) (Makes : List ℕ → List ℕ → Type 0) (count before : ℕ) (part out : List ℕ)
    (pods : List RefusedPod) → GoesOn name reading refused Makes count before part out pods → AreRefused reading before part pods
all_refused name reading refused Makes count before part out pods on =
    left_refused name reading refused Makes before part no_overlap count before part out pods on (omega arith)
    (ap (λ z. drop z part) (let z : before - before ≡ 0 = omega arith in z)) refl

-- a part of an input that is all of it
pub all_through : (reading : Reading) (refused : Refused) (making : Making) (name input out : List ℕ) (olds news : List NamedRefusal) →
    WorksOn reading refused making name 0 0 input out olds news → WorksThrough reading refused making name input out olds news
all_through reading refused making name input out olds news w =
    record { these = w.these; made = to_end 0 0 input out w.pods w.these w.goes_on w.said; added = w.added }

module _ (reading : Reading) (refused : Refused) (making : Making) (remaining : Option (List ℕ)) (holds : List ℕ → Option (List ℕ))
    (names : List (Bor (List ℕ))) where
  -- How far the work on names is: something was made, and these pods refused; with what is made of those that are left it is made of all.
  pub record WorkedSoFar (now : Option (List ℕ)) (left : List (Bor (List ℕ))) (out : List ℕ) (pods : List NamedRefusal) : Type 0 where
    pub expected : Option (List ℕ)
    pub known : IsKnown expected now
    pub made : (others : List ℕ) (those : List NamedRefusal) → AreWorked reading refused making expected holds left others those →
        AreWorked reading refused making remaining holds names (out ++ others) (pods ++ those)

  pub begins : (out : List ℕ) (pods : List NamedRefusal) → out ≡ [] → pods ≡ [] → WorkedSoFar remaining names out pods
  begins out pods e p = record {
    expected = remaining;
    known = inl refl;
    made = λ others those h.
        subst (λ z. AreWorked reading refused making remaining holds names (z ++ others) (pods ++ those)) (sym e)
        (subst (λ z. AreWorked reading refused making remaining holds names others (z ++ those)) (sym p) h);
  }

  -- one name more
  pub goes_on : (now after : Option (List ℕ)) (left behind : List (Bor (List ℕ))) (name : Bor (List ℕ)) (bytes made old new : List ℕ)
      (olds news : List NamedRefusal) → left ≡ name ∷ behind → IsAllOf (content_of now holds name.now) bytes → IsKnown (left_behind now name.now) after →
      WorksThrough reading refused making name.now bytes made olds news → new ≡ old ++ made → WorkedSoFar now left old olds →
      WorkedSoFar after behind new news
  goes_on now after left behind name bytes made old new olds news e all k m w so =
      let its = known_all so.expected now holds name.now bytes so.known all in
      record {
        expected = left_behind so.expected name.now;
        known = known_behind so.expected now after name.now so.known k;
        made = λ others those h.
            subst (λ z. AreWorked reading refused making remaining holds names z (news ++ those)) (sym (ap (λ z. z ++ others) w ∙ append_assoc old made others))
            (subst (λ z. AreWorked reading refused making remaining holds names (old ++ (made ++ others)) z)
            (sym (ap (λ z. z ++ those) m.added ∙ append_assoc olds m.these those))
            (so.made (made ++ others) (m.these ++ those)
            (subst (λ l. AreWorked reading refused making so.expected holds l (made ++ others) (m.these ++ those)) (sym e)
            (bytes, made, others, m.these, those, its, m.made, refl, refl, h))));
      }

  -- no name is left
  pub finished : (now : Option (List ℕ)) (left : List (Bor (List ℕ))) (out : List ℕ) (pods : List NamedRefusal) → left ≡ [] → WorkedSoFar now left out pods →
      AreWorked reading refused making remaining holds names out pods
  finished now left out pods e so =
      subst (λ z. AreWorked reading refused making remaining holds names z pods) (append-nil out)
      (subst (λ z. AreWorked reading refused making remaining holds names (out ++ []) z) (append-nil pods)
      (so.made [] [] (subst (λ l. AreWorked reading refused making so.expected holds l [] []) (sym e) (refl, refl))))
