-- What is made of inputs, name by name.
use Rattle.std.proofs.Common.{◌≡◌, ◌∙◌, ◌∷◌, ◌++◌, ◌+◌, [], append_assoc, append-nil, arith, ap, get_or, inl, inr, length, refl, sym, subst, List, ℕ, Option}
use Rattle.std.specs.Borrow.{Bor}
use Rattle.std.specs.Prelude.{Result, Ok, Err, IfOk}
use Rattle.spa_recordings.specs.GoingOn.{MakesOf}
use Rattle.spa_recordings.specs.declared.reading.Reading.TheVariants.{Exact}
use Rattle.spa_device.specs.Whole.{IsAllOf}
use Rattle.pod_commands.specs.Inputs.{AreMade, IsKnown, StopsAt, content_of, left_behind}
use Rattle.pod_commands.specs.declared.answer.Failure.{Failure}
use Rattle.pod_commands.proofs.Known.{known_all, known_behind}

-- How far the work on names is: something was made, and with what is made of those that are left it is made of all, as many pods being refused;
-- where the work stops at one of those, it stops at one of all.
pub record MadeSoFar (Makes : List ℕ → List ℕ → ℕ → Type 0) (Stops : List ℕ → List ℕ → List ℕ → Failure → Type 0) (remaining : Option (List ℕ))
    (holds : List ℕ → Option (List ℕ)) (names : List (Bor (List ℕ))) (now : Option (List ℕ)) (left : List (Bor (List ℕ))) (out : List ℕ)
    (refused : ℕ) : Type 0 where
  pub expected : Option (List ℕ)
  pub known : IsKnown expected now
  pub made : (others : List ℕ) (n : ℕ) → AreMade Makes expected holds left others n → AreMade Makes remaining holds names (out ++ others) (refused + n)
  pub stops : (others : List ℕ) (why : Failure) → StopsAt Makes Stops expected holds left others why →
      StopsAt Makes Stops remaining holds names (out ++ others) why

module _ (Makes : List ℕ → List ℕ → ℕ → Type 0) (Stops : List ℕ → List ℕ → List ℕ → Failure → Type 0) (remaining : Option (List ℕ))
    (holds : List ℕ → Option (List ℕ)) (names : List (Bor (List ℕ))) where
  pub begins : (out : List ℕ) → out ≡ [] → MadeSoFar Makes Stops remaining holds names remaining names out 0
  begins out e = record {
    expected = remaining;
    known = inl refl;
    made = λ others n h.
        subst (AreMade Makes remaining holds names (out ++ others)) (let z : n ≡ 0 + n = omega arith in z)
        (subst (λ z. AreMade Makes remaining holds names (z ++ others) n) (sym e) h);
    stops = λ others why h. subst (λ z. StopsAt Makes Stops remaining holds names (z ++ others) why) (sym e) h;
  }

  -- one name more
  pub goes_on : (now after : Option (List ℕ)) (left behind : List (Bor (List ℕ))) (name : Bor (List ℕ)) (bytes first out new : List ℕ) (i old all : ℕ) →
      left ≡ name ∷ behind → IsAllOf (content_of now holds name.now) bytes → IsKnown (left_behind now name.now) after → Makes bytes first i →
      new ≡ out ++ first → all ≡ old + i → MadeSoFar Makes Stops remaining holds names now left out old →
      MadeSoFar Makes Stops remaining holds names after behind new all
  goes_on now after left behind name bytes first out new i old all e read k m is sum so =
      let its = known_all so.expected now holds name.now bytes so.known read in
      record {
        expected = left_behind so.expected name.now;
        known = known_behind so.expected now after name.now so.known k;
        made = λ others n h.
            subst (λ z. AreMade Makes remaining holds names z (all + n)) (sym (ap (λ z. z ++ others) is ∙ append_assoc out first others))
            (subst (AreMade Makes remaining holds names (out ++ (first ++ others))) (let z : old + (i + n) ≡ all + n = omega (arith, sum) in z)
            (so.made (first ++ others) (i + n)
            (subst (λ l. AreMade Makes so.expected holds l (first ++ others) (i + n)) (sym e) (bytes, first, others, i, n, its, m, refl, refl, h))));
        stops = λ others why h.
            subst (λ z. StopsAt Makes Stops remaining holds names z why) (sym (ap (λ z. z ++ others) is ∙ append_assoc out first others))
            (so.stops (first ++ others) why
            (subst (λ l. StopsAt Makes Stops so.expected holds l (first ++ others) why) (sym e) (inr (bytes, first, others, i, its, m, refl, h))));
      }

  -- no name is left
  pub ends : (now : Option (List ℕ)) (left : List (Bor (List ℕ))) (out : List ℕ) (refused : ℕ) → left ≡ [] →
      MadeSoFar Makes Stops remaining holds names now left out refused → AreMade Makes remaining holds names out refused
  ends now left out refused e so =
      subst (λ z. AreMade Makes remaining holds names z refused) (append-nil out)
      (subst (AreMade Makes remaining holds names (out ++ [])) (let z : refused + 0 ≡ refused = omega arith in z)
      (so.made [] 0 (subst (λ l. AreMade Makes so.expected holds l [] 0) (sym e) (refl, refl))))

  -- the work stops at a name
  pub stopped : (now : Option (List ℕ)) (left behind : List (Bor (List ℕ))) (name : Bor (List ℕ)) (bytes out more : List ℕ) (refused : ℕ) (why : Failure) →
      left ≡ name ∷ behind → IsAllOf (content_of now holds name.now) bytes → Stops name.now bytes more why →
      MadeSoFar Makes Stops remaining holds names now left out refused → StopsAt Makes Stops remaining holds names (out ++ more) why
  stopped now left behind name bytes out more refused why e all s so =
      so.stops more why
      (subst (λ l. StopsAt Makes Stops so.expected holds l more why) (sym e)
      (inl (bytes, known_all so.expected now holds name.now bytes so.known all, s)))

-- what is made of bytes as they are
pub exactly : {V E : Type 0} (r : Result V E) (items : V → List ℕ) (Makes : List ℕ → List ℕ → Type 0) (input : List ℕ) →
    IfOk r (λ v. Makes input (items v)) → IfOk r (λ v. MakesOf Exact Makes input (items v))
exactly (Ok v) items Makes input h = (input, refl, h)
exactly (Err e) items Makes input h = tt

-- one name, and two
pub one_name : (xs : List (Bor (List ℕ))) (d : Bor (List ℕ)) → length xs ≡ 1 → xs ≡ get_or xs 0 d ∷ []
one_name [] d h = absurd (omega (arith, h))
one_name (x ∷ []) d h = refl
one_name (x ∷ y ∷ xs) d h = absurd (omega (arith, h))

pub two_names : (xs : List (Bor (List ℕ))) (d : Bor (List ℕ)) → length xs ≡ 2 → xs ≡ get_or xs 0 d ∷ get_or xs 1 d ∷ []
two_names [] d h = absurd (omega (arith, h))
two_names (x ∷ []) d h = absurd (omega (arith, h))
two_names (x ∷ y ∷ []) d h = refl
two_names (x ∷ y ∷ z ∷ xs) d h = absurd (omega (arith, h))
