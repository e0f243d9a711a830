-- Inputs that are checked as they come.
use Rattle.std.proofs.Common.{◌≡◌, ◌∙◌, ◌∷◌, ◌++◌, [], ap, arith, inl, inr, refl, subst, sym, List, ℕ, Option}
use Rattle.std.specs.Borrow.{Bor}
use Rattle.spa_recordings.specs.Streaming.{MayStop}
use Rattle.spa_recordings.specs.declared.reading.Reading.{Reading}
use Rattle.spa_recordings.specs.declared.reading.Reading.TheVariants.{Exact, Lenient}
use Rattle.pod_commands.specs.Answers.{AreUnmade}
use Rattle.pod_commands.specs.Inputs.{AreMade, StopsAt, left_behind}
use Rattle.pod_commands.specs.Making.{AreNoPods, MakesAll, RefusesBy}
use Rattle.pod_commands.specs.Streaming.{EndsIn, IsBroken, MayRefuse, ShowsLast, StreamsAs, shown_as}
use Rattle.pod_commands.specs.declared.answer.Failure.{Failure}
use Rattle.pod_commands.specs.declared.answer.Failure.TheVariants.{Pods, Texts, Pair, Lists, OutOfMemory, Unread, Unwritten}
use Rattle.pod_commands.specs.declared.request.Making.{Making}
use Rattle.pod_commands.specs.declared.request.Making.TheVariants.{Check}
use Rattle.pod_commands.specs.declared.request.Streaming.TheVariants as streaming
use Rattle.pod_commands.proofs.Longer.{first_refused}

-- ---- What is made of inputs, in other words

pub made_more : (P Q : List ℕ → List ℕ → ℕ → Type 0) (r : Option (List ℕ)) (holds : List ℕ → Option (List ℕ)) (names : List (Bor (List ℕ)))
    (out : List ℕ) (n : ℕ) → ((input made : List ℕ) (i : ℕ) → P input made i → Q input made i) → AreMade P r holds names out n →
    AreMade Q r holds names out n
made_more P Q r holds [] out n more h = h
made_more P Q r holds (x ∷ xs) out n more h = (
  h.0,
  h.1,
  h.2,
  h.3,
  h.4,
  h.5,
  more h.0 h.1 h.3 h.6,
  h.7,
  h.8,
  made_more P Q (left_behind r x.now) holds xs h.2 h.4 more h.9,
)

-- what is made of the inputs before the one at which the work stops, in other words, and why it stops
pub stops_more : (P Q : List ℕ → List ℕ → ℕ → Type 0) (S T : List ℕ → List ℕ → List ℕ → Failure → Type 0) (r : Option (List ℕ))
    (holds : List ℕ → Option (List ℕ)) (names : List (Bor (List ℕ))) (out : List ℕ) (why : Failure) →
    ((input made : List ℕ) (i : ℕ) → P input made i → (other : List ℕ) × (j : ℕ) × Q input other j) →
    ((name input made : List ℕ) → S name input made why → (other : List ℕ) × T name input other why) →
    StopsAt P S r holds names out why → (other : List ℕ) × StopsAt Q T r holds names other why
stops_more P Q S T r holds [] out why more stops h = absurd h
stops_more P Q S T r holds (x ∷ xs) out why more stops (inl h) =
    let t = stops x.now h.0 out h.2 in (t.0, inl (h.0, h.1, t.1))
stops_more P Q S T r holds (x ∷ xs) out why more stops (inr h) =
    let q = more h.0 h.1 h.3 h.5 in
    let s = stops_more P Q S T (left_behind r x.now) holds xs h.2 why more stops h.7 in
    (q.0 ++ s.0, inr (h.0, q.0, s.0, q.1, h.4, q.2, refl, s.1))

-- what stands where the work stops
stops_by : (P : List ℕ → List ℕ → ℕ → Type 0) (S : List ℕ → List ℕ → List ℕ → Failure → Type 0) (F : Type 0) (r : Option (List ℕ))
    (holds : List ℕ → Option (List ℕ)) (names : List (Bor (List ℕ))) (out : List ℕ) (why : Failure) →
    ((name input made : List ℕ) → S name input made why → F) → StopsAt P S r holds names out why → F
stops_by P S F r holds [] out why fact h = absurd h
stops_by P S F r holds (x ∷ xs) out why fact (inl h) = fact x.now h.0 out h.2
stops_by P S F r holds (x ∷ xs) out why fact (inr h) =
    stops_by P S F (left_behind r x.now) holds xs h.2 why fact h.7

-- ---- A check

-- nothing is made
none_checked : (reading : Reading) (r : Option (List ℕ)) (holds : List ℕ → Option (List ℕ)) (names : List (Bor (List ℕ))) (out : List ℕ) (n : ℕ) →
    AreMade (StreamsAs reading streaming.Check) r holds names out n → (out ≡ []) × (n ≡ 0)
none_checked reading r holds [] out n h = h
none_checked reading r holds (x ∷ xs) out n h =
    let t = none_checked reading (left_behind r x.now) holds xs h.2 h.4 h.9 in
    let i = h.6.2.2 in
    let j = t.1 in
    let k = h.8 in
    (h.7 ∙ ap (λ z. z ++ h.2) h.6.2.0 ∙ t.0, omega (arith, i, j, k))

-- nor of a last pod
none_last : (reading : Reading) (number place : ℕ) (read last : List ℕ) → ShowsLast (shown_as reading streaming.Check) number place read last → last ≡ []
none_last Exact number place read last h = h
none_last Lenient number place read last h = h

-- nor where it can't be written
none_unwritten : (reading : Reading) (r : Option (List ℕ)) (holds : List ℕ → Option (List ℕ)) (names : List (Bor (List ℕ))) (out : List ℕ)
    (target : Option (Bor (List ℕ))) → StopsAt (StreamsAs reading streaming.Check) (EndsIn reading streaming.Check) r holds names out (Unwritten target) → out ≡ []
none_unwritten reading r holds [] out target h = absurd h
none_unwritten reading r holds (x ∷ xs) out target (inl h) =
    elim h.2.1 [
      | inl f ↦ f.1.made.2.0
      | inr e ↦ e.3.parts ∙ ap (λ z. z ++ e.3.last) e.3.ends.made.made.2.0 ∙ none_last reading e.0 e.1 e.2 e.3.last e.3.shown
    ]
none_unwritten reading r holds (x ∷ xs) out target (inr h) =
    h.6 ∙ ap (λ z. z ++ h.2) h.5.2.0 ∙ none_unwritten reading (left_behind r x.now) holds xs h.2 target h.7

checked : (reading : Reading) (input out : List ℕ) (n : ℕ) → StreamsAs reading streaming.Check input out n → MakesAll reading Check input out n
checked reading input out n h = ((h.0, h.1, (h.2.0, h.2.1)), h.2.2)

pub all_checked : (reading : Reading) (r : Option (List ℕ)) (holds : List ℕ → Option (List ℕ)) (names : List (Bor (List ℕ))) (out : List ℕ) (n : ℕ) →
    AreMade (StreamsAs reading streaming.Check) r holds names out n → AreMade (MakesAll reading Check) r holds names [] 0
all_checked reading r holds names out n h =
    let none = none_checked reading r holds names out n h in
    let made = made_more (StreamsAs reading streaming.Check) (MakesAll reading Check) r holds names out n (checked reading) h in
    subst (λ z. AreMade (MakesAll reading Check) r holds names z 0) none.0
    (subst (AreMade (MakesAll reading Check) r holds names out) none.1 made)

refuses : (reading : Reading) (name input : List ℕ) (why : Failure) → AreNoPods reading name input why → RefusesBy reading Check name input why
refuses Exact name input why h = h
refuses Lenient name input why h = inl h

pub not_checked : (reading : Reading) (r : Option (List ℕ)) (holds : List ℕ → Option (List ℕ)) (names : List (Bor (List ℕ))) (old new : Option (List ℕ)) (why : Failure) →
    IsBroken reading streaming.Check r holds names old new why → AreUnmade reading Check r holds names why
not_checked reading r holds names old new OutOfMemory b = inl (inl refl)
not_checked reading r holds names old new (Unread n words) b = inl (inr (n, words, refl))
not_checked reading r holds names old new (Unwritten target) b = absurd (b.2.0 (none_unwritten reading r holds names b.0 target b.1))
not_checked reading r holds names old new (Pods n w) b =
    inr (stops_more (StreamsAs reading streaming.Check) (MakesAll reading Check) (EndsIn reading streaming.Check) (λ name input made. RefusesBy reading Check name input) r
    holds names b.0 (Pods n w) (λ input made i h. (made, i, checked reading input made i h))
    (λ name input made e. (
      e.2.made,
      refuses reading name input (Pods n w) (e.0, first_refused reading (MayStop reading (MayRefuse streaming.Check)) input e.2.made e.1 w e.2.ends e.3),
    )) b.1)
not_checked reading r holds names old new (Texts n w) b =
    absurd (stops_by (StreamsAs reading streaming.Check) (EndsIn reading streaming.Check) ⊥ r holds names b.0 (Texts n w) (λ name input made e. e) b.1)
not_checked reading r holds names old new (Pair n w) b =
    absurd (stops_by (StreamsAs reading streaming.Check) (EndsIn reading streaming.Check) ⊥ r holds names b.0 (Pair n w) (λ name input made e. e) b.1)
not_checked reading r holds names old new (Lists n m w) b =
    absurd (stops_by (StreamsAs reading streaming.Check) (EndsIn reading streaming.Check) ⊥ r holds names b.0 (Lists n m w) (λ name input made e. e) b.1)

-- however a check is asked for
pub made_by_check : (reading : Reading) (making : Making) (r : Option (List ℕ)) (holds : List ℕ → Option (List ℕ)) (names : List (Bor (List ℕ)))
    (out : List ℕ) → making ≡ Check → out ≡ [] → AreMade (MakesAll reading Check) r holds names [] 0 → AreMade (MakesAll reading making) r holds names out 0
made_by_check reading making r holds names out m none h =
    subst (λ z. AreMade (MakesAll reading z) r holds names out 0) (sym m)
    (subst (λ z. AreMade (MakesAll reading Check) r holds names z 0) (sym none) h)

pub unmade_by_check : (reading : Reading) (making : Making) (r : Option (List ℕ)) (holds : List ℕ → Option (List ℕ)) (names : List (Bor (List ℕ)))
    (why : Failure) → making ≡ Check → AreUnmade reading Check r holds names why → AreUnmade reading making r holds names why
unmade_by_check reading making r holds names why m h = subst (λ z. AreUnmade reading z r holds names why) (sym m) h
