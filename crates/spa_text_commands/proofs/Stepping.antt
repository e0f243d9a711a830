-- Paths, and how many pods stand before each in the same one.
use Rattle.std.proofs.Common.{◌≡◌, ◌≢◌, ◌≤◌, ◌<◌, ◌+◌, ◌∙◌, Bool, true, false, ℕ, suc, List, [], ◌∷◌, ◌++◌, ap, append_assoc, append-nil, arith, eqb, get_or, drop, inl, inr, length, length-append, length-drop, refl, subst, sym, take}
use Rattle.std.proofs.Math.ListN.{get_or-append}
use Rattle.std.proofs.Math.Seq.{get_or-append_seam}
use Rattle.std.proofs.lemmas.Bool.{cases_lt, eqb-false, eqb-true, lt-ltb}
use Rattle.std.proofs.lemmas.List.{nil_from_length, take_all}
use Rattle.std.proofs.lemmas.List.Sums.{count_by_more_no, count_by_more_yes}
use Rattle.std.specs.Prelude.{◌⊎◌, if◌then◌else◌, nat_eq}
use Rattle.spa_events.specs.declared.event.Event.{Event}
use Rattle.spa_text_commands.specs.Numbers.{AreNumbers, IsCountedIn}
use Rattle.spa_text_commands.specs.Paths.{count_in, event_at, path_to, step_in, step_to}

-- ---- Members are counted

abbrev none : Event
none = record { type_ = 0; size = 0; depth = 0; at = 0; parent = 0 }

one_more : (events : List Event) (i p : ℕ) → i < length events → (event_at events i).parent ≡ p →
    count_in p (take (i + 1) events) ≡ count_in p (take i events) + 1
one_more events i p h e = count_by_more_yes (λ event. nat_eq event.parent p) events i none h (ap (λ z. nat_eq z p) e ∙ same p)
  where
    same : (n : ℕ) → nat_eq n n ≡ true
    same n = grind arith

no_more : (events : List Event) (i p : ℕ) → i < length events → (event_at events i).parent ≢ p → count_in p (take (i + 1) events) ≡ count_in p (take i events)
no_more events i p h e = count_by_more_no (λ event. nat_eq event.parent p) events i none h (other (event_at events i).parent p e)
  where
    other : (n m : ℕ) → n ≢ m → nat_eq n m ≡ false
    other n m e = grind (arith, e)

-- how far the loop over events is
pub record CountedSoFar (events : List Event) (counts numbers : List ℕ) (at : ℕ) : Type 0 where
  pub one_for_each : length counts ≡ length events
  pub one_each : length numbers ≡ at
  pub all : (p : ℕ) → p < length events → get_or counts p 0 ≡ count_in p (take at events)
  pub before : (i : ℕ) → i < at → (event_at events i).parent < length events → get_or numbers i 0 ≡ count_in (event_at events i).parent (take i events)

next_counted : (events : List Event) (counts new numbers more : List ℕ) (at before : ℕ) → CountedSoFar events counts numbers at → at < length events →
    IsCountedIn counts new (event_at events at).parent before → more ≡ numbers ++ (before ∷ []) → CountedSoFar events new more (at + 1)
next_counted events counts new numbers more at before so h counted e =
    let n = so.one_for_each in
    let m = so.one_each in
    record {
      one_for_each = counted.as_long ∙ n;
      one_each = ap length e ∙ (let l = length-append numbers (before ∷ []) in omega (arith, l, m));
      all = λ p inside. by_parent p inside (eqb parent p) refl;
      before = λ i earlier inside. by_place i earlier inside (cases_lt i at);
    }
  where
    parent : ℕ
    parent = (event_at events at).parent

    by_parent : (p : ℕ) → p < length events → (b : Bool) → eqb parent p ≡ b → get_or new p 0 ≡ count_in p (take (at + 1) events)
    by_parent p inside true t =
        let is = eqb-true parent p t in
        let n = so.one_for_each in
        let room : parent < length counts = omega (arith, is, inside, n) in
        let w = counted.was room in
        let a = so.all p inside in
        let o = one_more events at p h is in
        ap (λ z. get_or new z 0) (sym is) ∙ counted.one_more room ∙ (let s = ap (λ z. get_or counts z 0) is in omega (arith, w, a, o, s))
    by_parent p inside false f =
        let apart = eqb-false parent p f in
        counted.others p (λ e. apart (sym e)) ∙ so.all p inside ∙ sym (no_more events at p h apart)

    by_place : (i : ℕ) → i < at + 1 → (event_at events i).parent < length events → (i < at) ⊎ (at ≤ i) →
        get_or more i 0 ≡ count_in (event_at events i).parent (take i events)
    by_place i earlier inside (inl l) =
        let m = so.one_each in
        ap (λ z. get_or z i 0) e ∙ get_or-append numbers (before ∷ []) 0 i (omega (arith, l, m)) ∙ so.before i l inside
    by_place i earlier inside (inr l) =
        let is : i ≡ at = omega (arith, l, earlier) in
        let n = so.one_for_each in
        let m = so.one_each in
        let room : parent < length counts = (let p = ap (λ z. (event_at events z).parent) is in omega (arith, p, inside, n)) in
        let inner : parent < length events = omega (arith, room, n) in
        ap (λ z. get_or z i 0) e ∙ ap (λ z. get_or (numbers ++ (before ∷ [])) z 0) (is ∙ sym m) ∙ get_or-append_seam numbers before [] 0
        ∙ counted.was room ∙ so.all parent inner ∙ ap (λ z. count_in (event_at events z).parent (take z events)) (sym is)

pub one_counted : (events : List Event) (counts old new now numbers more : List ℕ) (at parent before : ℕ) → CountedSoFar events counts numbers at →
    at < length events → IsCountedIn old new parent before → old ≡ counts → now ≡ new → parent ≡ (event_at events at).parent →
    more ≡ numbers ++ (before ∷ []) → CountedSoFar events now more (at + 1)
one_counted events counts old new now numbers more at parent before so h counted o n p e =
    subst (λ z. CountedSoFar events z more (at + 1)) (sym n)
    (next_counted events counts new numbers more at before so h
    (subst (λ z. IsCountedIn counts new z before) p (subst (λ z. IsCountedIn z new parent before) o counted)) e)

-- a vector whose elements were written
pub written_slice : (new old : List ℕ) (n : ℕ) → length new ≡ length old → n ≡ length old → take n (new ++ drop (length new) old) ≡ new
written_slice new old n l e =
    ap (λ z. take n (new ++ z)) (nil_from_length (drop (length new) old) (let d = length-drop (length new) old in omega (arith, d, l))) ∙ ap (take n) (append-nil new) ∙ take_all n new (omega (arith, l, e))

-- ---- Steps

-- a step behind those to the pod that this one is in
behind_step : (limit less : ℕ) (events : List Event) (numbers pod old mid new : List ℕ) (number : ℕ) → AreNumbers events numbers → number < length events →
    (event_at events number).parent < length events → less + 1 ≡ limit → mid ≡ old ++ path_to less events pod (event_at events number).parent →
    new ≡ mid ++ step_in pod (event_at events (event_at events number).parent) (event_at events number) (get_or numbers number 0) →
    new ≡ old ++ path_to limit events pod number
behind_step limit less events numbers pod old mid new number are there h l m e =
    let parent = (event_at events number).parent in
    let holder = event_at events parent in
    let event = event_at events number in
    let before = path_to less events pod parent in
    let is : limit ≡ suc less = omega (arith, l) in
    e ∙ ap (λ n. mid ++ step_in pod holder event n) (are.counts number there h)
    ∙ ap (λ z. z ++ step_to events pod number) m ∙ append_assoc old before (step_to events pod number)
    ∙ sym (ap (λ n. old ++ path_to n events pod number) is
    ∙ ap (λ b. old ++ (if b then before ++ step_to events pod number else [])) (lt-ltb parent (length events) h))

pub next_step : (limit less : ℕ) (events : List Event) (numbers pod old mid new : List ℕ) (number count : ℕ) (holder event : Event) → AreNumbers events numbers →
    number < length events → event ≡ event_at events number → event.parent < length events → holder ≡ event_at events event.parent →
    count ≡ get_or numbers number 0 → less + 1 ≡ limit → mid ≡ old ++ path_to less events pod event.parent → new ≡ mid ++ step_in pod holder event count →
    new ≡ old ++ path_to limit events pod number
next_step limit less events numbers pod old mid new number count holder event are there v h w n l m e =
    let parent = ap (λ z. z.parent) v in
    let its = event_at events number in
    behind_step limit less events numbers pod old mid new number are there (omega (arith, parent, h)) l (m ∙ ap (λ z. old ++ path_to less events pod z) parent)
    (e ∙ ap (λ z. mid ++ step_in pod holder event z) n ∙ ap (λ z. mid ++ step_in pod z event (get_or numbers number 0)) (w ∙ ap (event_at events) parent)
    ∙ ap (λ z. mid ++ step_in pod (event_at events its.parent) z (get_or numbers number 0)) v)

-- the steps that were written behind nothing
pub written_path : (shown new old path : List ℕ) → shown ≡ new → new ≡ old ++ path → old ≡ [] → shown ≡ path
written_path shown new old path s e none = s ∙ e ∙ ap (λ z. z ++ path) none

-- and behind a number
pub numbered_path : (shown new mid old number path : List ℕ) → shown ≡ new → new ≡ mid ++ path → mid ≡ old ++ number → old ≡ [] → shown ≡ number ++ path
numbered_path shown new mid old number path s e m none = s ∙ e ∙ ap (λ z. z ++ path) (m ∙ ap (λ z. z ++ number) none)

-- ---- The number before the steps
