-- A list of calls of a builder, one call longer.
use Rattle.std.proofs.Common.{◌≡◌, ◌≢◌, ℕ, ◌+◌, ◌*◌, ◌<◌, inl, inr, List, [], ◌∷◌, ◌++◌, length, length-take, length-drop, drop, take, get_or, refl, sym, ap, ◌∙◌, subst, arith, Bool, false, Ok, Err}
use Rattle.std.specs.Prelude.{if◌then◌else◌, IsUtf8, Option, Some, None, Result}
use Rattle.std.specs.Option.{option_map}
use Rattle.std.specs.Str.{is_utf8}
use Rattle.std.proofs.lemmas.Bool.Decides.{leb_tells}
use Rattle.std.proofs.lemmas.List.{take_more}
use Rattle.std.proofs.lemmas.Str.{IsUtf8-from_is_utf8}
use Rattle.std.proofs.lemmas.Bool.{false_from_ne_true}
use Rattle.spa_format.specs.Kind.{Fixed, Kind, body_size}
use Rattle.spa_format.specs.Pod.{AreElements}
use Rattle.spa_format.specs.Tree.{array, string, string_type}
use Rattle.spa_builder.specs.State.{State, start}
use Rattle.spa_builder.specs.Step as builder
use Rattle.spa_builder.specs.Step.{Outcome, Accepts, Inval, Nospc, add, step}
use Rattle.spa_fixed_sized.proofs.Chunks.{elements_of_bodies}
use Rattle.spa_builder.specs.Fields.{BuilderFields, IsAt}
use Rattle.spa_builder.specs.Answers.{Makes}
use Rattle.spa_builder.specs.Replay.{IsAnswered}
use Rattle.spa_utils.specs.declared.errno.Errno.{Errno}
use Rattle.spa_utils.specs.declared.errno.TheConstants.Errno.{NOMEM, INVAL, NOSPC}
use Rattle.spav.specs.Building.{ComesTo, Leads, StopsAt, adds, array_in, elements_in, outcome_of, part_of, said_by, text_of}
use Rattle.spav.specs.declared.building.Call.{Call}

added_text : (p : Option (List ℕ)) → (elim (option_map string p) as (λ _. Option builder.Call) [ Some v ↦ Some (add v) | None ↦ None ]) ≡
    option_map (λ t. add (string t)) p
added_text None = refl
added_text (Some t) = refl

-- what a call of a text says, by the part of the texts
pub text_made : {A : Type 0} (texts : List ℕ) (c : Call) (s : State) (p : Option (List ℕ)) (old new : BuilderFields) (r : Result A Errno) →
    part_of texts c.bits c.len ≡ p → Makes (outcome_of s (option_map (λ t. add (string t)) (text_of p))) old new r →
    Makes (outcome_of s (said_by s string_type texts c)) old new r
text_made texts c s p old new r e m =
    subst (λ q. Makes (outcome_of s q) old new r) (sym (added_text (text_of (part_of texts c.bits c.len))))
    (subst (λ q. Makes (outcome_of s (option_map (λ t. add (string t)) (text_of q))) old new r) (sym e) m)

-- no part of the texts, no array
pub no_part_made : {A : Type 0} (k : Kind) (texts : List ℕ) (c : Call) (s : State) (len : ℕ) (old new : BuilderFields) (r : Result A Errno) → len ≡ c.len * body_size k →
    part_of texts c.bits len ≡ None → Makes Inval old new r → Makes (outcome_of s (adds (array_in k texts c) None)) old new r
no_part_made k texts c s len old new r e p m =
    let same = ap (part_of texts c.bits) (sym e) ∙ p in
    subst (λ q. Makes (outcome_of s (adds (option_map (λ x. array k (elements_in k c.len x)) q) None)) old new r) (sym same) m

-- more elements than 64 bits can count the bytes of, no array
pub too_many_made : {A : Type 0} (k : Kind) (texts : List ℕ) (c : Call) (s : State) (old new : BuilderFields) (r : Result A Errno) → length texts < c.len * body_size k →
    Makes Inval old new r → Makes (outcome_of s (adds (array_in k texts c) None)) old new r
too_many_made k texts c s old new r l m =
    no_part_made k texts c s (c.len * body_size k) old new r refl (no_part texts c.bits (c.len * body_size k) l) m
  where
    no_part : (t : List ℕ) (from n : ℕ) → length t < n → part_of t from n ≡ None
    no_part t from n h =
        elim (leb_tells (from + n) (length t)) [
          | inl y ↦ let w = y.1 in absurd (omega arith)
          | inr y ↦ ap (λ i. if i then Some (take n (drop from t)) else None) y.0
        ]

-- the array of a part of the texts
pub part_made : {A : Type 0} (k : Kind) (texts : List ℕ) (c : Call) (s : State) (len : ℕ) (b : List ℕ) (old new : BuilderFields) (r : Result A Errno) → len ≡ c.len * body_size k →
    part_of texts c.bits len ≡ Some b → ((xs : List Fixed) → AreElements k xs b → Makes (step s (add (array k xs))) old new r) →
    Makes (outcome_of s (adds (array_in k texts c) None)) old new r
part_made k texts c s len b old new r e p f =
    let same = ap (part_of texts c.bits) (sym e) ∙ p in
    let long = length_of_part texts c.bits len b p in
    subst (λ q. Makes (outcome_of s (adds (option_map (λ x. array k (elements_in k c.len x)) q) None)) old new r) (sym same)
    (f (elements_in k c.len b) (elements_of_bodies k c.len b (long ∙ e)))
  where
    length_of_part : (t : List ℕ) (from n : ℕ) (x : List ℕ) → part_of t from n ≡ Some x → length x ≡ n
    length_of_part t from n x q =
        elim (leb_tells (from + n) (length t)) [
          | inl y ↦
              let g : Some (take n (drop from t)) ≡ Some x = sym (ap (λ i. if i then Some (take n (drop from t)) else None) y.0) ∙ q in
              let h : take n (drop from t) ≡ x = same_bytes _ _ g in
              let l = ap length h in
              let u = length-take n (drop from t) in
              let v = length-drop from t in
              let w = y.1 in
              omega arith
          | inr y ↦ absurd (none_is (sym (ap (λ i. if i then Some (take n (drop from t)) else None) y.0) ∙ q))
        ]
      where
        same_bytes : (x y : List ℕ) → Some x ≡ Some y → x ≡ y
        same_bytes x y i = cc

        none_is : None ≡ Some x → ⊥
        none_is i = cc

pub no_text : (t : List ℕ) → ¬ (IsUtf8 t) → is_utf8 t ≡ false
no_text t n = false_from_ne_true (is_utf8 t) (λ e. n (IsUtf8-from_is_utf8 t e))

-- a text is added where it is UTF-8, and refused where it isn't
pub tested_made : {A : Type 0} (t : List ℕ) (b : Bool) (s : State) (old new : BuilderFields) (r : Result A Errno) → is_utf8 t ≡ b →
    Makes (outcome_of s (option_map (λ u. add (string u)) (if b then Some t else None))) old new r →
    Makes (outcome_of s (option_map (λ u. add (string u)) (text_of (Some t)))) old new r
tested_made t b s old new r e m =
    subst (λ d. Makes (outcome_of s (option_map (λ u. add (string u)) (if d then Some t else None))) old new r) (sym e) m

-- what is accepted, and why what is refused is
pub accepts : {A : Type 0} (o : Outcome) (old new : BuilderFields) (x : A) → Makes o old new (Ok x) → (t : State) × (o ≡ Accepts t) × IsAt new t
accepts (Accepts t) old new x m = (t, refl, m)
accepts Inval old new x m = absurd m
accepts Nospc old new x m = absurd m

pub refuses : (A : Type 0) (o : Outcome) (old new : BuilderFields) (e : Errno) → Makes {A = A} o old new (Err e) → IsAnswered o (Err e)
refuses A (Accepts t) old new e m = m.0
refuses A Inval old new e m = m.0
refuses A Nospc old new e m = m.0

-- one call more is accepted
pub one_more : (texts : List ℕ) (u : State) (cs : List Call) (c : Call) (s t : State) → Leads texts u cs s → ComesTo texts s c (Accepts t) →
    Leads texts u (cs ++ c ∷ []) t
one_more texts u [] c s t e a = (t, subst (λ v. ComesTo texts v c (Accepts t)) (sym e) a, refl)
one_more texts u (d ∷ cs) c s t e a = (e.0, e.1, one_more texts e.0 cs c s t e.2 a)

-- errors with other numbers are others
differ : (e f : Errno) → e.0 ≢ f.0 → e ≡ f → ⊥
differ e f n h = n (ap (λ g. g.0) h)

-- what the outcome was, by what was answered
pub was_invalid : (o : Outcome) → IsAnswered o (Err INVAL) → o ≡ Inval
was_invalid (Accepts t) e = absurd (differ INVAL NOMEM (λ h. omega (arith, h)) e)
was_invalid Inval e = refl
was_invalid Nospc e = absurd (differ INVAL NOSPC (λ h. omega (arith, h)) e)

pub was_large : (o : Outcome) → IsAnswered o (Err NOSPC) → o ≡ Nospc
was_large (Accepts t) e = absurd (differ NOSPC NOMEM (λ h. omega (arith, h)) e)
was_large Inval e = absurd (differ NOSPC INVAL (λ h. omega (arith, h)) e)
was_large Nospc e = refl

pub was_accepted : (o : Outcome) (e : Errno) → e ≢ INVAL → e ≢ NOSPC → IsAnswered o (Err e) → (t : State) × (o ≡ Accepts t)
was_accepted (Accepts t) e n m a = (t, refl)
was_accepted Inval e n m a = absurd (n a)
was_accepted Nospc e n m a = absurd (m a)

-- a list that stops at a call with one outcome stops there with a weaker one
pub stops_as : (texts : List ℕ) (calls : List Call) (at : ℕ) (P Q : Outcome → Type 0) → ((o : Outcome) → P o → Q o) →
    StopsAt texts calls at P → StopsAt texts calls at Q
stops_as texts calls at P Q f h = record {
  state = h.state;
  before = h.before;
  call = h.call;
  here = h.here;
  outcome = h.outcome;
  comes = h.comes;
  such = f _ h.such;
}

-- what is made of a call is what it comes to
abbrev pub IsMade : {A : Type 0} → List ℕ → State → Call → BuilderFields → BuilderFields → Result A Errno → Type 0
IsMade texts s c old new r = (o : Outcome) × ComesTo texts s c o × Makes o old new r

-- the next call of a list is accepted
pub goes_further : {A : Type 0} (texts : List ℕ) (calls : List Call) (at : ℕ) (d : Call) (old new : BuilderFields) (x : A) → at < length calls →
    (s : State) × Leads texts start (take at calls) s × IsAt old s →
    ((s : State) → IsAt old s → IsMade texts s (get_or calls at d) old new (Ok x)) →
    (s : State) × Leads texts start (take (at + 1) calls) s × IsAt new s
goes_further texts calls at d old new x l h m =
    let c = get_or calls at d in
    let made = m h.0 h.2 in
    let a = accepts made.0 old new x made.2 in
    let comes = subst (ComesTo texts h.0 c) a.1 made.1 in
    (a.0, subst (λ cs. Leads texts start cs a.0) (sym (take_more calls at d l)) (one_more texts start (take at calls) c h.0 a.0 h.1 comes), a.2)

-- the next call of a list isn't accepted
pub stops_here : (A : Type 0) (texts : List ℕ) (calls : List Call) (at : ℕ) (d : Call) (old new : BuilderFields) (e : Errno) → at < length calls →
    (s : State) × Leads texts start (take at calls) s × IsAt old s →
    ((s : State) → IsAt old s → IsMade {A = A} texts s (get_or calls at d) old new (Err e)) →
    StopsAt texts calls at (λ o. IsAnswered o (Err e))
stops_here A texts calls at d old new e l h m =
    let made = m h.0 h.2 in
    record {
      state = h.0;
      before = h.1;
      call = get_or calls at d;
      here = take_more calls at d l;
      outcome = made.0;
      comes = made.1;
      such = refuses A made.0 old new e made.2;
    }

-- why a list stopped, by the error
pub stopped_invalid : (texts : List ℕ) (calls : List Call) (at : ℕ) (e : Errno) → StopsAt texts calls at (λ o. IsAnswered o (Err e)) → e ≡ INVAL →
    StopsAt texts calls at (λ o. o ≡ Inval)
stopped_invalid texts calls at e h i =
    stops_as texts calls at (λ o. IsAnswered o (Err e)) (λ o. o ≡ Inval) (λ o a. was_invalid o (subst (λ f. IsAnswered o (Err f)) i a)) h

pub stopped_large : (texts : List ℕ) (calls : List Call) (at : ℕ) (e : Errno) → StopsAt texts calls at (λ o. IsAnswered o (Err e)) → e ≡ NOSPC →
    StopsAt texts calls at (λ o. o ≡ Nospc)
stopped_large texts calls at e h i =
    stops_as texts calls at (λ o. IsAnswered o (Err e)) (λ o. o ≡ Nospc) (λ o a. was_large o (subst (λ f. IsAnswered o (Err f)) i a)) h

pub stopped_wanting : (texts : List ℕ) (calls : List Call) (at : ℕ) (e : Errno) → StopsAt texts calls at (λ o. IsAnswered o (Err e)) →
    (e ≢ INVAL) × (e ≢ NOSPC) → StopsAt texts calls at (λ o. (s : State) × (o ≡ Accepts s))
stopped_wanting texts calls at e h n =
    stops_as texts calls at (λ o. IsAnswered o (Err e)) (λ o. (s : State) × (o ≡ Accepts s)) (λ o a. was_accepted o e n.0 n.1 a) h
