-- A run of calls, one call longer.
use Rattle.std.proofs.Common.{◌≡◌, ℕ, ◌+◌, ◌<◌, ◌≤◌, List, [], ◌∷◌, ◌++◌, length, take, get_or, refl, sym, ap, ◌∙◌, subst, arith, Ok, Err}
use Rattle.std.specs.Prelude.{Option, Some, None}
use Rattle.std.proofs.lemmas.List.{take_more, map-append, take_all, length-map}
use Rattle.spa_builder.specs.State.{State, start}
use Rattle.spa_builder.specs.Step.{Call, Outcome, Accepts, Inval, Nospc, step}
use Rattle.spa_builder.specs.Fields.{BuilderFields, IsAt}
use Rattle.spa_builder.specs.Answers.{Makes}
use Rattle.spa_builder.specs.Replay.{Answer, IsAnswered, AreAnswered, behind, accepted_calls, state_from, call_of, calls_of, IsRunning}
use Rattle.spa_builder.specs.declared.build_call.BuildCall.{BuildCall}
use Rattle.spa_utils.specs.declared.errno.Errno.{Errno}

-- the state behind all calls
abbrev pub behind_all : State → List Call → List Answer → State
behind_all s [] rs = s
behind_all s (c ∷ cs) [] = s
behind_all s (c ∷ cs) (r ∷ rs) = behind_all (behind s (step s c) r) cs rs

pub made : (o : Outcome) (s : State) (old new : BuilderFields) (r : Answer) → IsAt old s →
    Makes o old new r → IsAnswered o r × IsAt new (behind s o r)
made (Accepts t) s old new (Ok x) at m = (tt, m)
made (Accepts t) s old new (Err e) at m = (m.0, subst (λ h. IsAt h s) (sym m.1) at)
made Inval s old new (Ok x) at m = absurd m
made Inval s old new (Err e) at m = (m.0, subst (λ h. IsAt h s) (sym m.1) at)
made Nospc s old new (Ok x) at m = absurd m
made Nospc s old new (Err e) at m = (m.0, subst (λ h. IsAt h s) (sym m.1) at)

pub one_more : (s : State) (cs : List Call) (rs : List Answer) (c : Call) (r : Answer) →
    AreAnswered s cs rs → IsAnswered (step (behind_all s cs rs) c) r →
    AreAnswered s (cs ++ c ∷ []) (rs ++ r ∷ [])
one_more s [] [] c r h k = (k, tt)
one_more s [] (q ∷ rs) c r h k = absurd h
one_more s (d ∷ cs) [] c r h k = absurd h
one_more s (d ∷ cs) (q ∷ rs) c r h k = (h.0, one_more (behind s (step s d) q) cs rs c r h.1 k)

pub behind_more : (s : State) (cs : List Call) (rs : List Answer) (c : Call) (r : Answer) →
    AreAnswered s cs rs → behind_all s (cs ++ c ∷ []) (rs ++ r ∷ []) ≡ behind (behind_all s cs rs)
    (step (behind_all s cs rs) c) r
behind_more s [] [] c r h = refl
behind_more s [] (q ∷ rs) c r h = absurd h
behind_more s (d ∷ cs) [] c r h = absurd h
behind_more s (d ∷ cs) (q ∷ rs) c r h = behind_more (behind s (step s d) q) cs rs c r h.1

pub as_many : (s : State) (cs : List Call) (rs : List Answer) → AreAnswered s cs rs →
    length rs ≡ length cs
as_many s [] [] h = refl
as_many s [] (r ∷ rs) h = absurd h
as_many s (c ∷ cs) [] h = absurd h
as_many s (c ∷ cs) (r ∷ rs) h = let e = as_many (behind s (step s c) r) cs rs h.1 in omega arith

goes_on : (o : Outcome) (s : State) (cs : List Call) (x : Unit {0}) → IsAnswered o (Ok x) →
    (elim o as (λ _. Option State) [ Accepts t ↦ state_from t cs | Inval ↦ None | Nospc ↦ None ])
    ≡ state_from (behind s o (Ok x)) cs
goes_on (Accepts t) s cs x h = refl
goes_on Inval s cs x h = absurd h
goes_on Nospc s cs x h = absurd h

stays : (o : Outcome) (s : State) (e : Errno) → behind s o (Err e) ≡ s
stays (Accepts t) s e = refl
stays Inval s e = refl
stays Nospc s e = refl

-- the calls that were taken word_bytes the state behind all
pub spelled_is : (s : State) (cs : List Call) (rs : List Answer) → AreAnswered s cs rs →
    state_from s (accepted_calls cs rs) ≡ Some (behind_all s cs rs)
spelled_is s [] [] h = refl
spelled_is s [] (r ∷ rs) h = absurd h
spelled_is s (c ∷ cs) [] h = absurd h
spelled_is s (c ∷ cs) (Ok x ∷ rs) h = goes_on (step s c) s (accepted_calls cs rs) x h.0
    ∙ spelled_is (behind s (step s c) (Ok x)) cs rs h.1
spelled_is s (c ∷ cs) (Err e ∷ rs) h =
    ap (λ t. state_from t (accepted_calls cs rs)) (sym (stays (step s c) s e))
    ∙ spelled_is (behind s (step s c) (Err e)) cs rs h.1

-- what holds of a run so far
pub record SoFar (calls : List BuildCall) (rs : List Answer) (builder : BuilderFields) : Type 0 where
  pub answered : AreAnswered start (calls_of calls) rs
  pub at : IsAt builder (behind_all start (calls_of calls) rs)

pub so_far_more : (calls : List BuildCall) (i : ℕ) (d : BuildCall) (rs rs' : List Answer)
    (r : Answer) (old new : BuilderFields) → i < length calls → rs' ≡ rs ++ r ∷ [] →
    SoFar (take i calls) rs old →
    ((s : State) → IsAt old s → Makes (step s (call_of (get_or calls i d))) old new r) →
    SoFar (take (i + 1) calls) rs' new
so_far_more calls i d rs rs' r old new l g h m =
    let c = get_or calls i d in
    let cs = calls_of (take i calls) in
    let s = behind_all start cs rs in
    let k = made (step s (call_of c)) s old new r h.at (m s h.at) in
    let e : calls_of (take (i + 1) calls) ≡ cs ++ call_of c ∷ [] =
    ap calls_of (take_more calls i d l) ∙ map-append call_of (take i calls) (c ∷ []) in
    subst (λ qs. SoFar (take (i + 1) calls) qs new) (sym g) (record {
      answered = subst (λ ds. AreAnswered start ds (rs ++ r ∷ [])) (sym e)
          (one_more start cs rs (call_of c) r h.answered k.0);
      at = subst (λ ds. IsAt new (behind_all start ds (rs ++ r ∷ []))) (sym e)
          (subst (IsAt new) (sym (behind_more start cs rs (call_of c) r h.answered)) k.1);
    })

pub so_far_length : (calls : List BuildCall) (rs : List Answer) (builder : BuilderFields) →
    SoFar calls rs builder → length rs ≡ length calls
so_far_length calls rs builder h = as_many start (calls_of calls) rs h.answered
    ∙ length-map calls call_of

pub so_far_all : (calls : List BuildCall) (i : ℕ) (rs : List Answer) (builder : BuilderFields) →
    length calls ≤ i → SoFar (take i calls) rs builder → IsRunning (calls_of calls) rs builder
so_far_all calls i rs builder l h =
    let e = take_all i calls l in
    let k = subst (λ cs. SoFar cs rs builder) e h in
    record {
      answered = k.answered;
      at = (
        behind_all start (calls_of calls) rs,
        spelled_is start (calls_of calls) rs k.answered,
        k.at,
      );
    }
