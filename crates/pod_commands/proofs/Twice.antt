-- Files that are read twice.
use Rattle.std.proofs.Common.{◌≡◌, ◌∙◌, ◌∷◌, [], arith, inl, inr, refl, subst, sym, List, ℕ, Option, Some, None}
use Rattle.std.proofs.lemmas.Option.{none-some}
use Rattle.std.specs.Prelude.{⊤, false, if◌then◌else◌}
use Rattle.std.specs.Borrow.{Bor}
use Rattle.std.specs.Str.{bytes_eq}
use Rattle.spa_device.specs.Whole.{IsAllOf}
use Rattle.spa_format.specs.Encoding.{member_encodings}
use Rattle.spa_format.specs.Pod.{AreMembers}
use Rattle.spa_format.specs.Tree.{Trees}
use Rattle.spa_format.proofs.Refused.{refused_behind_members}
use Rattle.spa_recordings.specs.Streaming.{EndsAtPod}
use Rattle.spa_recordings.specs.declared.reading.Reading.TheVariants.{Exact}
use Rattle.pod_commands.specs.Answers.{AreFiles, AreUnmade, IsMadeBy, IsUnknown, IsWrittenAs, MayReadTwice, Outlet, course, outlet}
use Rattle.pod_commands.specs.Inputs.{AreMade, StopsAt, content_of, left_behind}
use Rattle.pod_commands.specs.Making.{MakesAll, RefusesBy}
use Rattle.pod_commands.specs.Requests.{dash}
use Rattle.pod_commands.specs.Streaming.{EndsIn, StreamsAs}
use Rattle.pod_commands.specs.declared.answer.Answer.{Answer}
use Rattle.pod_commands.specs.declared.answer.Answer.TheVariants.{Done, Differs, Passed, Shown, Missing, Refused, Misused, Said}
use Rattle.pod_commands.specs.declared.answer.Failure.{Failure}
use Rattle.pod_commands.specs.declared.answer.Failure.TheVariants.{Pods}
use Rattle.pod_commands.specs.declared.request.Fate.TheVariants.{Stops}
use Rattle.pod_commands.specs.declared.request.Making.TheVariants.{Check, Rewrite}
use Rattle.pod_commands.specs.declared.request.Streaming.TheVariants as streaming
use Rattle.spa_refusals.specs.declared.refusal.Refusal.{Refusal}
use Rattle.pod_commands.proofs.Checked.{made_more, stops_more}
use Rattle.pod_commands.proofs.Running.{untouched}

-- ---- Files stay as they are, whatever is left of the standard input

of_file : (P : Option (List ℕ) → Type 0) (name : List ℕ) (r s : Option (List ℕ)) (holds : List ℕ → Option (List ℕ)) → bytes_eq name dash ≡ false →
    P (content_of r holds name) → P (content_of s holds name)
of_file P name r s holds e h =
    subst (λ b. P (if b then s else holds name)) (sym e) (subst (λ b. P (if b then r else holds name)) e h)

behind_file : (P : Option (List ℕ) → Type 0) (name : List ℕ) (r : Option (List ℕ)) → bytes_eq name dash ≡ false → P (left_behind r name) → P r
behind_file P name r e h = subst (λ b. P (if b then None else r)) e h

before_file : (P : Option (List ℕ) → Type 0) (name : List ℕ) (r : Option (List ℕ)) → bytes_eq name dash ≡ false → P r → P (left_behind r name)
before_file P name r e h = subst (λ b. P (if b then None else r)) (sym e) h

-- what is made of files
pub made_of_files : (P : List ℕ → List ℕ → ℕ → Type 0) (r s : Option (List ℕ)) (holds : List ℕ → Option (List ℕ)) (names : List (Bor (List ℕ)))
    (out : List ℕ) (n : ℕ) → AreFiles names → AreMade P r holds names out n → AreMade P s holds names out n
made_of_files P r s holds [] out n files h = h
made_of_files P r s holds (x ∷ xs) out n files h = (
  h.0,
  h.1,
  h.2,
  h.3,
  h.4,
  of_file (λ o. IsAllOf o h.0) x.now r s holds files.0 h.5,
  h.6,
  h.7,
  h.8,
  before_file (λ o. AreMade P o holds xs h.2 h.4) x.now s files.0
      (made_of_files P r s holds xs h.2 h.4 files.1 (behind_file (λ o. AreMade P o holds xs h.2 h.4) x.now r files.0 h.9)),
)

pub stops_at_files : (P : List ℕ → List ℕ → ℕ → Type 0) (S : List ℕ → List ℕ → List ℕ → Failure → Type 0) (r s : Option (List ℕ))
    (holds : List ℕ → Option (List ℕ)) (names : List (Bor (List ℕ))) (out : List ℕ) (why : Failure) → AreFiles names →
    StopsAt P S r holds names out why → StopsAt P S s holds names out why
stops_at_files P S r s holds [] out why files h = absurd h
stops_at_files P S r s holds (x ∷ xs) out why files (inl h) = inl (h.0, of_file (λ o. IsAllOf o h.0) x.now r s holds files.0 h.1, h.2)
stops_at_files P S r s holds (x ∷ xs) out why files (inr h) =
    inr (
      h.0,
      h.1,
      h.2,
      h.3,
      of_file (λ o. IsAllOf o h.0) x.now r s holds files.0 h.4,
      h.5,
      h.6,
      before_file (λ o. StopsAt P S o holds xs h.2 why) x.now s files.0
          (stops_at_files P S r s holds xs h.2 why files.1 (behind_file (λ o. StopsAt P S o holds xs h.2 why) x.now r files.0 h.7)),
    )

-- ---- No pod is counted

none_refused : (r : Option (List ℕ)) (holds : List ℕ → Option (List ℕ)) (names : List (Bor (List ℕ))) (out : List ℕ) (n : ℕ) →
    AreMade (StreamsAs Exact streaming.Rewrite) r holds names out n → n ≡ 0
none_refused r holds [] out n h = h.1
none_refused r holds (x ∷ xs) out n h =
    let j = none_refused (left_behind r x.now) holds xs h.2 h.4 h.9 in
    let i = h.6.2.1 in
    let k = h.8 in
    omega (arith, i, j, k)

-- ---- What was accepted isn't refused, where it is known

differs : (R : Type 0) (content : Option (List ℕ)) (first second out : List ℕ) (vs : Trees) (number place : ℕ) (read : List ℕ) → IsAllOf content first →
    IsAllOf content second → AreMembers vs first → EndsAtPod Exact R (StreamsAs Exact streaming.Rewrite) second out number place read → content ≡ None
differs R None first second out vs number place read f s m e = refl
differs R (Some b) first second out vs number place read f s m e =
    let made = e.made in
    let rewrites = made.made.2.0 in
    absurd (refused_behind_members rewrites.0 vs made.first e.left (subst (AreMembers rewrites.0) made.made.1 rewrites.1) e.ahead.some e.ahead.refused
    (subst (AreMembers vs) (f ∙ sym s ∙ made.parts) m))

pods_unknown : (r : Option (List ℕ)) (holds : List ℕ → Option (List ℕ)) (names : List (Bor (List ℕ))) (made out : List ℕ) (n : ℕ) (name : Bor (List ℕ))
    (why : Refusal) → AreFiles names → AreMade (MakesAll Exact Check) r holds names made n →
    StopsAt (StreamsAs Exact streaming.Rewrite) (EndsIn Exact streaming.Rewrite) r holds names out (Pods name why) → holds name.now ≡ None
pods_unknown r holds [] made out n name why files m s = absurd s
pods_unknown r holds (x ∷ xs) made out n name why files m (inl s) =
    let vs = m.6.0.2.1 in
    let d = differs ⊤ (content_of r holds x.now) m.0 s.0 s.2.2.made vs.0 why.number why.place s.2.1 m.5 s.1
    (subst (AreMembers vs.0) m.6.0.1 vs.1) s.2.2.ends in
    subst (λ z. holds z ≡ None) (sym s.2.0) (subst (λ b. (if b then r else holds x.now) ≡ None) files.0 d)
pods_unknown r holds (x ∷ xs) made out n name why files m (inr s) =
    pods_unknown (left_behind r x.now) holds xs m.2 s.2 m.4 name why files.1 m.9 s.7

unknown : (r : Option (List ℕ)) (holds : List ℕ → Option (List ℕ)) (names : List (Bor (List ℕ))) (made out : List ℕ) (n : ℕ) (why : Failure) →
    AreFiles names → AreMade (MakesAll Exact Check) r holds names made n →
    StopsAt (StreamsAs Exact streaming.Rewrite) (EndsIn Exact streaming.Rewrite) r holds names out why → IsUnknown holds why
unknown r holds names made out n (Pods name why) files m s = pods_unknown r holds names made out n name why files m s
unknown r holds names made out n _ files m s = tt

-- ---- The passes

rewritten : (input out : List ℕ) (n : ℕ) → StreamsAs Exact streaming.Rewrite input out n → MakesAll Exact Rewrite input out n
rewritten input out n h = ((h.0, h.1, h.2.0), h.2.1)

pub read_again : (answer : Answer) (r s : Option (List ℕ)) (names : List (Bor (List ℕ))) (o : Outlet) → MayReadTwice Exact Rewrite names o.target →
    AreMade (MakesAll Exact Check) s o.before names [] 0 → IsWrittenAs Exact streaming.Rewrite answer (course r names o) → IsMadeBy Exact Stops Rewrite answer (course r names o)
read_again Done r s names o may m h =
    inl (h.0, made_more (StreamsAs Exact streaming.Rewrite) (MakesAll Exact Rewrite) r o.before names h.0 0 rewritten h.1.0, h.2)
read_again (Missing k) r s names o may m h = absurd (none-some k h.0)
read_again (Shown k) r s names o may m h = absurd (h.0 (none_refused r o.before names h.1.0 k h.1.1))
read_again (Refused why) r s names o may m h =
    let accepted : AreMade (MakesAll Exact Check) r o.before names [] 0 =
    made_of_files (MakesAll Exact Check) s r o.before names [] 0 may.files m in
    inr (
      why,
      refl,
      may,
      record {
        accepted = accepted;
        broken = h.0;
        changed = unknown r o.before names [] h.0.0 0 why may.files accepted h.0.1;
        no_file = h.1;
      },
    )
read_again Differs r s names o may m h = absurd h
read_again (Passed pods) r s names o may m h = absurd h
read_again (Misused why) r s names o may m h = absurd h
read_again (Said error) r s names o may m h = absurd h

-- what is checked can be rewritten
check_rewritten : (input made : List ℕ) (i : ℕ) → MakesAll Exact Check input made i → (other : List ℕ) × (j : ℕ) × MakesAll Exact Rewrite input other j
check_rewritten input made i h =
    let vs = h.0.2.1 in
    (member_encodings vs.0, 0, ((h.0.0, h.0.1, (vs.0, vs.1, refl)), refl))

unmade_rewritten : (r : Option (List ℕ)) (holds : List ℕ → Option (List ℕ)) (names : List (Bor (List ℕ))) (why : Failure) →
    AreUnmade Exact Check r holds names why → AreUnmade Exact Rewrite r holds names why
unmade_rewritten r holds names why (inl h) = inl h
unmade_rewritten r holds names why (inr h) =
    inr (stops_more (MakesAll Exact Check) (MakesAll Exact Rewrite) (λ name input made. RefusesBy Exact Check name input)
    (λ name input made. RefusesBy Exact Rewrite name input) r holds names h.0 why check_rewritten (λ name input made e. (made, e)) h.1)

-- nothing is written where the first pass ends the work
pub refused_first : (r s : Option (List ℕ)) (holds : List ℕ → Option (List ℕ)) (names : List (Bor (List ℕ)))
    (old : Option (List ℕ)) (why : Failure) → AreFiles names → AreUnmade Exact Check s holds names why →
    IsMadeBy Exact Stops Rewrite (Refused why) (course r names (outlet None old old holds holds))
refused_first r s holds names old why files (inl h) = inl (inl (inl h, untouched None old holds))
refused_first r s holds names old why files (inr h) =
    let stops = stops_at_files (MakesAll Exact Check) (λ name input made. RefusesBy Exact Check name input) s r holds names h.0 why files h.1 in
    inl (inl (unmade_rewritten r holds names why (inr (h.0, stops)), untouched None old holds))

-- ---- Names, one after another

-- where those that are left are files, all are
abbrev pub AreFilesSoFar : (names left : List (Bor (List ℕ))) → Type 0
AreFilesSoFar names left = AreFiles left → AreFiles names

pub one_file_more : (names left behind : List (Bor (List ℕ))) (name : Bor (List ℕ)) → left ≡ name ∷ behind → bytes_eq name.now dash ≡ false →
    AreFilesSoFar names left → AreFilesSoFar names behind
one_file_more names left behind name e is so others = so (subst AreFiles (sym e) (is, others))

pub all_files : (names left : List (Bor (List ℕ))) → left ≡ [] → AreFilesSoFar names left → AreFiles names
all_files names left e so = so (subst AreFiles (sym e) tt)
