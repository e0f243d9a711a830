-- Inputs that are written of as they come, name by name.
use Rattle.std.proofs.Common.{Global, Vec, ◌≡◌, ◌∙◌, ◌+◌, ◌∷◌, ◌++◌, ◌&&◌, [], false, true, true≢false, ap, append-nil, inl, inr, length, refl, subst, sym, take, List, ℕ, Option, Some, None}
use Rattle.std.proofs.Math.Seq.{take-append-add}
use Rattle.std.proofs.KnownBytes.{Appends-nil, Appends-trans}
use Rattle.std.specs.Borrow.{Bor}
use Rattle.std.specs.Io.KnownBytes.{Appends}
use Rattle.spa_device.specs.Whole.{IsAllOf}
use Rattle.std.specs.Prelude.{◌⊎◌, Decides, is_some, IfErr, IfOk, Result, Ok, Err}
use Rattle.spa_recordings.specs.declared.reading.Reading.{Reading}
use Rattle.spa_recordings.specs.declared.reading.Reading.TheVariants.{Exact, Lenient}
use Rattle.spa_recordings.proofs.Holding.{nothing_read}
use Rattle.spa_recordings.proofs.Streamed.{some_behind, both_nothing}
use Rattle.spa_recordings.specs.Streaming.{EndsAtPod, MakesFirst, MayStop, Stops, Streams}
use Rattle.spa_recordings.specs.declared.streaming.Made.{Made}
use Rattle.spa_recordings.specs.declared.streaming.Stop.{Stop}
use Rattle.spa_recordings.specs.declared.streaming.Stop.TheVariants as stop
use Rattle.spa_text_commands.specs.declared.selection.Selection.{Selection}
use Rattle.pod_commands.specs.Answers.{Course, Gets, IsExcluded, IsFound, IsShownIn, IsStreamed, IsPassed, IsStreamedBy, IsStreamedInPart, IsOutcome, IsUnread, IsWrittenAs, MayStream, Outlet, looked_for, course, outlet}
use Rattle.pod_commands.specs.Inputs.{AreMade, IsKnown, IsOpened, content_of, left_behind}
use Rattle.pod_commands.specs.Sending.{IsSent}
use Rattle.pod_commands.specs.StreamLaws.{nothing_written}
use Rattle.pod_commands.specs.Streaming.{EndsIn, EndsShown, HasNoPod, IsBroken, IsBrokenAt, IsCutIn, IsEndOf, IsFailureOf, IsLastShown, IsMadeInBlocks, IsMadeOfEach, IsRefusedAs, IsWritten, MayRefuse, ShowsLast, StreamsAs, made_as, shown_as}
use Rattle.pod_commands.specs.declared.request.Printing.{Printing}
use Rattle.pod_commands.specs.declared.answer.Failure.{Failure}
use Rattle.pod_commands.specs.declared.answer.Failure.TheVariants.{Pods, Texts, Pair, Lists, OutOfMemory, Unread, Unwritten}
use Rattle.pod_commands.specs.declared.answer.Answer.{Answer}
use Rattle.pod_commands.specs.declared.answer.Answer.TheVariants.{Misused, Refused}
use Rattle.pod_commands.specs.declared.misuse.Excluded.{Excluded}
use Rattle.pod_commands.specs.declared.misuse.Misuse.TheVariants.{WithStream, WithPart}
use Rattle.pod_commands.specs.declared.request.Fate.{Fate}
use Rattle.pod_commands.specs.declared.request.Fate.TheVariants.{Stops as StopsThere, GoesOn}
use Rattle.pod_commands.specs.declared.request.Making.{Making}
use Rattle.spa_recordings.specs.declared.going_on.Refused.{Refused as OfRefused}
use Rattle.pod_commands.specs.declared.request.Streaming.{Streaming}
use Rattle.pod_commands.specs.declared.request.Streaming.TheVariants as streaming
use Rattle.pod_commands.proofs.Made.{MadeSoFar}
use Rattle.pod_commands.proofs.Made as step
use Rattle.pod_commands.proofs.Running.{untouched}

-- how far the work is: these bytes are written, and they are what is made of the inputs so far
pub record StreamedSoFar (reading : Reading) (s : Streaming) (remaining : Option (List ℕ)) (holds : List ℕ → Option (List ℕ)) (names : List (Bor (List ℕ)))
    (now : Option (List ℕ)) (left : List (Bor (List ℕ))) (its : Made) (old new : Option (List ℕ)) : Type 0 where
  pub out : List ℕ
  pub nothing : Decides its.nothing (out ≡ [])
  pub written : Appends old new out
  pub made : MadeSoFar (StreamsAs reading s) (EndsIn reading s) remaining holds names now left out its.refused

-- nothing was written behind what was
appends_on : (a b c : Option (List ℕ)) (xs : List ℕ) → Appends a b xs → Appends b c [] → Appends a c xs
appends_on a b c xs h k = subst (Appends a c) (append-nil xs) (Appends-trans a b c xs [] h k)

-- what was written behind what was
pub written_more : (a b c : Option (List ℕ)) (xs ys : List ℕ) (why : Failure) → Appends a b xs → IsWritten why b c ys → IsWritten why a c (xs ++ ys)
written_more a b c xs ys (Unwritten t) h k = (
  some_behind xs ys k.0,
  length xs + k.1,
  subst (Appends a c) (sym (take-append-add xs ys k.1)) (Appends-trans a b c xs (take k.1 ys) h k.2),
)
written_more a b c xs ys (Pods n w) h k = Appends-trans a b c xs ys h k
written_more a b c xs ys (Texts n w) h k = Appends-trans a b c xs ys h k
written_more a b c xs ys (Pair n w) h k = Appends-trans a b c xs ys h k
written_more a b c xs ys (Lists n m w) h k = Appends-trans a b c xs ys h k
written_more a b c xs ys OutOfMemory h k = Appends-trans a b c xs ys h k
written_more a b c xs ys (Unread n words) h k = Appends-trans a b c xs ys h k

module _ (reading : Reading) (s : Streaming) (remaining : Option (List ℕ)) (holds : List ℕ → Option (List ℕ)) (names : List (Bor (List ℕ))) where
  pub begins : (old : Option (List ℕ)) → StreamedSoFar reading s remaining holds names remaining names (record { refused = 0; nothing = true }) old old
  begins old = record { out = []; nothing = (λ e. refl, λ e. refl); written = Appends-nil old; made = step.begins _ _ remaining holds names [] refl }

  pub goes_on : (now after : Option (List ℕ)) (left behind : List (Bor (List ℕ))) (name : Bor (List ℕ)) (before more all : Made) (old mid new : Option (List ℕ)) →
      left ≡ name ∷ behind → IsKnown (left_behind now name.now) after → Streams (StreamsAs reading s) (content_of now holds name.now) mid new more →
      all.refused ≡ before.refused + more.refused → all.nothing ≡ before.nothing && more.nothing →
      StreamedSoFar reading s remaining holds names now left before old mid → StreamedSoFar reading s remaining holds names after behind all old new
  goes_on now after left behind name before more all old mid new e k w sum none so = record {
    out = so.out ++ w.out;
    nothing =
        subst (λ z. Decides z (so.out ++ w.out ≡ [])) (sym none) (both_nothing before.nothing more.nothing so.out w.out so.nothing w.made.1);
    written = Appends-trans old mid new so.out w.out so.written w.written;
    made =
        step.goes_on _ _ remaining holds names now after left behind name w.input w.out so.out (so.out ++ w.out) more.refused before.refused all.refused e w.read k w.made.0 refl sum
        so.made;
  }

  pub ends : (now : Option (List ℕ)) (left : List (Bor (List ℕ))) (its : Made) (old new : Option (List ℕ)) → left ≡ [] →
      StreamedSoFar reading s remaining holds names now left its old new →
      (out : List ℕ) × AreMade (StreamsAs reading s) remaining holds names out its.refused × Decides its.nothing (out ≡ []) × Appends old new out
  ends now left its old new e so = (so.out, step.ends _ _ remaining holds names now left so.out its.refused e so.made, so.nothing, so.written)

  -- the work ends in one of them
  pub breaks : (now : Option (List ℕ)) (left behind : List (Bor (List ℕ))) (name : Bor (List ℕ)) (its : Made) (old mid new : Option (List ℕ))
      (why : Failure) → left ≡ name ∷ behind → IsBrokenAt reading s name.now (content_of now holds name.now) mid new why →
      StreamedSoFar reading s remaining holds names now left its old mid → IsBroken reading s remaining holds names old new why
  breaks now left behind name its old mid new why e b so = (
    so.out ++ b.1,
    step.stopped _ _ remaining holds names now left behind name b.0 so.out b.1 its.refused why e b.2 b.3 so.made,
    written_more old mid new so.out b.1 why so.written b.4,
  )

-- ---- One input

none_of : (reading : Reading) (s : Streaming) (input : List ℕ) → MakesFirst (StreamsAs reading s) input [] input
none_of reading s input = record { first = []; parts = refl; refused = 0; made = ([], nothing_read reading, nothing_written s 0 0) }

-- so many pods are refused that they can't be counted
pub uncounted : (reading : Reading) (s : Streaming) (name : List ℕ) (content old new : Option (List ℕ)) (its : Made) → Streams (StreamsAs reading s) content old new its →
    IsBrokenAt reading s name content old new OutOfMemory
uncounted reading s name content old new its w = (
  w.input,
  w.out,
  w.read,
  ([], record { first = w.input; parts = sym (append-nil w.input); refused = its.refused; made = w.made.0 }),
  w.written,
)

-- it isn't read
pub unread : (reading : Reading) (s : Streaming) (name : List ℕ) (content old : Option (List ℕ)) (why : Failure) → IsUnread why → IsBrokenAt reading s name content old old why
unread reading s name content old why u = of (known content) u
  where
    known : (content : Option (List ℕ)) → (input : List ℕ) × IsAllOf content input
    known None = ([], tt)
    known (Some xs) = (xs, refl)

    of : (input : List ℕ) × IsAllOf content input → IsUnread why → IsBrokenAt reading s name content old old why
    of k (inl e) = subst (IsBrokenAt reading s name content old old) (sym e) (k.0, [], k.1, (k.0, none_of reading s k.0), Appends-nil old)
    of k (inr e) = subst (IsBrokenAt reading s name content old old) (sym e.2) (k.0, [], k.1, (k.0, none_of reading s k.0), Appends-nil old)

-- it ends before it is done
module _ (reading : Reading) (s : Streaming) (name : Bor (List ℕ)) (content old mid new : Option (List ℕ)) where
  abbrev pub StopsBy : Stop → Type 0
  StopsBy e = Stops reading (MayStop reading (MayRefuse s)) (StreamsAs reading s) content old mid e

  abbrev pub BreaksBy : Failure → Type 0
  BreaksBy why = IsBrokenAt reading s name.now content old new why

  no_memory : (why : Failure) → why ≡ OutOfMemory → Appends mid new [] → StopsBy stop.OutOfMemory → BreaksBy why
  no_memory why t w h = subst BreaksBy (sym t) (h.input, h.out, h.its, h.ends, appends_on old mid new h.out h.written w)

  read_fails : (why : Failure) → IsFailureOf reading name stop.ReadFailed why → Appends mid new [] → StopsBy stop.ReadFailed → BreaksBy why
  read_fails why t w h = subst BreaksBy (sym t.3) (h.input, h.out, h.its, h.ends, appends_on old mid new h.out h.written w)

  write_fails : (why : Failure) → why ≡ Unwritten None → Appends mid new [] → StopsBy stop.WriteFailed → BreaksBy why
  write_fails why t w h =
      let k = h.written in
      subst BreaksBy (sym t)
      (h.input, h.out, h.its, (refl, inl (h.ends.0, h.ends.1)), (k.0, k.1, appends_on old mid new (take k.1 h.out) k.2 w))

  -- the pod at which it ends, and what is shown of it
  ends_shown : (input out made last : List ℕ) (number place number' place' : ℕ) (read : List ℕ) → out ≡ made ++ last → number' ≡ number → place' ≡ place →
      EndsAtPod reading (MayStop reading (MayRefuse s)) (StreamsAs reading s) input made number place read →
      ShowsLast (shown_as reading s) number place read last → EndsShown reading s input out number' place' read
  ends_shown input out made last number place number' place' read parts n p ends shown =
      subst (λ z. EndsShown reading s input out z place' read) (sym n)
      (subst (λ z. EndsShown reading s input out number z read) (sym p)
      (record { made = made; last = last; parts = parts; ends = ends; shown = shown }))

  none_shown : (number place : ℕ) (read : List ℕ) → None ≡ shown_as reading s → ShowsLast (shown_as reading s) number place read []
  none_shown number place read e = subst (λ z. ShowsLast z number place read []) e refl

  at_pod : (number place : ℕ) (read : Vec ℕ Global) (why : Failure) → None ≡ shown_as reading s → IsRefusedAs reading name.now number place read.items why →
      Appends mid new [] → StopsBy (stop.Pod number place read) → BreaksBy why
  at_pod number place read (Pods n w) e t k h = (
    h.input,
    h.out,
    h.its,
    (
      t.0,
      read.items,
      ends_shown h.input h.out h.out [] number place w.number w.place read.items (sym (append-nil h.out)) t.1 t.2 h.ends (none_shown number place read.items e),
      t.3,
    ),
    appends_on old mid new h.out h.written k,
  )
  at_pod number place read OutOfMemory e t k h = (h.input, h.out, h.its, (h.ends.left, h.ends.made), appends_on old mid new h.out h.written k)
  at_pod number place read (Texts n w) e t k h = absurd t
  at_pod number place read (Pair n w) e t k h = absurd t
  at_pod number place read (Lists n m w) e t k h = absurd t
  at_pod number place read (Unread n words) e t k h = absurd t
  at_pod number place read (Unwritten n) e t k h = absurd t

  at_shown : (printing : Printing) (number place : ℕ) (read : Vec ℕ Global) (why : Failure) → Some printing ≡ shown_as reading s →
      IsLastShown printing reading name.now number place read.items mid new why → StopsBy (stop.Pod number place read) → BreaksBy why
  at_shown printing number place read (Pods n w) e t h =
      let last = t.1.0 in
      let shows = subst (λ z. ShowsLast z number place read.items last) e t.1.1 in (
        h.input,
        h.out ++ last,
        h.its,
        (t.0.0, read.items, ends_shown h.input (h.out ++ last) h.out last number place w.number w.place read.items refl t.0.1 t.0.2 h.ends shows, t.0.3),
        Appends-trans old mid new h.out last h.written t.1.2,
      )
  at_shown printing number place read (Unwritten n) e t h =
      let last = t.1 in
      let shows = subst (λ z. ShowsLast z number place read.items last) e t.2 in (
        h.input,
        h.out ++ last,
        h.its,
        (t.0, inr (number, place, read.items, ends_shown h.input (h.out ++ last) h.out last number place number place read.items refl refl refl h.ends shows)),
        written_more old mid new h.out last (Unwritten n) h.written t.3,
      )
  at_shown printing number place read OutOfMemory e t h = (h.input, h.out, h.its, (h.ends.left, h.ends.made), appends_on old mid new h.out h.written t)
  at_shown printing number place read (Texts n w) e t h = absurd t
  at_shown printing number place read (Pair n w) e t h = absurd t
  at_shown printing number place read (Lists n m w) e t h = absurd t
  at_shown printing number place read (Unread n words) e t h = absurd t

  pub broken : (shown : Option Printing) (e : Stop) (why : Failure) → shown ≡ shown_as reading s → IsEndOf shown reading name e mid new why → StopsBy e →
      BreaksBy why
  broken None stop.OutOfMemory why i t h = no_memory why t.0 t.1 h
  broken None stop.ReadFailed why i t h = read_fails why t.0 t.1 h
  broken None stop.WriteFailed why i t h = write_fails why t.0 t.1 h
  broken None (stop.Pod number place read) why i t h = at_pod number place read why i t.0 t.1 h
  broken (Some printing) stop.OutOfMemory why i t h = no_memory why t.0 t.1 h
  broken (Some printing) stop.ReadFailed why i t h = read_fails why t.0 t.1 h
  broken (Some printing) stop.WriteFailed why i t h = write_fails why t.0 t.1 h
  broken (Some printing) (stop.Pod number place read) why i t h = at_shown printing number place read why i t h

-- a last pod that is shown isn't whole
pub cut_in : (reading : Reading) (s : Streaming) (shown : Option Printing) (content old new : Option (List ℕ)) (e : Stop) → shown ≡ shown_as reading s →
    Stops reading (MayStop reading (MayRefuse s)) (StreamsAs reading s) content old new e → IsCutIn shown e
cut_in reading s shown content old new e i h = subst (λ z. IsCutIn z e) (sym i) (of reading s e h)
  where
    of : (reading : Reading) (s : Streaming) (e : Stop) → Stops reading (MayStop reading (MayRefuse s)) (StreamsAs reading s) content old new e →
        IsCutIn (shown_as reading s) e
    of Exact (streaming.Print printing) (stop.Pod number place read) h =
        elim h.ends.ahead.enough [
          | inl f ↦ absurd f.1
          | inr f ↦ f.0
        ]
    of Exact (streaming.Print printing) stop.OutOfMemory h = tt
    of Exact (streaming.Print printing) stop.ReadFailed h = tt
    of Exact (streaming.Print printing) stop.WriteFailed h = tt
    of Exact (streaming.Json style) e h = tt
    of Exact streaming.Rewrite e h = tt
    of Exact streaming.Check e h = tt
    of Lenient s e h = tt

-- a refused pod is none
pub no_pod : (reading : Reading) (s : Streaming) (content old new : Option (List ℕ)) (e : Stop) → Stops reading (MayStop reading (MayRefuse s)) (StreamsAs reading s) content old new e → HasNoPod reading e
no_pod reading s content old new stop.OutOfMemory h = tt
no_pod reading s content old new stop.ReadFailed h = tt
no_pod reading s content old new stop.WriteFailed h = tt
no_pod reading s content old new (stop.Pod number place read) h = h.ends.ahead.no_pod

-- what is known of a file's bytes is known of the file
pub all_of : (content remaining : Option (List ℕ)) (input : List ℕ) → IsOpened content remaining → IsAllOf remaining input → IsAllOf content input
all_of None remaining input o all = tt
all_of (Some xs) remaining input o all = subst (λ r. IsAllOf r input) o all

pub streams_file : (reading : Reading) (s : Streaming) (content remaining old new : Option (List ℕ)) (its : Made) → IsOpened content remaining →
    Streams (StreamsAs reading s) remaining old new its → Streams (StreamsAs reading s) content old new its
streams_file reading s content remaining old new its o w = record {
  input = w.input;
  read = all_of content remaining w.input o w.read;
  out = w.out;
  made = w.made;
  written = w.written;
}

pub broken_file : (reading : Reading) (s : Streaming) (name : List ℕ) (content remaining old new : Option (List ℕ)) (why : Failure) → IsOpened content remaining →
    IsBrokenAt reading s name remaining old new why → IsBrokenAt reading s name content old new why
broken_file reading s name content remaining old new why o b = (b.0, b.1, all_of content remaining b.0 o b.2, b.3, b.4)

pub file_streamed : (reading : Reading) (s : Streaming) (content remaining old new : Option (List ℕ)) (r : Result Made Failure) → IsOpened content remaining →
    IfOk r (Streams (StreamsAs reading s) remaining old new) → IfOk r (Streams (StreamsAs reading s) content old new)
file_streamed reading s content remaining old new (Ok n) o w = streams_file reading s content remaining old new n o w
file_streamed reading s content remaining old new (Err e) o w = tt

pub file_broken : {T : Type 0} (reading : Reading) (s : Streaming) (name : List ℕ) (content remaining old new : Option (List ℕ)) (r : Result T Failure) →
    IsOpened content remaining → IfErr r (IsBrokenAt reading s name remaining old new) → IfErr r (IsBrokenAt reading s name content old new)
file_broken reading s name content remaining old new (Ok x) o b = tt
file_broken reading s name content remaining old new (Err why) o b = broken_file reading s name content remaining old new why o b

-- ---- The run

-- it says that something was found where that is so
pub found_by : (sought : Option Selection) (its : Made) (out : List ℕ) → Decides its.nothing (out ≡ []) → (sought ≡ None) ⊎ (its.nothing ≡ false) →
    IsFound sought out
found_by None its out d h = tt
found_by (Some selection) its out d (inl h) = absurd (true≢false (ap is_some h))
found_by (Some selection) its out d (inr h) = λ e. true≢false (sym (d.1 e) ∙ h)

-- all was written as it came
pub all_written : (reading : Reading) (s : Streaming) (remaining : Option (List ℕ)) (holds : List ℕ → Option (List ℕ))
    (names : List (Bor (List ℕ))) (old new : Option (List ℕ)) (its : Made) (answer : Answer) →
    (sought : Option Selection) → sought ≡ looked_for s → IsOutcome sought its answer →
    ((out : List ℕ) × AreMade (StreamsAs reading s) remaining holds names out its.refused × Decides its.nothing (out ≡ []) × Appends old new out) →
    IsWrittenAs reading s answer (course remaining names (outlet None old new holds holds))
all_written reading s remaining holds names old new its answer sought looks is w = of is
  where
    o : Outlet
    o = outlet None old new holds holds

    gets : Gets None o w.0
    gets = (w.3, λ name. refl)

    of : IsOutcome sought its answer → IsWrittenAs reading s answer (course remaining names o)
    of (inl e) =
        subst (λ a. IsWrittenAs reading s a (course remaining names o)) (sym e.2) (
          w.0,
          (
            subst (AreMade (StreamsAs reading s) remaining holds names w.0) e.0 w.1,
            subst (λ z. IsFound z w.0) looks (found_by sought its w.0 w.2 e.1),
          ),
          gets,
        )
    of (inr (inl e)) = subst (λ a. IsWrittenAs reading s a (course remaining names o)) (sym e.1) (e.0, (w.0, w.1, gets))
    of (inr (inr e)) =
        subst (λ a. IsWrittenAs reading s a (course remaining names o)) (sym e.4)
        (sym looks ∙ e.3, (w.0, (subst (AreMade (StreamsAs reading s) remaining holds names w.0) e.1 w.1, w.2.0 e.2), gets))

pub part_written : (reading : Reading) (s : Streaming) (remaining : Option (List ℕ)) (holds : List ℕ → Option (List ℕ))
    (names : List (Bor (List ℕ))) (old new : Option (List ℕ)) (why : Failure) → IsBroken reading s remaining holds names old new why →
    IsWrittenAs reading s (Refused why) (course remaining names (outlet None old new holds holds))
part_written reading s remaining holds names old new why b = (b, λ name. refl)

-- an option that `--stream` excludes is misuse
pub misused : (s : Streaming) (reading : Reading) (fate : Fate) (target : Option (Bor (List ℕ))) (remaining : Option (List ℕ))
    (holds : List ℕ → Option (List ℕ)) (names : List (Bor (List ℕ))) (old : Option (List ℕ)) (other : Excluded) →
    IsExcluded fate target other → IsStreamed s reading fate (Misused (WithStream other)) (course remaining names (outlet target old old holds holds))
misused s reading fate target remaining holds names old other e = inr (other, e, (refl, untouched target old holds))

-- without one it is done
pub streamed : (s : Streaming) (reading : Reading) (fate : Fate) (target : Option (Bor (List ℕ))) (answer : Answer) (remaining : Option (List ℕ))
    (names : List (Bor (List ℕ))) (old new : Option (List ℕ)) (before after : List ℕ → Option (List ℕ)) → target ≡ None →
    IsStreamedBy s reading fate answer (course remaining names (outlet None old new before after)) →
    IsStreamed s reading fate answer (course remaining names (outlet target old new before after))
streamed s reading fate target answer remaining names old new before after t w = rw t (inl (refl, w))

-- where refused pods are refused, what was made till the work ended was written
pub stopped_by : (s : Streaming) (reading : Reading) (fate : Fate) (answer : Answer) (c : Course) →
    fate ≡ StopsThere → IsWrittenAs reading s answer c → IsStreamedBy s reading fate answer c
stopped_by s reading fate answer c e w = subst (λ z. IsStreamedBy s reading z answer c) (sym e) w

-- else pods are worked on, or the options exclude each other
pub passed_by : (s : Streaming) (reading : Reading) (fate : Fate) (refused : OfRefused) (making : Making) (answer : Answer)
    (c : Course) → fate ≡ GoesOn refused → Some making ≡ made_as s →
    IsStreamedInPart reading refused making answer c → IsStreamedBy s reading fate answer c
passed_by s reading fate refused making answer c e m w =
    subst (λ z. IsStreamedBy s reading z answer c) (sym e) (subst (λ z. IsPassed z reading refused answer c) m w)

-- the work is done block by block
pub blocks_by : (fate : Fate) (refused : OfRefused) (making : Making) → fate ≡ GoesOn refused → MayStream fate → IsMadeOfEach making →
    IsMadeInBlocks refused making
blocks_by fate refused making e ends each = (each, subst MayStream e ends)

pub parts_by : (s : Streaming) (reading : Reading) (fate : Fate) (refused : OfRefused) (remaining : Option (List ℕ))
    (holds : List ℕ → Option (List ℕ)) (names : List (Bor (List ℕ))) (old : Option (List ℕ)) → fate ≡ GoesOn refused → None ≡ made_as s →
    IsStreamedBy s reading fate (Misused (WithPart refused)) (course remaining names (outlet None old old holds holds))
parts_by s reading fate refused remaining holds names old e m =
    subst (λ z. IsStreamedBy s reading z (Misused (WithPart refused)) (course remaining names (outlet None old old holds holds))) (sym e)
    (subst (λ z. IsPassed z reading refused (Misused (WithPart refused)) (course remaining names (outlet None old old holds holds))) m
    (refl, untouched None old holds))

-- ---- Lines that go to a file

-- the lines of all went to the file, or that couldn't be written
pub shown_in : (printing : Printing) (c : Course) (lines out : List ℕ) (its : Made) (given answer : Answer) →
    (sought : Option Selection) → sought ≡ looked_for (streaming.Print printing) → IsOutcome sought its given →
    AreMade (StreamsAs Exact (streaming.Print printing)) c.remaining c.outlet.before c.names out its.refused → Decides its.nothing (out ≡ []) →
    Appends (Some []) (Some lines) out → IsSent lines given answer c.outlet → IsShownIn printing answer c
shown_in printing c lines out its given answer sought looks (inl e) made d is (inl k) =
    subst (λ a. IsShownIn printing a c) (sym (k.0 ∙ e.2)) (
      out,
      (
        subst (AreMade (StreamsAs Exact (streaming.Print printing)) c.remaining c.outlet.before c.names out) e.0 made,
        subst (λ z. IsFound z out) looks (found_by sought its out d e.1),
      ),
      subst (Gets c.outlet.target c.outlet) is k.1,
    )
shown_in printing c lines out its given answer sought looks (inr (inl e)) made d is (inl k) =
    subst (λ a. IsShownIn printing a c) (sym (k.0 ∙ e.1)) (e.0, (out, made, subst (Gets c.outlet.target c.outlet) is k.1))
shown_in printing c lines out its given answer sought looks (inr (inr e)) made d is (inl k) =
    subst (λ a. IsShownIn printing a c) (sym (k.0 ∙ e.4)) (
      sym looks ∙ e.3,
      (
        out,
        (subst (AreMade (StreamsAs Exact (streaming.Print printing)) c.remaining c.outlet.before c.names out) e.1 made, d.0 e.2),
        subst (Gets c.outlet.target c.outlet) is k.1,
      ),
    )
shown_in printing c lines out its given answer sought looks e made d is (inr k) =
    subst (λ a. IsShownIn printing a c) (sym k.1)
    (inr (k.2, (lines, (its.refused, subst (λ z. AreMade (StreamsAs Exact (streaming.Print printing)) c.remaining c.outlet.before c.names z its.refused) (sym is) made), k.3)))

-- not all inputs are shown
pub unshown : (printing : Printing) (target : Option (Bor (List ℕ))) (remaining : Option (List ℕ)) (holds : List ℕ → Option (List ℕ)) (names : List (Bor (List ℕ)))
    (old first last : Option (List ℕ)) (why : Failure) → IsBroken Exact (streaming.Print printing) remaining holds names first last why →
    IsShownIn printing (Refused why) (course remaining names (outlet target old old holds holds))
unshown printing target remaining holds names old first last why b = inl (inr (b.0, b.1), untouched target old holds)

pub unshown_lines : (printing : Printing) (target : Option (Bor (List ℕ))) (remaining : Option (List ℕ)) (holds : List ℕ → Option (List ℕ)) (names : List (Bor (List ℕ)))
    (old : Option (List ℕ)) → IsShownIn printing (Refused OutOfMemory) (course remaining names (outlet target old old holds holds))
unshown_lines printing target remaining holds names old = inl (inl refl, untouched target old holds)
