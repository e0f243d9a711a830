-- Inputs that are worked on as they come, behind refused pods too.
use Rattle.std.proofs.Common.{◌≡◌, ◌≢◌, ◌∙◌, ◌∷◌, ◌++◌, [], ap, append_assoc, append-nil, arith, inl, inr, length, refl, subst, sym, List, ℕ, Option, Some, None}
use Rattle.std.proofs.KnownBytes.{Appends-nil, Appends-trans}
use Rattle.std.specs.Borrow.{Bor}
use Rattle.std.specs.Global.{Global}
use Rattle.std.specs.Io.KnownBytes.{Appends}
use Rattle.std.specs.Prelude.{IfErr, IfOk, Result, Ok, Err, Vec}
use Rattle.spa_device.specs.Whole.{IsAllOf}
use Rattle.spa_format.specs.Pod.{AreMembers}
use Rattle.spa_format.specs.Tree.{Trees, no_trees}
use Rattle.spa_format.specs.Walk.{walk}
use Rattle.spa_recordings.specs.Blocks.{no_pods}
use Rattle.spa_recordings.specs.GoingOn.{MakesOf, ends, no_overlap}
use Rattle.spa_recordings.specs.Passing.{AreBlocks, IsWrittenTill, StopsWork, WorksThrough, nothing, one_more}
use Rattle.spa_recordings.specs.declared.going_on.Refused.{Refused}
use Rattle.spa_recordings.specs.declared.reading.Reading.{Reading}
use Rattle.spa_recordings.specs.declared.reading.Reading.TheVariants.{Exact, Lenient}
use Rattle.spa_recordings.specs.declared.streaming.Stop.{Stop}
use Rattle.spa_recordings.specs.declared.streaming.Stop.TheVariants as stop
use Rattle.spa_refusals.specs.declared.several.NamedRefusal.{NamedRefusal}
use Rattle.pod_commands.specs.Answers.{IsStreamedInPart, IsUnread, course, outlet}
use Rattle.pod_commands.specs.Inputs.{IsKnown, IsOpened, content_of, left_behind}
use Rattle.pod_commands.specs.Making.{Makes}
use Rattle.pod_commands.specs.Passing.{WorksOnBlock}
use Rattle.pod_commands.specs.StreamLaws.{nothing_written, written_more}
use Rattle.pod_commands.specs.Streaming.{EndsInPart, HasNoPod, IsBrokenInPart, IsBrokenInPartAt, IsFailureOf, IsMadeInBlocks, IsMadeOfEach, MakesFirstInPart, MakesInPart, PassesOver}
use Rattle.pod_commands.specs.Working.{AreWorked, WorksOn}
use Rattle.pod_commands.specs.declared.answer.Answer.TheVariants.{Done, Passed, Refused as RefusedFor}
use Rattle.pod_commands.specs.declared.answer.Failure.{Failure}
use Rattle.pod_commands.specs.declared.passing.Worker.{Worker}
use Rattle.pod_commands.specs.declared.request.Making.{Making}
use Rattle.pod_commands.specs.declared.request.Making.TheVariants as making
use Rattle.pod_commands.specs.declared.request.Streaming.TheVariants as streaming
use Rattle.pod_commands.proofs.Joined.{fronts, joined, said_joined}
use Rattle.pod_commands.proofs.Made.{MadeSoFar}
use Rattle.pod_commands.proofs.Made as step
use Rattle.pod_commands.proofs.Streamed.{all_of, written_more as more_written}
use Rattle.pod_commands.proofs.Worked.{WorkedSoFar}
use Rattle.pod_commands.proofs.Worked as worked

-- ---- What is made of each pod

joins : (m : Making) → IsMadeOfEach m → (a b x y : List ℕ) → Makes m a x → Makes m b y → Makes m (a ++ b) (x ++ y)
joins (making.Json style) e a b x y h k = (written_more (streaming.Json style) 0 0 a b x y 0 0 (h, refl) (k, refl)).0
joins (making.Dump colours) e a b x y h k = absurd e
joins (making.Read strictness) e a b x y h k = absurd e
joins making.Rewrite e a b x y h k = (written_more streaming.Rewrite 0 0 a b x y 0 0 (h, refl) (k, refl)).0
joins making.Fixate e a b x y h k = absurd e
joins making.Settle e a b x y h k = absurd e
joins (making.Print printing) e a b x y h k = absurd e
joins making.Check e a b x y h k =
    let w = written_more streaming.Check 0 0 a b x y 0 0 (h.0, h.1, refl) (k.0, k.1, refl) in (w.0, w.1)

members : (m : Making) → IsMadeOfEach m → (a x : List ℕ) → Makes m a x → (vs : Trees) × AreMembers vs a
members (making.Json style) e a x h = (h.1.0, h.1.1)
members (making.Dump colours) e a x h = absurd e
members (making.Read strictness) e a x h = absurd e
members making.Rewrite e a x h = (h.0, h.1)
members making.Fixate e a x h = absurd e
members making.Settle e a x h = absurd e
members (making.Print printing) e a x h = absurd e
members making.Check e a x h = h.1

nothing_made : (m : Making) → IsMadeOfEach m → Makes m [] []
nothing_made (making.Json style) e = (nothing_written (streaming.Json style) 0 0).0
nothing_made (making.Dump colours) e = absurd e
nothing_made (making.Read strictness) e = absurd e
nothing_made making.Rewrite e = (nothing_written streaming.Rewrite 0 0).0
nothing_made making.Fixate e = absurd e
nothing_made making.Settle e = absurd e
nothing_made (making.Print printing) e = absurd e
nothing_made making.Check e = (refl, (no_trees, refl))

none_made : (reading : Reading) (m : Making) → IsMadeOfEach m → MakesOf reading (Makes m) [] []
none_made Exact m e = ([], refl, nothing_made m e)
none_made Lenient m e = ([], (no_trees, refl, refl), nothing_made m e)

-- ---- Blocks

-- how far the work on an input is
pub record WorkedTo (start state : Worker) (first out : List ℕ) : Type 0 where
  pub job : state.job ≡ start.job
  pub works : WorksOn start.job.manner.reading start.job.manner.refused start.job.making start.job.name.now 0 0 first out start.said.items state.said.items

pub blocks_worked : (start state : Worker) (first out : List ℕ) → IsMadeInBlocks start.job.manner.refused start.job.making → AreBlocks WorksOnBlock start state first out →
    WorkedTo start state first out
blocks_worked start _ _ _ e nothing = record {
  job = refl;
  works = record {
    pods = [];
    these = [];
    goes_on = ends no_overlap 0 0 [] [] (none_made start.job.manner.reading start.job.making e.0);
    said = refl;
    added = sym (append-nil start.said.items);
  };
}
blocks_worked start _ _ _ e (one_more mid new first block out made before whole k) =
    let so = blocks_worked start mid first out e before in
    let w = so.works in
    let reading = start.job.manner.reading in
    let refused = start.job.manner.refused in
    let name = start.job.name.now in
    let m = Makes start.job.making in
    let its : WorksOn reading refused start.job.making name (length (walk first)) (length first) block made mid.said.items new.said.items =
    subst (λ j. WorksOn j.manner.reading j.manner.refused j.making j.name.now (length (walk first)) (length first) block made mid.said.items new.said.items) so.job
    k.works in
    record {
      job = k.job ∙ so.job;
      works = record {
        pods = w.pods ++ its.pods;
        these = w.these ++ its.these;
        goes_on =
            joined name reading refused m (joins start.job.making e.0) (members start.job.making e.0) e.1 no_overlap 0 0 (length (walk first)) (length first) first block out made
            w.pods its.pods whole (omega arith) (omega arith) w.goes_on its.goes_on;
        said =
            said_joined reading first block (length first) w.pods its.pods w.these its.these refl
            (fronts name reading refused m (joins start.job.making e.0) (members start.job.making e.0) e.1 no_overlap first first out 0 0 w.pods whole refl (omega arith)
            w.goes_on) w.said its.said;
        added = its.added ∙ ap (λ z. z ++ its.these) w.added ∙ append_assoc start.said.items w.these its.these;
      };
    }

-- ---- One input

-- all of it was worked on
pub passed : (start end : Worker) (content old new : Option (List ℕ)) → IsMadeInBlocks start.job.manner.refused start.job.making → WorksThrough WorksOnBlock start end content old new →
    PassesOver start.job.manner.reading start.job.manner.refused start.job.making start.job.name.now content old new start.said.items end.said.items
passed start end content old new e w =
    let so = blocks_worked start end w.input w.out e w.made in
    record { input = w.input; its = w.read; out = w.out; works = so.works; written = w.written }

-- the work ended before
pub broken : (start : Worker) (name : Bor (List ℕ)) (content old new : Option (List ℕ)) (why : Stop) (failure : Failure) → IsMadeInBlocks start.job.manner.refused start.job.making →
    name.now ≡ start.job.name.now → IsFailureOf start.job.manner.reading name why failure → StopsWork WorksOnBlock start content old new why →
    IsBrokenInPartAt start.job.manner.reading start.job.manner.refused start.job.making start.job.name.now content old new failure
broken start name content old new why failure e same t h = of why t h.written
  where
    first : MakesFirstInPart start.job.manner.reading start.job.manner.refused start.job.making start.job.name.now h.input h.out
    first =
        let so = blocks_worked start h.state h.first h.out e h.made in
        record { first = h.first; left = h.left; parts = h.parts; whole = h.behind; pods = so.works.pods; made = so.works.goes_on }

    of : (why : Stop) → IsFailureOf start.job.manner.reading name why failure → IsWrittenTill why old new h.out →
        IsBrokenInPartAt start.job.manner.reading start.job.manner.refused start.job.making start.job.name.now content old new failure
    of (stop.Pod number place read) t w = absurd w
    of stop.OutOfMemory t w =
        subst (IsBrokenInPartAt start.job.manner.reading start.job.manner.refused start.job.making start.job.name.now content old new) (sym t)
        (h.input, h.out, h.its, first, w)
    of stop.ReadFailed t w =
        subst (IsBrokenInPartAt start.job.manner.reading start.job.manner.refused start.job.making start.job.name.now content old new) (sym t.3)
        (h.input, h.out, h.its, first, w)
    of stop.WriteFailed t w =
        subst (IsBrokenInPartAt start.job.manner.reading start.job.manner.refused start.job.making start.job.name.now content old new) (sym t)
        (h.input, h.out, h.its, (refl, first), w)

-- no pod ends it
pub no_pod : (start : Worker) (content old new : Option (List ℕ)) (why : Stop) → StopsWork WorksOnBlock start content old new why → HasNoPod start.job.manner.reading why
no_pod start content old new (stop.Pod number place read) h = absurd h.written
no_pod start content old new stop.OutOfMemory h = tt
no_pod start content old new stop.ReadFailed h = tt
no_pod start content old new stop.WriteFailed h = tt

module _ (reading : Reading) (refused : Refused) (making : Making) where
  -- it isn't read
  pub unread : (name : List ℕ) (content old : Option (List ℕ)) (why : Failure) → IsMadeInBlocks refused making → IsUnread why →
      IsBrokenInPartAt reading refused making name content old old why
  unread name content old why e u = of (known content) u
    where
      known : (content : Option (List ℕ)) → (input : List ℕ) × IsAllOf content input
      known None = ([], tt)
      known (Some xs) = (xs, refl)

      none_of : (input : List ℕ) → MakesFirstInPart reading refused making name input []
      none_of input =
          record { first = []; left = input; parts = refl; whole = inl no_pods; pods = []; made = ends no_overlap 0 0 [] [] (none_made reading making e.0) }

      of : (input : List ℕ) × IsAllOf content input → IsUnread why → IsBrokenInPartAt reading refused making name content old old why
      of k (inl u) =
          subst (IsBrokenInPartAt reading refused making name content old old) (sym u) (k.0, [], k.1, none_of k.0, Appends-nil old)
      of k (inr u) =
          subst (IsBrokenInPartAt reading refused making name content old old) (sym u.2) (k.0, [], k.1, none_of k.0, Appends-nil old)

  -- what is known of a file's bytes is known of the file
  file_passed : (name : List ℕ) (content remaining old new : Option (List ℕ)) (olds news : List NamedRefusal) → IsOpened content remaining →
      PassesOver reading refused making name remaining old new olds news → PassesOver reading refused making name content old new olds news
  file_passed name content remaining old new olds news o w =
      record { input = w.input; its = all_of content remaining w.input o w.its; out = w.out; works = w.works; written = w.written }

  file_broken : (name : List ℕ) (content remaining old new : Option (List ℕ)) (why : Failure) → IsOpened content remaining →
      IsBrokenInPartAt reading refused making name remaining old new why → IsBrokenInPartAt reading refused making name content old new why
  file_broken name content remaining old new why o b = (b.0, b.1, all_of content remaining b.0 o b.2, b.3, b.4)

  pub file_passes : {T : Type 0} (items : T → List NamedRefusal) (name : List ℕ) (content remaining old new : Option (List ℕ)) (olds : List NamedRefusal)
      (r : Result T Failure) → IsOpened content remaining →
      IfOk r (λ t. PassesOver reading refused making name remaining old new olds (items t)) →
      IfOk r (λ t. PassesOver reading refused making name content old new olds (items t))
  file_passes items name content remaining old new olds (Ok t) o w = file_passed name content remaining old new olds (items t) o w
  file_passes items name content remaining old new olds (Err e) o w = tt

  pub file_breaks : {T : Type 0} (name : List ℕ) (content remaining old new : Option (List ℕ)) (r : Result T Failure) → IsOpened content remaining →
      IfErr r (IsBrokenInPartAt reading refused making name remaining old new) → IfErr r (IsBrokenInPartAt reading refused making name content old new)
  file_breaks name content remaining old new (Ok t) o b = tt
  file_breaks name content remaining old new (Err why) o b = file_broken name content remaining old new why o b

  -- ---- Several inputs

  module _ (remaining : Option (List ℕ)) (holds : List ℕ → Option (List ℕ)) (names : List (Bor (List ℕ))) where
    -- how far the work is: these bytes are written, and they are what is made of the inputs so far
    pub record PassedSoFar (now : Option (List ℕ)) (left : List (Bor (List ℕ))) (said : List NamedRefusal) (old new : Option (List ℕ)) : Type 0 where
      pub out : List ℕ
      pub written : Appends old new out
      pub works : WorkedSoFar reading refused making remaining holds names now left out said
      pub made : MadeSoFar (λ input made n. MakesInPart reading refused making input made) (EndsInPart reading refused making) remaining holds names now left out 0

    pub begins : (old : Option (List ℕ)) (said : List NamedRefusal) → said ≡ [] → PassedSoFar remaining names said old old
    begins old said e = record {
      out = [];
      written = Appends-nil old;
      works = worked.begins reading refused making remaining holds names [] said refl e;
      made = step.begins _ _ remaining holds names [] refl;
    }

    pub goes_on : (now after : Option (List ℕ)) (left behind : List (Bor (List ℕ))) (name : Bor (List ℕ)) (olds news : List NamedRefusal)
        (old mid new : Option (List ℕ)) → left ≡ name ∷ behind → IsKnown (left_behind now name.now) after →
        PassesOver reading refused making name.now (content_of now holds name.now) mid new olds news → PassedSoFar now left olds old mid →
        PassedSoFar after behind news old new
    goes_on now after left behind name olds news old mid new e k w so = record {
      out = so.out ++ w.out;
      written = Appends-trans old mid new so.out w.out so.written w.written;
      works =
          worked.goes_on reading refused making remaining holds names now after left behind name w.input w.out so.out (so.out ++ w.out) olds news e w.its k
          (worked.all_through reading refused making name.now w.input w.out olds news w.works) refl
          so.works;
      made =
          step.goes_on _ _ remaining holds names now after left behind name w.input w.out so.out (so.out ++ w.out) 0 0 0 e w.its k
          (name.now, w.works.pods, w.works.goes_on) refl refl so.made;
    }

    pub finished : (now : Option (List ℕ)) (left : List (Bor (List ℕ))) (said : List NamedRefusal) (old new : Option (List ℕ)) → left ≡ [] →
        PassedSoFar now left said old new →
        (out : List ℕ) × AreWorked reading refused making remaining holds names out said × Appends old new out
    finished now left said old new e so =
        (so.out, worked.finished reading refused making remaining holds names now left so.out said e so.works, so.written)

    -- the work ends in one of them
    pub breaks : (now : Option (List ℕ)) (left behind : List (Bor (List ℕ))) (name : Bor (List ℕ)) (said : List NamedRefusal) (old mid new : Option (List ℕ))
        (why : Failure) → left ≡ name ∷ behind → IsBrokenInPartAt reading refused making name.now (content_of now holds name.now) mid new why →
        PassedSoFar now left said old mid → IsBrokenInPart reading refused making remaining holds names old new why
    breaks now left behind name said old mid new why e b so = (
      so.out ++ b.1,
      step.stopped _ _ remaining holds names now left behind name b.0 so.out b.1 0 why e b.2 b.3 so.made,
      more_written old mid new so.out b.1 why so.written b.4,
    )

    -- ---- The run

    -- all was written as it came, and these pods were refused
    pub none_refused : (old new : Option (List ℕ)) (said : List NamedRefusal) → said ≡ [] →
        ((out : List ℕ) × AreWorked reading refused making remaining holds names out said × Appends old new out) →
        IsStreamedInPart reading refused making Done (course remaining names (outlet None old new holds holds))
    none_refused old new said e w =
        (w.0, subst (AreWorked reading refused making remaining holds names w.0) e w.1, (w.2, λ name. refl))

    pub some_refused : (old new : Option (List ℕ)) (said : Vec NamedRefusal Global) → said.items ≢ [] →
        ((out : List ℕ) × AreWorked reading refused making remaining holds names out said.items × Appends old new out) →
        IsStreamedInPart reading refused making (Passed said) (course remaining names (outlet None old new holds holds))
    some_refused old new said e w = (e, (w.0, w.1, (w.2, λ name. refl)))

    pub ended : (old new : Option (List ℕ)) (why : Failure) → IsBrokenInPart reading refused making remaining holds names old new why →
        IsStreamedInPart reading refused making (RefusedFor why) (course remaining names (outlet None old new holds holds))
    ended old new why b = (b, λ name. refl)
