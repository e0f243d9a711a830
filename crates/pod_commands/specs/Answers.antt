-- What a run writes, and what it says of that: docs/PROVED.md, "The programs".
use Rattle.std.specs.Prelude.{◌≡◌, ◌≢◌, ◌⊎◌, ⊤, ℕ, true, false, codes, List, [], ◌∷◌, ◌++◌, Option, Some, None, Ok, if◌then◌else◌, take}
use Rattle.std.specs.Borrow.{Bor}
use Rattle.std.specs.Io.KnownBytes.{Appends, Keeps}
use Rattle.std.specs.Fmt.{decimal}
use Rattle.std.specs.Str.{bytes_eq}
use Rattle.clap.specs.Faults.{fault_of}
use Rattle.clap.specs.Kinds.{IsAmong}
use Rattle.clap.specs.Values.{kind_of}
use Rattle.clap.specs.Walk.{texts}
use Rattle.clap.specs.declared.error.Error.{Error}
use Rattle.clap.specs.declared.error.kind.ErrorKind.{ErrorKind}
use Rattle.clap.specs.declared.error.kind.ErrorKind.TheVariants as kind
use Rattle.spa_device.specs.Whole.{IsAllOf}
use Rattle.spa_recordings.specs.GoingOn.{EndsBySize}
use Rattle.spa_recordings.specs.declared.going_on.Gap.{Gap}
use Rattle.spa_recordings.specs.declared.going_on.Refused.{Refused as OfRefused}
use Rattle.spa_recordings.specs.declared.going_on.Refused.TheVariants.{Resynced}
use Rattle.spa_recordings.specs.declared.reading.Reading.{Reading}
use Rattle.spa_recordings.specs.declared.reading.Reading.TheVariants.{Exact, Lenient}
use Rattle.spa_recordings.specs.declared.streaming.Made.{Made}
use Rattle.spa_refusals.specs.Refusals.{refusal_text}
use Rattle.spa_refusals.specs.declared.several.NamedRefusal.{NamedRefusal}
use Rattle.spa_text_read.specs.Letters.{shown_text}
use Rattle.spa_text_commands.specs.Answers as text
use Rattle.spa_text_commands.specs.Differences.{Differ, SayTheSame}
use Rattle.spa_text_commands.specs.Selection.{looks_inside}
use Rattle.spa_text_commands.specs.declared.comparing.Comparison.{Comparison}
use Rattle.spa_text_commands.specs.declared.selection.Selection.{Selection}
use Rattle.spa_meet_commands.specs.Answers as meet
use Rattle.spa_meet_commands.specs.Lists.{AreListsRefused, ListsGive}
use Rattle.spa_meet_commands.specs.declared.answer.Failure.{Failure as MeetFailure}
use Rattle.spa_meet_commands.specs.declared.pair.Work.{Work}
use Rattle.pod_commands.specs.Inputs.{AreMade, OfOne, OfTwo, StopsAt, left_behind}
use Rattle.pod_commands.specs.Making.{AreNoPods, HasNoForm, IsNotRead, MakesAll, RefusesBy}
use Rattle.pod_commands.specs.Program.{program}
use Rattle.pod_commands.specs.Requests.{Asks, AsksNothing, dash, file_of, fills_terminal}
use Rattle.pod_commands.specs.Streaming.{EndsIn, IsBroken, IsBrokenInPart, StreamsAs, made_as}
use Rattle.pod_commands.specs.Working.{AreWorked, leaves_formless_out}
use Rattle.pod_commands.specs.declared.answer.Answer.{Answer}
use Rattle.pod_commands.specs.declared.answer.Answer.TheVariants.{Done, Differs, Passed, Shown, Missing, Refused, Misused, Said}
use Rattle.pod_commands.specs.declared.answer.Failure.{Failure}
use Rattle.pod_commands.specs.declared.answer.Failure.TheVariants.{Pods, Texts, Pair, Lists, OutOfMemory, Unread, Unwritten}
use Rattle.pod_commands.specs.declared.misuse.Excluded.{Excluded}
use Rattle.pod_commands.specs.declared.misuse.Excluded.TheVariants as excluded
use Rattle.pod_commands.specs.declared.misuse.Misuse.{Misuse}
use Rattle.pod_commands.specs.declared.misuse.Misuse.TheVariants.{TooFew, TooMany, ToTerminal, WithStream, WithPart}
use Rattle.pod_commands.specs.declared.request.Fate.{Fate}
use Rattle.pod_commands.specs.declared.request.Fate.TheVariants.{Stops, GoesOn}
use Rattle.pod_commands.specs.declared.request.Making.{Making}
use Rattle.pod_commands.specs.declared.request.Making.TheVariants.{Check, Rewrite}
use Rattle.pod_commands.specs.declared.request.Making.TheVariants as making
use Rattle.pod_commands.specs.declared.request.Printing.{Printing}
use Rattle.pod_commands.specs.declared.request.Request.{Request}
use Rattle.pod_commands.specs.declared.request.Streaming.{Streaming}
use Rattle.pod_commands.specs.declared.screen.Screen.{Screen}
use Rattle.pod_commands.specs.declared.request.Streaming.TheVariants as streaming
use Rattle.pod_commands.specs.declared.request.Word.{Word}
use Rattle.pod_commands.specs.declared.request.Word.TheVariants.{Print, Make, Stream, Diff, Agree}
use Rattle.pod_commands.specs.declared.run.Io.{Io}

-- ---- Where what is made goes

-- the standard output and the files, before the work and after it, and the name of the file that is to be written, if one is
pub record Outlet : Type 0 where
  pub target : Option (Bor (List ℕ))
  pub old : Option (List ℕ)
  pub new : Option (List ℕ)
  pub before : List ℕ → Option (List ℕ)
  pub after : List ℕ → Option (List ℕ)

abbrev pub outlet : (target : Option (Bor (List ℕ))) → (old new : Option (List ℕ)) → (before after : List ℕ → Option (List ℕ)) → Outlet
outlet target old new before after = record { target = target; old = old; new = new; before = before; after = after }

-- the inputs of these names, what the standard input still has, and where what is made of them goes
pub record Course : Type 0 where
  pub names : List (Bor (List ℕ))
  pub remaining : Option (List ℕ)
  pub outlet : Outlet

abbrev pub course : (remaining : Option (List ℕ)) → (names : List (Bor (List ℕ))) → Outlet → Course
course remaining names o = record { names = names; remaining = remaining; outlet = o }

-- those of a run's reader, writer and files, before the work and after it
abbrev pub course_of : {R S P W : Type 0} → (remaining : R → Option (List ℕ)) → (contents : W → Option (List ℕ)) → (holds : S → List ℕ → Option (List ℕ)) →
    (names : List (Bor (List ℕ))) → (target : Option (Bor (List ℕ))) → Io R S P W → W → S → Course
course_of remaining contents holds names target io device files =
    course (remaining io.input.now) names (outlet target (contents io.device) (contents device) (holds io.files.now) (holds files))

-- no file was written
abbrev pub KeepsFiles : Outlet → Type 0
KeepsFiles o = (name : List ℕ) → o.after name ≡ o.before name

-- nothing was written
abbrev pub IsUntouched : Outlet → Type 0
IsUntouched o = Keeps o.old o.new × KeepsFiles o

-- this was written, where it should be
abbrev pub Gets : Option (Bor (List ℕ)) → Outlet → List ℕ → Type 0
Gets None o out = Appends o.old o.new out × KeepsFiles o
Gets (Some name) o out = IsAllOf (o.after name.now) out × Keeps o.old o.new

-- so many first bytes of this were written to the standard output, maybe all, and then it failed; or a file did
abbrev pub Begins : Option (Bor (List ℕ)) → Outlet → List ℕ → Type 0
Begins None o out = ((n : ℕ) × Appends o.old o.new (take n out)) × KeepsFiles o
Begins (Some name) o out = Keeps o.old o.new

-- ---- Answers

-- the fact of what became of the work
abbrev pub OnAnswer : Answer → (IfDone IfDiffers : Type 0) → (Failure → Type 0) → Type 0
OnAnswer Done IfDone IfDiffers IfRefused = IfDone
OnAnswer Differs IfDone IfDiffers IfRefused = IfDiffers
OnAnswer (Refused why) IfDone IfDiffers IfRefused = IfRefused why
OnAnswer (Passed pods) IfDone IfDiffers IfRefused = ⊥
OnAnswer (Shown refused) IfDone IfDiffers IfRefused = ⊥
OnAnswer (Missing selection) IfDone IfDiffers IfRefused = ⊥
OnAnswer (Misused misuse) IfDone IfDiffers IfRefused = ⊥
OnAnswer (Said error) IfDone IfDiffers IfRefused = ⊥

-- something that this holds of was written
abbrev pub Gives : (List ℕ → Type 0) → Outlet → Type 0
Gives IsSo o = (out : List ℕ) × IsSo out × Gets o.target o out

-- a write failed, and this is the reason
abbrev pub IsUnwritten : Failure → Type 0
IsUnwritten why = (target : Option (Bor (List ℕ))) × (why ≡ Unwritten target)

-- why the work wasn't done, and what was written: nothing, unless a write failed
abbrev pub Refuses : (List ℕ → Type 0) → (Failure → Type 0) → Outlet → Failure → Type 0
Refuses IsSo IsRefused o why = (IsRefused why × IsUntouched o) ⊎ (IsUnwritten why × ((out : List ℕ) × IsSo out × Begins o.target o out))

-- what is said of an input that couldn't be read, or of memory
abbrev pub IsUnread : Failure → Type 0
IsUnread why = (why ≡ OutOfMemory) ⊎ ((name : Bor (List ℕ)) × (words : Bor (List ℕ)) × (why ≡ Unread name words))

-- so, or pw-dump has no form for a pod of one, where such pods aren't left out
abbrev pub IsUnworked : OfRefused → Making → Failure → Type 0
IsUnworked refused making why =
    IsUnread why
    ⊎ ((leaves_formless_out refused making ≡ false) × (name : List ℕ) × (input : List ℕ) × HasNoForm making name input why)

-- the work on several inputs stops at one of them, which isn't read or is refused
abbrev pub AreUnmade : Reading → Making → (remaining : Option (List ℕ)) → (holds : List ℕ → Option (List ℕ)) → List (Bor (List ℕ)) → Failure → Type 0
AreUnmade reading making remaining holds names why =
    IsUnread why
    ⊎ ((out : List ℕ) × StopsAt (MakesAll reading making) (λ name input made. RefusesBy reading making name input) remaining holds names out why)

-- these are the lines that differ of two inputs that are compared so, which are none where they say the same values
abbrev pub Compare : Comparison → (out a b : List ℕ) → Type 0
Compare k out a b = ((out ≡ []) × SayTheSame k a b) ⊎ Differ k out a b

-- an input can't be read, or leniently conveys no values one after another
abbrev pub IsOneUnread : Reading → (remaining : Option (List ℕ)) → (holds : List ℕ → Option (List ℕ)) → (n : List ℕ) → Failure → Type 0
IsOneUnread reading remaining holds n why = IsUnread why ⊎ OfOne Exact remaining holds n (λ input. IsNotRead reading n input why)

-- one of two isn't read
abbrev pub AreTwoUnread : Reading → (remaining : Option (List ℕ)) → (holds : List ℕ → Option (List ℕ)) → (n m : List ℕ) → Failure → Type 0
AreTwoUnread reading remaining holds n m why =
    IsOneUnread reading remaining holds n why ⊎ IsOneUnread reading (left_behind remaining n) holds m why

-- two inputs aren't read, or one of them isn't pods
abbrev pub AreNotCompared : Reading → (remaining : Option (List ℕ)) → (holds : List ℕ → Option (List ℕ)) → (n m : List ℕ) → Failure → Type 0
AreNotCompared reading remaining holds n m why =
    AreTwoUnread reading remaining holds n m why
    ⊎ OfTwo reading remaining holds n m (λ first second. AreNoPods Exact n first why ⊎ AreNoPods Exact m second why)

-- the object on which the two agree as which an input is read, or the first pair of two lists
abbrev pub AgreesOne : Work → Reading → (remaining : Option (List ℕ)) → (holds : List ℕ → Option (List ℕ)) → (n out : List ℕ) → Type 0
AgreesOne work reading remaining holds n out = OfOne reading remaining holds n (meet.PairIn work out)

abbrev pub AgreeTwo : Work → Reading → (remaining : Option (List ℕ)) → (holds : List ℕ → Option (List ℕ)) → (n m out : List ℕ) → Type 0
AgreeTwo work reading remaining holds n m out = OfTwo reading remaining holds n m (ListsGive work (Ok out))

-- why they don't
abbrev pub IsOneApart : Work → Reading → (remaining : Option (List ℕ)) → (holds : List ℕ → Option (List ℕ)) → (n : List ℕ) → Failure → Type 0
IsOneApart work reading remaining holds n why =
    IsOneUnread reading remaining holds n why
    ⊎ ((x : Bor (List ℕ)) × (e : MeetFailure) × (why ≡ Pair x e) × (x.now ≡ n) × OfOne reading remaining holds n (meet.IsPairRefused work e))

abbrev pub AreTwoApart : Work → Reading → (remaining : Option (List ℕ)) → (holds : List ℕ → Option (List ℕ)) → (n m : List ℕ) → Failure → Type 0
AreTwoApart work reading remaining holds n m why =
    AreTwoUnread reading remaining holds n m why
    ⊎ ((x : Bor (List ℕ)) × (y : Bor (List ℕ)) × (e : MeetFailure) × (why ≡ Lists x y e) × (x.now ≡ n) × (y.now ≡ m)
    × OfTwo reading remaining holds n m (AreListsRefused work e))

-- `--stream` excludes this option, which is given
abbrev pub IsExcluded : Fate → Option (Bor (List ℕ)) → Excluded → Type 0
IsExcluded fate target excluded.Output = ¬ (target ≡ None)
IsExcluded fate target excluded.Resync = fate ≡ GoesOn Resynced

-- what is wrong with another number of inputs than a word takes
abbrev pub misuse_of : List (Bor (List ℕ)) → Misuse
misuse_of (n ∷ m ∷ other ∷ ns) = TooMany other
misuse_of _ = TooFew

-- the command line is wrong, for this reason
abbrev pub IsMisuse : Misuse → Answer → Outlet → Type 0
IsMisuse why answer o = (answer ≡ Misused why) × IsUntouched o

-- what an answer says of two inputs that are compared and read so, and of the word with another number of them
abbrev pub IsCompared : Comparison → Reading → Answer → List (Bor (List ℕ)) → Course → Type 0
IsCompared k reading answer (n ∷ m ∷ []) c =
    OnAnswer answer (OfTwo reading c.remaining c.outlet.before n.now m.now (SayTheSame k) × Gets c.outlet.target c.outlet [])
    (Gives (λ out. OfTwo reading c.remaining c.outlet.before n.now m.now (Differ k out)) c.outlet)
    (Refuses (λ out. OfTwo reading c.remaining c.outlet.before n.now m.now (Compare k out)) (AreNotCompared reading c.remaining c.outlet.before n.now m.now) c.outlet)
IsCompared k reading answer names c = IsMisuse (misuse_of names) answer c.outlet

-- what it says of inputs that are read so, in which two objects agree
abbrev pub IsAgreed : Work → Reading → Answer → List (Bor (List ℕ)) → Course → Type 0
IsAgreed work reading answer (n ∷ []) c =
    OnAnswer answer (Gives (AgreesOne work reading c.remaining c.outlet.before n.now) c.outlet) ⊥
    (Refuses (AgreesOne work reading c.remaining c.outlet.before n.now) (IsOneApart work reading c.remaining c.outlet.before n.now) c.outlet)
IsAgreed work reading answer (n ∷ m ∷ []) c =
    OnAnswer answer (Gives (AgreeTwo work reading c.remaining c.outlet.before n.now m.now) c.outlet) ⊥
    (Refuses (AgreeTwo work reading c.remaining c.outlet.before n.now m.now) (AreTwoApart work reading c.remaining c.outlet.before n.now m.now) c.outlet)
IsAgreed work reading answer names c = IsMisuse (misuse_of names) answer c.outlet

-- what it says of work on inputs that are read so and refused whole
abbrev pub IsMadeWhole : Reading → Making → Answer → Course → Type 0
IsMadeWhole reading making answer c =
    OnAnswer answer (Gives (λ out. AreMade (MakesAll reading making) c.remaining c.outlet.before c.names out 0) c.outlet) ⊥
    (Refuses (λ out. AreMade (MakesAll reading making) c.remaining c.outlet.before c.names out 0) (AreUnmade reading making c.remaining c.outlet.before c.names) c.outlet)

-- ---- Files that are read twice

-- each name is a file's
abbrev pub AreFiles : List (Bor (List ℕ)) → Type 0
AreFiles [] = ⊤
AreFiles (n ∷ ns) = (bytes_eq n.now dash ≡ false) × AreFiles ns

-- where files alone are rewritten, exactly and to the standard output, they may be read twice
pub record MayReadTwice (reading : Reading) (making : Making) (names : List (Bor (List ℕ))) (target : Option (Bor (List ℕ))) : Type 0 where
  pub exact : reading ≡ Exact
  pub rewrite : making ≡ Rewrite
  pub to_output : target ≡ None
  pub files : AreFiles names

-- pods are refused only of a file whose bytes aren't known
abbrev pub IsUnknown : (holds : List ℕ → Option (List ℕ)) → Failure → Type 0
IsUnknown holds (Pods n why) = holds n.now ≡ None
IsUnknown holds _ = ⊤

-- All of them are accepted, and the second pass ends in one that can't be read again, has other bytes by then, or can't be
-- written; what was made till it ended was written.
pub record EndsInSecondPass (c : Course) (why : Failure) : Type 0 where
  pub accepted : AreMade (MakesAll Exact Check) c.remaining c.outlet.before c.names [] 0
  pub broken : IsBroken Exact streaming.Rewrite c.remaining c.outlet.before c.names c.outlet.old c.outlet.new why
  pub changed : IsUnknown c.outlet.before why
  pub no_file : KeepsFiles c.outlet

-- what it says of work that goes on behind refused pods: these are some, or there are none
abbrev pub IsMadeInPart : Reading → OfRefused → Making → Answer → Course → Type 0
IsMadeInPart reading refused making Done c = Gives (λ out. AreWorked reading refused making c.remaining c.outlet.before c.names out []) c.outlet
IsMadeInPart reading refused making (Passed pods) c =
    (pods.items ≢ []) × Gives (λ out. AreWorked reading refused making c.remaining c.outlet.before c.names out pods.items) c.outlet
IsMadeInPart reading refused making (Refused why) c =
    Refuses (λ out. (pods : List NamedRefusal) × AreWorked reading refused making c.remaining c.outlet.before c.names out pods) (IsUnworked refused making) c.outlet why
IsMadeInPart reading refused making _ c = ⊥

abbrev pub IsMadeBy : Reading → Fate → Making → Answer → Course → Type 0
IsMadeBy reading Stops making answer c =
    IsMadeWhole reading making answer c
    ⊎ ((why : Failure) × (answer ≡ Refused why) × MayReadTwice reading making c.names c.outlet.target × EndsInSecondPass c why)
IsMadeBy reading (GoesOn refused) making answer c = IsMadeInPart reading refused making answer c

-- what is looked for inside pods, if something is
abbrev pub sought_in : Selection → Option Selection
sought_in selection = if looks_inside selection then Some selection else None

abbrev pub looked_for : Streaming → Option Selection
looked_for (streaming.Json style) = None
looked_for streaming.Rewrite = None
looked_for (streaming.Print printing) = sought_in printing.printout.selection
looked_for streaming.Check = None

-- where something is looked for, something is made
abbrev pub IsFound : Option Selection → (out : List ℕ) → Type 0
IsFound None out = ⊤
IsFound (Some selection) out = out ≢ []

-- what it says of work that is written as inputs come: all was written, of which no pod is refused, or so many of those that are shown; or nothing, as
-- what is looked for isn't there; or what was made till the work ended
abbrev pub IsWrittenAs : Reading → Streaming → Answer → Course → Type 0
IsWrittenAs reading streaming Done c =
    Gives (λ out. AreMade (StreamsAs reading streaming) c.remaining c.outlet.before c.names out 0 × IsFound (looked_for streaming) out) c.outlet
IsWrittenAs reading streaming (Shown refused) c =
    (refused ≢ 0) × Gives (λ out. AreMade (StreamsAs reading streaming) c.remaining c.outlet.before c.names out refused) c.outlet
IsWrittenAs reading streaming (Missing selection) c =
    (looked_for streaming ≡ Some selection) × Gives (λ out. AreMade (StreamsAs reading streaming) c.remaining c.outlet.before c.names out 0 × (out ≡ [])) c.outlet
IsWrittenAs reading streaming (Refused why) c = IsBroken reading streaming c.remaining c.outlet.before c.names c.outlet.old c.outlet.new why × KeepsFiles c.outlet
IsWrittenAs reading streaming _ c = ⊥

-- The answer where all is printed, of which this is answered. Only private clauses cite it.
abbrev pub IsOutcome : Option Selection → Made → Answer → Type 0
IsOutcome sought made answer =
    ((made.refused ≡ 0) × ((sought ≡ None) ⊎ (made.nothing ≡ false)) × (answer ≡ Done)) ⊎ ((made.refused ≢ 0) × (answer ≡ Shown made.refused))
    ⊎ ((selection : Selection) × (made.refused ≡ 0) × (made.nothing ≡ true) × (sought ≡ Some selection) × (answer ≡ Missing selection))

-- what it says of work on inputs as they come that goes on behind refused pods: what it says without `--stream`, but that where the work ends before an
-- input does, what was made till then was written
abbrev pub IsStreamedInPart : Reading → OfRefused → Making → Answer → Course → Type 0
IsStreamedInPart reading refused making (Refused why) c =
    IsBrokenInPart reading refused making c.remaining c.outlet.before c.names c.outlet.old c.outlet.new why × KeepsFiles c.outlet
IsStreamedInPart reading refused making answer c = IsMadeInPart reading refused making answer c

-- what it says of that where refused pods are left out or kept, which is misuse where parts of inputs are printed
abbrev pub IsPassed : Option Making → Reading → OfRefused → Answer → Course → Type 0
IsPassed None reading refused answer c = IsMisuse (WithPart refused) answer c.outlet
IsPassed (Some making) reading refused answer c = IsStreamedInPart reading refused making answer c

abbrev pub IsStreamedBy : Streaming → Reading → Fate → Answer → Course → Type 0
IsStreamedBy streaming reading Stops answer c = IsWrittenAs reading streaming answer c
IsStreamedBy streaming reading (GoesOn refused) answer c = IsPassed (made_as streaming) reading refused answer c

-- what it says of that where other options may be given: one that `--stream` excludes is misuse
abbrev pub IsStreamed : Streaming → Reading → Fate → Answer → Course → Type 0
IsStreamed streaming reading fate answer c =
    ((c.outlet.target ≡ None) × IsStreamedBy streaming reading fate answer c)
    ⊎ ((other : Excluded) × IsExcluded fate c.outlet.target other × IsMisuse (WithStream other) answer c.outlet)

-- the work goes on behind refused pods of input that comes only where these end by their size words; only private clauses cite it
abbrev pub MayStream : Fate → Type 0
MayStream Stops = ⊤
MayStream (GoesOn refused) = EndsBySize refused

-- why not all inputs are printed in a file: the work stops at one of them, or memory for what is printed ran out
abbrev pub AreUnshown : Printing → (remaining : Option (List ℕ)) → (holds : List ℕ → Option (List ℕ)) → List (Bor (List ℕ)) → Failure → Type 0
AreUnshown printing remaining holds names why =
    (why ≡ OutOfMemory)
    ⊎ ((out : List ℕ) × StopsAt (StreamsAs Exact (streaming.Print printing)) (EndsIn Exact (streaming.Print printing)) remaining holds names out why)

-- what it says of inputs that are printed in a file; where they aren't, nothing was written, unless a write failed
abbrev pub IsShownIn : Printing → Answer → Course → Type 0
IsShownIn printing (Refused why) c =
    Refuses (λ out. (refused : ℕ) × AreMade (StreamsAs Exact (streaming.Print printing)) c.remaining c.outlet.before c.names out refused)
    (AreUnshown printing c.remaining c.outlet.before c.names) c.outlet why
IsShownIn printing answer c = IsWrittenAs Exact (streaming.Print printing) answer c

-- inputs are printed as they come, or where a file is written, all of them in it
abbrev pub IsShown : Printing → Option (Bor (List ℕ)) → Answer → Course → Type 0
IsShown printing None answer c = IsWrittenAs Exact (streaming.Print printing) answer c
IsShown printing (Some name) answer c = IsShownIn printing answer c

-- inputs are read leniently, and printed as pods of which none is refused; where nothing that is looked for is there, it says so
abbrev pub IsPrintedLeniently : Printing → Answer → Course → Type 0
IsPrintedLeniently printing Done c =
    Gives (λ out. AreMade (MakesAll Lenient (making.Print printing)) c.remaining c.outlet.before c.names out 0 × IsFound (sought_in printing.printout.selection) out) c.outlet
IsPrintedLeniently printing (Missing selection) c =
    (sought_in printing.printout.selection ≡ Some selection)
    × Gives (λ out. AreMade (MakesAll Lenient (making.Print printing)) c.remaining c.outlet.before c.names out 0 × (out ≡ [])) c.outlet
IsPrintedLeniently printing answer c = IsMadeWhole Lenient (making.Print printing) answer c

-- what it says of inputs that are read so and printed; with an option for refused pods it is misuse
abbrev pub IsPrinted : Printing → Reading → Fate → Answer → Course → Type 0
IsPrinted printing reading (GoesOn refused) answer c = IsMisuse (WithPart refused) answer c.outlet
IsPrinted printing Exact Stops answer c = IsShown printing c.outlet.target answer c
IsPrinted printing Lenient Stops answer c = IsPrintedLeniently printing answer c

-- what it says of a word's work on its inputs
abbrev pub IsDone : Word → Answer → Course → Type 0
IsDone (Print printing manner) answer c = IsPrinted printing manner.reading manner.fate answer c
IsDone (Make making manner) answer c = IsMadeBy manner.reading manner.fate making answer c
IsDone (Stream streaming manner) answer c = IsStreamed streaming manner.reading manner.fate answer c
IsDone (Diff k reading) answer c = IsCompared k reading answer c.names c
IsDone (Agree work reading) answer c = IsAgreed work reading answer c.names c

-- What an answer says of a run: what the words ask for was done, or refused; clap refuses them for one of the causes that stand, help
-- and the version among them; they name no word; pods would go to a terminal; or memory ran out.
pub data IsAnswer (words : List (Bor (List ℕ))) (screen : Screen) (remaining old new : Option (List ℕ)) (before after : List ℕ → Option (List ℕ)) : Answer → Type 0 where
  asked : (request : Request) (answer : Answer) → Asks words screen request → fills_terminal screen request ≡ false →
      IsDone request.word answer (course remaining request.names.items (outlet (file_of request.target) old new before after)) →
      IsAnswer words screen remaining old new before after answer
  to_terminal : (request : Request) → Asks words screen request → fills_terminal screen request ≡ true → Keeps old new →
      ((name : List ℕ) → after name ≡ before name) → IsAnswer words screen remaining old new before after (Misused ToTerminal)
  said : (error : Error) → IsAmong (kind_of error) (fault_of program (texts words)) → Keeps old new → ((name : List ℕ) → after name ≡ before name) →
      IsAnswer words screen remaining old new before after (Said error)
  nothing : (why : Misuse) → AsksNothing words why → Keeps old new → ((name : List ℕ) → after name ≡ before name) →
      IsAnswer words screen remaining old new before after (Misused why)
  no_memory : Keeps old new → ((name : List ℕ) → after name ≡ before name) →
      IsAnswer words screen remaining old new before after (Refused OutOfMemory)

-- ---- What is said

-- help and the version are no misuse
abbrev pub status_of_kind : ErrorKind → ℕ
status_of_kind kind.DisplayHelp = 0
status_of_kind kind.DisplayVersion = 0
status_of_kind _ = 2

-- the program's status
abbrev pub status_of : Answer → ℕ
status_of Done = 0
status_of Differs = 1
status_of (Passed pods) = 1
status_of (Shown refused) = 1
status_of (Missing selection) = 1
status_of (Refused why) = 1
status_of (Misused why) = 2
status_of (Said error) = status_of_kind (kind_of error)

-- what is said of an input's name, on one line
abbrev pub name_text : List ℕ → List ℕ
name_text name = if bytes_eq name dash then codes "standard input" else shown_text name

-- what is said of the file that can't be written
abbrev pub target_text : Option (Bor (List ℕ)) → List ℕ
target_text None = codes "standard output"
target_text (Some name) = shown_text name.now

-- the text of a failure
abbrev pub failure_text : Failure → List ℕ
failure_text (Pods name why) = name_text name.now ++ (codes ": " ++ refusal_text why)
failure_text (Texts name why) = name_text name.now ++ (codes ": " ++ text.failure_text why)
failure_text (Pair name why) = name_text name.now ++ (codes ": " ++ meet.failure_text why)
failure_text (Lists ours theirs why) = name_text ours.now ++ (codes ", " ++ (name_text theirs.now ++ (codes ": " ++ meet.failure_text why)))
failure_text OutOfMemory = codes "out of memory"
failure_text (Unread name words) = name_text name.now ++ (codes ": " ++ words.now)
failure_text (Unwritten target) = target_text target ++ codes ": write failed"

-- the words for bytes that are left out behind a refused pod; none where it alone is left out
abbrev pub left_out_text : Option Gap → List ℕ
left_out_text None = []
left_out_text (Some gap) = codes "; " ++ (decimal gap.len ++ (codes " bytes are left out, up to byte " ++ decimal gap.end))

-- the line that is written of a refused pod
abbrev pub line_of_pod : NamedRefusal → List ℕ
line_of_pod pod =
    codes "pod: " ++ (name_text pod.name.now ++ (codes ": " ++ (refusal_text pod.refusal ++ (left_out_text pod.left_out ++ 10 ∷ []))))

-- a line of each refused pod, and one that says how many they are
abbrev pub lines_of_pods : List NamedRefusal → List ℕ
lines_of_pods [] = []
lines_of_pods (pod ∷ pods) = line_of_pod pod ++ lines_of_pods pods

abbrev pub count_line : ℕ → List ℕ
count_line n = codes "pod: refused pods: " ++ (decimal n ++ 10 ∷ [])

-- what is said of the objects that are looked for, by the names of their types and their ids
abbrev pub objects_text : (type id : Option (Bor (List ℕ))) → List ℕ
objects_text (Some type) (Some id) = codes "the type '" ++ (type.now ++ (codes "' and the id '" ++ (id.now ++ codes "'")))
objects_text (Some type) None = codes "the type '" ++ (type.now ++ codes "'")
objects_text None (Some id) = codes "the id '" ++ (id.now ++ codes "'")
objects_text None None = []

-- the line that is written where what is looked for isn't there
abbrev pub missing_text : (key type id : Option (Bor (List ℕ))) → List ℕ
missing_text (Some key) None None = codes "value has the key '" ++ (key.now ++ codes "'")
missing_text (Some key) type id = codes "value has the key '" ++ (key.now ++ (codes "' in an object with " ++ objects_text type id))
missing_text None type id = codes "object has " ++ objects_text type id

-- what isn't there: the pod at a path, where one is given
abbrev pub absent_text : (path key type id : Option (Bor (List ℕ))) → List ℕ
absent_text (Some path) key type id = codes "pod stands at " ++ shown_text path.now
absent_text None key type id = missing_text key type id

abbrev pub missing_line : Selection → List ℕ
missing_line s = codes "pod: no " ++ (absent_text s.path s.key s.type_ s.id ++ 10 ∷ [])

-- the line that is written of a refusal
abbrev pub line_of : Failure → List ℕ
line_of why = codes "pod: " ++ (failure_text why ++ 10 ∷ [])
