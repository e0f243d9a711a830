-- What each word makes of an input, and what it refuses it for.
use Rattle.std.specs.Prelude.{⊤, ◌≡◌, ◌≤◌, ◌+◌, ◌⊎◌, ℕ, codes, List, [], drop, length, take}
use Rattle.spa_format.specs.Pod.{AreMembers}
use Rattle.spa_format.specs.Tree.{Trees}
use Rattle.spa_format.specs.Walk.{walk}
use Rattle.spa_meet_commands.specs.Settling.{SettlesAll}
use Rattle.spa_pod_commands.specs.Answers.{Fixates, Rewrites}
use Rattle.spa_recordings.specs.GoingOn.{MakesOf}
use Rattle.spa_recordings.specs.declared.reading.Reading.{Reading}
use Rattle.spa_recordings.specs.declared.reading.Reading.TheVariants.{Exact, Lenient}
use Rattle.spa_refusals.specs.Refusals.{IsFirstRefusal, IsRefusalFor}
use Rattle.spa_refusals.specs.declared.refusal.Refusal.{Refusal}
use Rattle.spa_text_commands.specs.Hexadecimal.{ReadsHexadecimal, RefusesHexadecimal}
use Rattle.spa_text_commands.specs.Texts.{ReadsTexts, RefusesTexts}
use Rattle.spa_text_forms.specs.declared.form.Form.{Form}
use Rattle.spa_text_forms.specs.declared.form.Form.TheVariants as form
use Rattle.pod_commands.specs.Colours.{DumpsIn, PrintsIn, ShowsIn}
use Rattle.pod_commands.specs.declared.request.Making.{Making}
use Rattle.pod_commands.specs.declared.request.Making.TheVariants.{Json, Dump, Read, Rewrite, Fixate, Settle, Print, Check}
use Rattle.pod_commands.specs.declared.request.Texts.{Texts as OfTexts}
use Rattle.pod_commands.specs.declared.request.Texts.TheVariants.{Named, Hex}
use Rattle.pod_commands.specs.declared.request.Texts.TheVariants as of_texts
use Rattle.pod_commands.specs.declared.answer.Failure.{Failure}
use Rattle.pod_commands.specs.declared.answer.Failure.TheVariants.{Pods, OutOfMemory}
use Rattle.pod_commands.specs.declared.answer.Failure.TheVariants as failure

-- the pods of the texts of an input, read so, or the bytes that it has in hexadecimal
abbrev pub Reads : OfTexts → (input out : List ℕ) → Type 0
Reads (Named strictness) input out = ReadsTexts (form.Named strictness) input out
Reads (of_texts.Dump type id) input out = ReadsTexts (form.Dump type id) input out
Reads Hex input out = ReadsHexadecimal input out

-- what is made of an input; of one that is checked nothing
abbrev pub Makes : Making → (input out : List ℕ) → Type 0
Makes (Json style) input out = PrintsIn style input out
Makes (Dump colours) input out = DumpsIn colours input out
Makes (Read texts) input out = Reads texts input out
Makes Rewrite input out = Rewrites input out
Makes Fixate input out = Fixates input out
Makes Settle input out = SettlesAll input out
Makes (Print printing) input out = ShowsIn printing 0 0 input out 0
Makes Check input out = (out ≡ []) × ((vs : Trees) × AreMembers vs input)

-- what is made of an input that is read so, of which no pod is refused
abbrev pub MakesAll : Reading → Making → (input out : List ℕ) → (refused : ℕ) → Type 0
MakesAll reading making input out refused = MakesOf reading (Makes making) input out × (refused ≡ 0)

-- an input of this name isn't read so, which is said of the first refused pod; or memory ran out
abbrev pub AreNoPods : Reading → (name input : List ℕ) → Failure → Type 0
AreNoPods reading name input (Pods n why) = (n.now ≡ name) × IsFirstRefusal reading input why
AreNoPods reading name input OutOfMemory = ⊤
AreNoPods reading name input _ = ⊥

-- this is said of a pod that begins with these bytes: pw-dump has no form for it
abbrev pub IsNoForm : (pod : List ℕ) → Refusal → Type 0
IsNoForm pod why = IsRefusalFor pod (codes "NoForm") (codes "pw-dump has no form for it") why

-- of an input of this name this is said of a pod for which pw-dump has no form, and nothing else of that pod; or memory ran out
abbrev pub IsFormless : (name input : List ℕ) → Failure → Type 0
IsFormless name input (Pods n why) =
    (n.now ≡ name) × (why.place ≤ length input) × (why.number ≡ length (walk (take why.place input)) + 1) × IsNoForm (drop why.place input) why
IsFormless name input OutOfMemory = ⊤
IsFormless name input _ = ⊥

-- an input of this name isn't pods, or pw-dump has no form for one of them
abbrev pub AreNoDumps : (name input : List ℕ) → Failure → Type 0
AreNoDumps name input why = AreNoPods Exact name input why ⊎ IsFormless name input why

-- nothing is made of pods that are read: pw-dump has no form for one of them, or memory ran out
abbrev pub HasNoForm : Making → (name input : List ℕ) → Failure → Type 0
HasNoForm (Dump colours) name input why = IsFormless name input why
HasNoForm making name input why = why ≡ OutOfMemory

-- an input of this name isn't read so; exactly each is, as its own bytes
abbrev pub IsNotRead : Reading → (name input : List ℕ) → Failure → Type 0
IsNotRead Exact name input why = ⊥
IsNotRead Lenient name input why = AreNoPods Lenient name input why

-- an input of this name, read so, has to consist of texts, and is refused so
abbrev pub AreNoTexts : Form → (name input : List ℕ) → Failure → Type 0
AreNoTexts f name input (failure.Texts n why) = (n.now ≡ name) × RefusesTexts f input why
AreNoTexts f name input _ = ⊥

-- an input of this name has to be written in hexadecimal, and is refused so
abbrev pub IsNoHexadecimal : (name input : List ℕ) → Failure → Type 0
IsNoHexadecimal name input (failure.Texts n why) = (n.now ≡ name) × RefusesHexadecimal input why
IsNoHexadecimal name input _ = ⊥

abbrev pub AreUnread : OfTexts → (name input : List ℕ) → Failure → Type 0
AreUnread (Named strictness) name input why = AreNoTexts (form.Named strictness) name input why
AreUnread (of_texts.Dump type id) name input why = AreNoTexts (form.Dump type id) name input why
AreUnread Hex name input why = IsNoHexadecimal name input why

-- what an input of this name is refused for
abbrev pub RefusesIn : Making → (name input : List ℕ) → Failure → Type 0
RefusesIn (Json style) name input why = AreNoPods Exact name input why
RefusesIn (Dump colours) name input why = AreNoDumps name input why
RefusesIn (Read texts) name input why = AreUnread texts name input why
RefusesIn Rewrite name input why = AreNoPods Exact name input why
RefusesIn Fixate name input why = AreNoPods Exact name input why
RefusesIn Settle name input why = AreNoPods Exact name input why
RefusesIn (Print printing) name input why = AreNoPods Exact name input why
RefusesIn Check name input why = AreNoPods Exact name input why

-- what an input of this name, read so, is refused for
abbrev pub RefusesBy : Reading → Making → (name input : List ℕ) → Failure → Type 0
RefusesBy Exact making name input why = RefusesIn making name input why
RefusesBy Lenient making name input why = AreNoPods Lenient name input why ⊎ HasNoForm making name input why
