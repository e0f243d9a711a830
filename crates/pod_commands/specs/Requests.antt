-- What the words ask for.
use Rattle.std.specs.Prelude.{◌≡◌, ◌≢◌, ◌<◌, ◌^◌, ◌⊎◌, ◌||◌, ◌&&◌, ◌==◌, ⊤, ℕ, codes, Bool, true, false, not, List, [], ◌∷◌, Option, Some, None, IfSome, is_some, if◌then◌else◌, option_map, unwrap_or}
use Rattle.std.specs.List.{before_first}
use Rattle.std.specs.Str.{bytes_eq}
use Rattle.std.specs.Str.Parse.{IsNumeral, digits_value, without_leading_plus}
use Rattle.std.specs.Borrow.{Bor}
use Rattle.clap.specs.Walk.{texts}
use Rattle.clap.specs.Words.{Row, Text, all_of, first_of, subcommand_of}
use Rattle.clap.specs.Faults.{fault_of}
use Rattle.pod_commands.specs.Program.{program}
use Rattle.pod_commands.specs.declared.misuse.Misuse.{Misuse}
use Rattle.pod_commands.specs.declared.misuse.Misuse.TheVariants.{NoWord, Nth, Path, Color, Name}
use Rattle.pod_commands.specs.declared.misuse.Misuse.TheVariants as misuse
use Rattle.pod_commands.specs.declared.misuse.OfRead.TheVariants as read
use Rattle.pod_commands.specs.declared.colours.Colours.{Colours}
use Rattle.pod_commands.specs.declared.colours.Colours.TheVariants.{Off, On}
use Rattle.pod_commands.specs.declared.request.Fate.{Fate}
use Rattle.pod_commands.specs.declared.request.Flags.{Flags}
use Rattle.pod_commands.specs.declared.request.Fate.TheVariants.{Stops, GoesOn}
use Rattle.pod_commands.specs.declared.request.Making.{Making as OfMaking}
use Rattle.pod_commands.specs.declared.request.Streaming.{Streaming as OfStreaming}
use Rattle.pod_commands.specs.declared.request.Making.TheVariants.{Json, Read, Rewrite, Fixate, Settle, Check}
use Rattle.pod_commands.specs.declared.request.Making.TheVariants as Making
use Rattle.pod_commands.specs.declared.request.Streaming.TheVariants as Streaming
use Rattle.pod_commands.specs.declared.request.Word.{Word}
use Rattle.pod_commands.specs.declared.request.Word.TheVariants.{Print, Make, Stream, Diff, Agree}
use Rattle.pod_commands.specs.declared.request.Manner.{Manner}
use Rattle.pod_commands.specs.declared.request.Options.{Options}
use Rattle.pod_commands.specs.declared.request.Printing.{Printing}
use Rattle.pod_commands.specs.declared.request.Request.{Request}
use Rattle.pod_commands.specs.declared.request.Style.{Style}
use Rattle.pod_commands.specs.declared.request.Texts.{Texts}
use Rattle.pod_commands.specs.declared.request.Texts.TheVariants.{Named, Dump, Hex}
use Rattle.pod_commands.specs.declared.screen.Screen.{Screen}
use Rattle.spa_recordings.specs.declared.going_on.Refused.TheVariants.{LeftOut, Kept, Resynced}
use Rattle.spa_recordings.specs.declared.reading.Reading.{Reading}
use Rattle.spa_recordings.specs.declared.reading.Reading.TheVariants.{Exact, Lenient}
use Rattle.spa_meet_commands.specs.declared.pair.Work.TheVariants.{Negotiate, Filter}
use Rattle.spa_text_commands.specs.Naming.{AreNames}
use Rattle.spa_text_commands.specs.Lines.{is_pods}
use Rattle.spa_text_commands.specs.Selection.{looks_inside}
use Rattle.spa_text_commands.specs.declared.comparing.Comparison.{Comparison}
use Rattle.spa_text_commands.specs.declared.comparing.Comparison.TheVariants.{Whole, AcrossRuns}
use Rattle.spa_text_commands.specs.declared.naming.Named.{Named as OfNames}
use Rattle.spa_text_commands.specs.declared.naming.Named.TheVariants as named
use Rattle.spa_text_commands.specs.declared.selection.Selection.{Selection}
use Rattle.spa_text_commands.specs.declared.printing.Layout.{Layout}
use Rattle.spa_text_commands.specs.declared.printing.Layout.TheVariants.{OneLine, Indented}
use Rattle.spa_names.specs.declared.table.Table.TheVariants.{Types}
use Rattle.spa_text_read.specs.Grammar.{key_number}
use Rattle.spa_text_read.specs.Names.{ids_of}
use Rattle.spa_text_read.specs.declared.fitting.Strictness.{Strictness}
use Rattle.spa_text_read.specs.declared.fitting.Strictness.TheVariants.{Plain, Strict}
use Rattle.spa_text_commands.specs.declared.selection.Form.{Form}
use Rattle.spa_text_commands.specs.declared.selection.Form.TheVariants.{Lines, LinesAndBytes, Bytes, Pods}
use Rattle.spa_text_commands.specs.declared.selection.Form.TheVariants as form

-- the word that prints pods in a form
abbrev pub word_of_form : Form → Text
word_of_form Lines = codes "show"
word_of_form LinesAndBytes = codes "show"
word_of_form (form.Text layout) = codes "json"
word_of_form Bytes = codes "json"
word_of_form Pods = codes "get"

-- the text of a word
abbrev pub name_of : Word → Text
name_of (Print printing manner) = word_of_form printing.printout.form
name_of (Make (Json style) manner) = codes "json"
name_of (Make (Making.Dump colours) manner) = codes "json"
name_of (Make (Read texts) manner) = codes "read"
name_of (Make Rewrite manner) = codes "rewrite"
name_of (Make Fixate manner) = codes "fixate"
name_of (Make Settle manner) = codes "fixate"
name_of (Make (Making.Print printing) manner) = word_of_form printing.printout.form
name_of (Make Check manner) = codes "check"
name_of (Stream (Streaming.Json style) manner) = codes "json"
name_of (Stream Streaming.Rewrite manner) = codes "rewrite"
name_of (Stream (Streaming.Print printing) manner) = word_of_form printing.printout.form
name_of (Stream Streaming.Check manner) = codes "check"
name_of (Diff comparison reading) = codes "diff"
name_of (Agree Negotiate reading) = codes "meet"
name_of (Agree Filter reading) = codes "filter"

-- a flag is given
abbrev pub is_true_text : Option Text → Bool
is_true_text None = false
is_true_text (Some flag) = bytes_eq flag (codes "true")

abbrev pub is_given : Text → List Row → Bool
is_given name rows = is_true_text (first_of name rows)

-- how the texts of `json` stand on lines: indented where `--pretty` is given
abbrev pub layout_by : Bool → Layout
layout_by is_pretty = if is_pretty then Indented else OneLine

abbrev pub layout_in : List Row → Layout
layout_in rows = layout_by (is_given (codes "pretty") rows)

-- neither a part of an input is asked for nor bytes are
abbrev pub is_plain : Options → Bool
is_plain options = not ((options.hex || is_some options.selection.nth) || looks_inside options.selection)

-- the form that is asked for, by `show` and by `json`; `get` has one alone
abbrev pub HasForm : Options → Form → Type 0
HasForm options Lines = options.hex ≡ false
HasForm options LinesAndBytes = options.hex ≡ true
HasForm options (form.Text layout) = (options.hex ≡ false) × (layout ≡ options.layout) × (is_plain options ≡ false)
HasForm options Bytes = options.hex ≡ true
HasForm options Pods = ⊤

-- how texts are printed, and what is printed in a form
abbrev pub style_of : Options → Style
style_of options = record { layout = options.layout; colours = options.colours }

abbrev pub printing_of : Options → Form → Printing
printing_of options form = record { printout = record { form = form; selection = options.selection }; colours = options.colours }

abbrev pub HasPrinting : Options → Printing → Type 0
HasPrinting options printing = HasForm options printing.printout.form × (printing ≡ printing_of options printing.printout.form)

-- what is printed of which pods, and how: of all where no part is asked for
abbrev pub HasPrintout : Options → Word → Type 0
HasPrintout options (Print printing manner) = HasPrinting options printing
HasPrintout options (Stream (Streaming.Print printing) manner) = HasPrinting options printing
HasPrintout options (Make (Making.Print printing) manner) = HasPrinting options printing
HasPrintout options (Make (Json style) manner) = (style ≡ style_of options) × (is_plain options ≡ true)
HasPrintout options (Make (Making.Dump colours) manner) = colours ≡ options.colours
HasPrintout options (Stream (Streaming.Json style) manner) = (style ≡ style_of options) × (is_plain options ≡ true)
HasPrintout options _ = ⊤

-- a number is what digits say
abbrev pub IsNumber : Option Text → Option ℕ → Type 0
IsNumber None number = number ≡ None
IsNumber (Some text) number = number ≡ Some (digits_value 10 (without_leading_plus text))

-- texts are coloured where they go to a terminal, or as `--color` says
abbrev pub colours_by : (to_terminal : Bool) → Colours
colours_by to_terminal = if to_terminal then On else Off

abbrev pub AreColours : Option Text → (to_terminal : Bool) → Colours → Type 0
AreColours None to_terminal colours = colours ≡ colours_by to_terminal
AreColours (Some when) to_terminal colours =
    ((when ≡ codes "auto") × (colours ≡ colours_by to_terminal)) ⊎ ((when ≡ codes "always") × (colours ≡ On)) ⊎ ((when ≡ codes "never") × (colours ≡ Off))

-- the standard output is a terminal, and no file is written
abbrev pub goes_to_terminal : (is_terminal : Bool) → (output : Option Text) → Bool
goes_to_terminal is_terminal None = is_terminal
goes_to_terminal is_terminal (Some name) = false

-- they are without `--color` where they go to a terminal, and NO_COLOR isn't set
abbrev pub takes_colours : Screen → (output : Option Text) → Bool
takes_colours screen output = goes_to_terminal screen.is_terminal output && not screen.no_color

-- names of types, of ids or of keys are given, or their numbers, if the option is
abbrev pub AreNamesOf : OfNames → Option Text → Option Text → Type 0
AreNamesOf kind given names = (names ≡ given) × IfSome given (AreNames kind)

abbrev pub text_of : Option (Bor Text) → Option Text
text_of given = option_map (λ s. s.now) given

-- the number at the front of a path, before the first of its steps
abbrev pub number_in : Text → Text
number_in path = before_first (λ b. b == 46) (before_first (λ b. b == 91) path)

-- the number of the only pod in which something is printed: that of a path, or of `--nth`
abbrev pub number_given : (path nth : Option Text) → Option Text
number_given None nth = nth
number_given (Some path) nth = Some (number_in path)

-- what is looked for in which pods
pub record IsSelected (rows : List Row) (selection : Selection) : Type 0 where
  pub nth : IsNumber (number_given (first_of (codes "PATH") rows) (first_of (codes "nth") rows)) selection.nth
  pub path : text_of selection.path ≡ first_of (codes "PATH") rows
  pub key : AreNamesOf named.Keys (first_of (codes "key") rows) (text_of selection.key)
  pub type_ : AreNamesOf named.Types (first_of (codes "type") rows) (text_of selection.type_)
  pub id : AreNamesOf named.Ids (first_of (codes "id") rows) (text_of selection.id)

-- these options are given
pub record AreGiven (rows : List Row) (screen : Screen) (options : Options) : Type 0 where
  pub layout : options.layout ≡ layout_in rows
  pub colours : AreColours (first_of (codes "color") rows) (takes_colours screen (first_of (codes "output") rows)) options.colours
  pub hex : options.hex ≡ is_given (codes "hex") rows
  pub selection : IsSelected rows options.selection

-- the N of `--nth` is no number, or one that is too large
abbrev pub IsNoNumber : Text → Type 0
IsNoNumber text = ¬ (IsNumeral 10 (without_leading_plus text) × (digits_value 10 (without_leading_plus text) < 2 ^ 64))

abbrev pub HasNoNumber : Option Text → Misuse → Type 0
HasNoNumber given (Nth text) = (given ≡ Some text.now) × IsNoNumber text.now
HasNoNumber given _ = ⊥

-- the path doesn't begin with a number of 64 bits
abbrev pub HasNoPath : Option Text → Misuse → Type 0
HasNoPath given (Path text) = (given ≡ Some text.now) × IsNoNumber (number_in text.now)
HasNoPath given _ = ⊥

-- the WHEN of `--color` is another word
abbrev pub HasUnknownWhen : Option Text → Misuse → Type 0
HasUnknownWhen given (Color when) =
    (given ≡ Some when.now) × (when.now ≢ codes "auto") × (when.now ≢ codes "always") × (when.now ≢ codes "never")
HasUnknownWhen given _ = ⊥

-- a NAME of `--type`, `--id` or `--key` is none of a type's, of an id's or of a key's, and no number of one
abbrev pub HasUnknownName : OfNames → Option Text → Misuse → Type 0
HasUnknownName kind given (Name named names similar) = (named ≡ kind) × (given ≡ Some names.now) × ¬ (AreNames kind names.now)
HasUnknownName kind given _ = ⊥

-- an option for parts of inputs has a value that is none of its own
abbrev pub HasNoSelection : List Row → Misuse → Type 0
HasNoSelection rows why =
    (HasNoNumber (first_of (codes "nth") rows) why ⊎ HasNoPath (first_of (codes "PATH") rows) why) ⊎ HasUnknownName named.Keys (first_of (codes "key") rows) why
    ⊎ HasUnknownName named.Types (first_of (codes "type") rows) why ⊎ HasUnknownName named.Ids (first_of (codes "id") rows) why

-- An option has a value that is none of its own. That of `--nth` doesn't come so far: clap refuses it itself, by its
-- parser. The `ValuesPass` that `try_get_matches_from` ensures is of the options of the program, and no clause is of
-- those of a word; it is tested.
abbrev pub HasUnknownValue : List Row → Misuse → Type 0
HasUnknownValue rows why = HasNoSelection rows why ⊎ HasUnknownWhen (first_of (codes "color") rows) why

-- how inputs are read: leniently where `--lenient` is given
abbrev pub reading_by : Bool → Reading
reading_by is_lenient = if is_lenient then Lenient else Exact

abbrev pub reading_in : List Row → Reading
reading_in rows = reading_by (is_given (codes "lenient") rows)

-- what becomes of an input with a refused pod: it is refused, but where `--keep-going`, `--keep-refused` or `--resync` is given
abbrev pub IsFate : (resyncs keeps goes_on : Bool) → Fate → Type 0
IsFate false false false fate = fate ≡ Stops
IsFate false false true fate = fate ≡ GoesOn LeftOut
IsFate false true goes_on fate = fate ≡ GoesOn Kept
IsFate true false false fate = fate ≡ GoesOn Resynced
IsFate true false true fate = ⊥
IsFate true true goes_on fate = ⊥

-- `--resync` excludes both others
abbrev pub IsNoFate : (resyncs keeps goes_on : Bool) → Misuse → Type 0
IsNoFate false keeps goes_on why = ⊥
IsNoFate true false false why = ⊥
IsNoFate true false true why = why ≡ misuse.WithResync LeftOut
IsNoFate true true goes_on why = why ≡ misuse.WithResync Kept

abbrev pub IsFateIn : List Row → Fate → Type 0
IsFateIn rows = IsFate (is_given (codes "resync") rows) (is_given (codes "keep-refused") rows) (is_given (codes "keep-going") rows)

abbrev pub HasNoFate : List Row → Misuse → Type 0
HasNoFate rows = IsNoFate (is_given (codes "resync") rows) (is_given (codes "keep-refused") rows) (is_given (codes "keep-going") rows)

-- pods are read so; where lines are shown of them, refused ones are shown, too
abbrev pub HasMannerOf : Reading → Fate → Form → Manner → Type 0
HasMannerOf reading fate Lines manner = (manner.reading ≡ reading) × (manner.fate ≡ Stops)
HasMannerOf reading fate LinesAndBytes manner = (manner.reading ≡ reading) × (manner.fate ≡ Stops)
HasMannerOf reading fate _ manner = (manner.reading ≡ reading) × (manner.fate ≡ fate)

-- pods are read so; texts as they are
abbrev pub HasManner : Reading → Fate → Word → Type 0
HasManner reading fate (Make (Read texts) manner) = (manner.reading ≡ Exact) × (manner.fate ≡ Stops)
HasManner reading fate (Make making manner) = (manner.reading ≡ reading) × (manner.fate ≡ fate)
HasManner reading fate (Print printing manner) = HasMannerOf reading fate printing.printout.form manner
HasManner reading fate (Stream (Streaming.Print printing) manner) = HasMannerOf reading fate printing.printout.form manner
HasManner reading fate (Stream streaming manner) = (manner.reading ≡ reading) × (manner.fate ≡ fate)
HasManner reading fate (Diff comparison its) = its ≡ reading
HasManner reading fate (Agree work its) = its ≡ reading

-- what is written as input comes is so where `--stream` is given, and else not
abbrev pub HasStream : Bool → Word → Type 0
HasStream streams (Print printing manner) = streams ≡ false
HasStream streams (Make (Json style) manner) = streams ≡ false
HasStream streams (Make Rewrite manner) = streams ≡ false
HasStream streams (Make (Making.Print printing) manner) = streams ≡ false
HasStream streams (Stream streaming manner) = streams ≡ true
HasStream streams _ = ⊤

-- how texts are read: strictly, unless `--loose` is given
abbrev pub strictness_by : (is_loose : Bool) → Strictness
strictness_by is_loose = if is_loose then Plain else Strict

-- params of the type and the id of these names, or numbers
abbrev pub AreParams : (type id : Text) → Texts → Type 0
AreParams type id (Dump t i) = (key_number Types type ≡ Some t) × (key_number (ids_of t) id ≡ Some i)
AreParams type id _ = ⊥

-- a name is none of a type, or none of an id of the type
abbrev pub AreNoParams : (type id : Text) → Misuse → Type 0
AreNoParams type id (misuse.Read (read.TypeName name)) = (name.now ≡ type) × (key_number Types type ≡ None)
AreNoParams type id (misuse.Read (read.IdName name)) = (name.now ≡ id) × ((t : ℕ) × (key_number Types type ≡ Some t) × (key_number (ids_of t) id ≡ None))
AreNoParams type id _ = ⊥

-- how texts are read without `--pw-dump`: as bytes in hexadecimal where `--from-hex` is given, and then whether `--loose` is makes no difference
abbrev pub texts_by : (from_hex is_loose : Bool) → Texts
texts_by from_hex is_loose = if from_hex then Hex else Named (strictness_by is_loose)

-- how they are read where `--from-hex` is given, or isn't, `--loose` and `--pw-dump`, and `--type` and `--id` have these values
abbrev pub AreRead : (from_hex is_loose is_dump : Bool) → (type id : Option Text) → Texts → Type 0
AreRead from_hex is_loose false None None texts = texts ≡ texts_by from_hex is_loose
AreRead from_hex is_loose false type id texts = ⊥
AreRead false false true (Some type) (Some id) texts = AreParams type id texts
AreRead from_hex is_loose true type id texts = ⊥

-- what is wrong with these options of `read`
abbrev pub AreUnread : (from_hex is_loose is_dump : Bool) → (type id : Option Text) → Misuse → Type 0
AreUnread from_hex is_loose false None None why = ⊥
AreUnread from_hex is_loose false type id why = why ≡ misuse.Read read.WithoutDump
AreUnread true is_loose true type id why = why ≡ misuse.Read read.HexDump
AreUnread false true true type id why = why ≡ misuse.Read read.LooseDump
AreUnread false false true (Some type) (Some id) why = AreNoParams type id why
AreUnread false false true type id why = why ≡ misuse.Read read.DumpAlone

abbrev pub AreTextsIn : List Row → Texts → Type 0
AreTextsIn rows =
    AreRead (is_given (codes "from-hex") rows) (is_given (codes "loose") rows) (is_given (codes "pw-dump") rows) (first_of (codes "type") rows)
    (first_of (codes "id") rows)

abbrev pub HasNoTexts : List Row → Misuse → Type 0
HasNoTexts rows =
    AreUnread (is_given (codes "from-hex") rows) (is_given (codes "loose") rows) (is_given (codes "pw-dump") rows) (first_of (codes "type") rows)
    (first_of (codes "id") rows)

abbrev pub HasTexts : List Row → Word → Type 0
HasTexts rows (Make (Read texts) manner) = AreTextsIn rows texts
HasTexts rows _ = ⊤

-- Only private clauses cite it.
abbrev pub ReadsAs : Texts → Word → Type 0
ReadsAs texts (Make (Read its) manner) = its ≡ texts
ReadsAs texts _ = ⊤

-- an option is given that doesn't go with the `--pw-dump` of `json`
abbrev pub excludes_dump : List Row → Bool
excludes_dump rows =
    is_given (codes "pretty") rows
    || (is_given (codes "hex") rows || (is_given (codes "stream") rows || (is_some (first_of (codes "nth") rows)
    || (is_some (first_of (codes "type") rows) || (is_some (first_of (codes "id") rows) || is_some (first_of (codes "key") rows))))))

-- `json` prints as pw-dump does where that is asked for, and then no such option is given
abbrev pub AsksForDump : List Row → (dumps : Bool) → Type 0
AsksForDump rows true = (is_given (codes "pw-dump") rows ≡ true) × (excludes_dump rows ≡ false)
AsksForDump rows false = is_given (codes "pw-dump") rows ≡ false

abbrev pub ExcludesDump : List Row → Misuse → Type 0
ExcludesDump rows why = (why ≡ misuse.WithDump) × (is_given (codes "pw-dump") rows ≡ true) × (excludes_dump rows ≡ true)

-- whether a form is one of `json`
abbrev pub IsOfJson : Form → Type 0
IsOfJson Lines = ⊥
IsOfJson LinesAndBytes = ⊥
IsOfJson (form.Text layout) = ⊤
IsOfJson Bytes = ⊤
IsOfJson Pods = ⊥

-- the fact holds of whether this word is `json --pw-dump`; of words other than `json` nothing is said
abbrev pub HasDumpBy : (Bool → Type 0) → Word → Type 0
HasDumpBy Dumps (Make (Making.Dump colours) manner) = Dumps true
HasDumpBy Dumps (Make (Json style) manner) = Dumps false
HasDumpBy Dumps (Stream (Streaming.Json style) manner) = Dumps false
HasDumpBy Dumps (Print printing manner) = IsOfJson printing.printout.form → Dumps false
HasDumpBy Dumps (Stream (Streaming.Print printing) manner) = IsOfJson printing.printout.form → Dumps false
HasDumpBy Dumps _ = ⊤

abbrev pub HasDump : List Row → Word → Type 0
HasDump rows word = HasDumpBy (AsksForDump rows) word

-- Only private clauses cite it.
abbrev pub DumpsAs : (dumps : Bool) → Word → Type 0
DumpsAs dumps word = HasDumpBy (λ its. dumps ≡ its) word

-- objects are fixated, and with plain values in place of choices where `--settle` is given
abbrev pub fixating : (settles : Bool) → OfMaking
fixating settles = if settles then Settle else Fixate

-- recorded messages are compared without what each run sets anew where `--across-runs` is given
abbrev pub comparison_by : (across_runs : Bool) → Comparison
comparison_by across_runs = if across_runs then AcrossRuns else Whole

-- the flags that not all words take
abbrev pub flags_in : List Row → Flags
flags_in rows =
    record { streams = is_given (codes "stream") rows; settles = is_given (codes "settle") rows; across_runs = is_given (codes "across-runs") rows }

-- the word does what its flag says: `fixate` settles or doesn't, and `diff` compares across runs or whole
abbrev pub HasFlags : Flags → Word → Type 0
HasFlags flags (Make Fixate manner) = flags.settles ≡ false
HasFlags flags (Make Settle manner) = flags.settles ≡ true
HasFlags flags (Diff comparison reading) = comparison ≡ comparison_by flags.across_runs
HasFlags flags _ = ⊤

-- the name that stands for the standard input, also where none is given
abbrev pub dash : Text
dash = codes "-"

abbrev pub or_input : List Text → List Text
or_input [] = dash ∷ []
or_input (n ∷ ns) = n ∷ ns

abbrev pub names_in : List Row → List Text
names_in rows = or_input (unwrap_or (all_of (codes "FILE") rows) [])

-- the words are the program's, and ask for this
pub record Asks (words : List (Bor (List ℕ))) (screen : Screen) (request : Request) : Type 0 where
  pub accepted : fault_of program (texts words) ≡ []
  pub rows : List Row
  pub word : subcommand_of program (texts words) ≡ Some (name_of request.word, rows)
  pub options : Options
  pub given : AreGiven rows screen options
  pub printout : HasPrintout options request.word
  pub fate : Fate
  pub its_fate : IsFateIn rows fate
  pub manner : HasManner (reading_in rows) fate request.word
  pub stream : HasStream (is_given (codes "stream") rows) request.word
  pub read_as : HasTexts rows request.word
  pub dump : HasDump rows request.word
  pub flags : HasFlags (flags_in rows) request.word
  pub names : texts request.names.items ≡ names_in rows
  pub target : option_map (λ s. s.now) request.target ≡ first_of (codes "output") rows

-- pods themselves are printed
abbrev pub prints_pods : Printing → Bool
prints_pods printing = is_pods printing.printout.form

-- a word that writes pods, and no text
abbrev pub makes_pods : OfMaking → Bool
makes_pods (Json style) = false
makes_pods (Making.Dump colours) = false
makes_pods (Read texts) = true
makes_pods Rewrite = true
makes_pods Fixate = true
makes_pods Settle = true
makes_pods (Making.Print printing) = prints_pods printing
makes_pods Check = false

abbrev pub streams_pods : OfStreaming → Bool
streams_pods (Streaming.Json style) = false
streams_pods Streaming.Rewrite = true
streams_pods (Streaming.Print printing) = prints_pods printing
streams_pods Streaming.Check = false

abbrev pub writes_pods : Word → Bool
writes_pods (Print printing manner) = prints_pods printing
writes_pods (Make making manner) = makes_pods making
writes_pods (Stream streaming manner) = streams_pods streaming
writes_pods (Diff comparison reading) = false
writes_pods (Agree work reading) = true

-- pods would go to a terminal, which `-o` doesn't ask for
abbrev pub fills_terminal : Screen → Request → Bool
fills_terminal screen request = writes_pods request.word && goes_to_terminal screen.is_terminal (option_map (λ s. s.now) request.target)

-- `-o -` is the standard output
abbrev pub file_of : Option (Bor (List ℕ)) → Option (Bor (List ℕ))
file_of None = None
file_of (Some name) = if bytes_eq name.now dash then None else Some name

-- no word of the program's is named
abbrev pub NamesNoWord : List (Bor (List ℕ)) → Type 0
NamesNoWord words =
    (word : Word) (rows : List Row) → subcommand_of program (texts words) ≡ Some (name_of word, rows) → ⊥

-- clap accepts the words, and they name no word of the program's, which clap never does, or an option has a value that is
-- none of its own, options of `read` are wrong, options for refused pods exclude each other, or one of `json` excludes another
pub record AsksNothing (words : List (Bor (List ℕ))) (why : Misuse) : Type 0 where
  pub accepted : fault_of program (texts words) ≡ []
  pub nothing : ((why ≡ NoWord) × NamesNoWord words)
      ⊎ ((name : Text) × (rows : List Row) × (subcommand_of program (texts words) ≡ Some (name, rows))
      × (HasUnknownValue rows why ⊎ HasNoTexts rows why ⊎ HasNoFate rows why ⊎ ExcludesDump rows why))

-- All of each input is printed as JSON. Only private clauses cite it.
abbrev pub IsAllAsJson : Style → Manner → (streams : Bool) → Word → Type 0
IsAllAsJson style manner streams word =
    word ≡ (if streams then Stream (Streaming.Json style) manner else Make (Json style) manner)
