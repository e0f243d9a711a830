-- What is said of a wrong command line.
use Rattle.std.specs.Prelude.{ℕ, List, [], ◌∷◌, ◌++◌, Option, None, Some, codes}
use Rattle.std.specs.Borrow.{Bor}
use Rattle.spa_recordings.specs.declared.going_on.Refused.{Refused}
use Rattle.spa_recordings.specs.declared.going_on.Refused.TheVariants.{LeftOut, Kept, Resynced}
use Rattle.spa_text_commands.specs.declared.naming.Named.{Named}
use Rattle.spa_text_commands.specs.declared.naming.Named.TheVariants.{Types, Ids, Keys}
use Rattle.spa_text_read.specs.Letters.{shown_text}
use Rattle.pod_commands.specs.declared.misuse.Excluded.{Excluded}
use Rattle.pod_commands.specs.declared.misuse.Excluded.TheVariants.{Output, Resync}
use Rattle.pod_commands.specs.declared.misuse.Misuse.{Misuse}
use Rattle.pod_commands.specs.declared.misuse.Misuse.TheVariants.{NoWord, Nth, Color, Name, TooFew, TooMany, ToTerminal, WithStream, WithPart, WithResync, Read, Path, WithDump}
use Rattle.pod_commands.specs.declared.misuse.OfRead.{OfRead}
use Rattle.pod_commands.specs.declared.misuse.OfRead.TheVariants.{TypeName, IdName, DumpAlone, HexDump, WithoutDump, LooseDump}

abbrev pub excluded_text : Excluded → List ℕ
excluded_text Output = codes "--output"
excluded_text Resync = codes "--resync"

-- why `--stream` excludes it
abbrev pub stream_reason : Excluded → List ℕ
stream_reason Output = codes "it writes as input comes, and a file is written at the end"
stream_reason Resync = codes "an input is held whole to find where the next pod begins"

-- what has a name, which is also the option for it
abbrev pub word_of : Named → List ℕ
word_of Types = codes "type"
word_of Ids = codes "id"
word_of Keys = codes "key"

-- the option by which this becomes of refused pods
abbrev pub option_of : Refused → List ℕ
option_of LeftOut = codes "--keep-going"
option_of Kept = codes "--keep-refused"
option_of Resynced = codes "--resync"

-- a name that is nearly the one that was given
abbrev pub similar_text : Option (Bor (List ℕ)) → List ℕ
similar_text None = []
similar_text (Some name) = codes "; one has '" ++ (name.now ++ codes "'")

-- what is said of wrong options of `read`
abbrev pub read_text : OfRead → List ℕ
read_text (TypeName value) = codes "--type: no type has the name or number '" ++ (shown_text value.now ++ codes "'")
read_text (IdName value) = codes "--id: no id of the type has the name or number '" ++ (shown_text value.now ++ codes "'")
read_text DumpAlone = codes "--pw-dump needs --type and --id, which pw-dump doesn't print"
read_text WithoutDump = codes "read takes --type and --id only with --pw-dump: other texts have both"
read_text HexDump = codes "--pw-dump can't be used with --from-hex: what pw-dump prints is JSON"
read_text LooseDump = codes "--pw-dump can't be used with --loose: the tables say what a list is"

-- two options that exclude each other; of another misuse nothing
abbrev pub conflict_text : Misuse → List ℕ
conflict_text (WithStream other) = codes "--stream can't be used with " ++ (excluded_text other ++ (codes ": " ++ stream_reason other))
conflict_text (WithResync refused) =
    codes "--resync can't be used with " ++ (option_of refused ++ codes ": that goes on where a refused pod's size word says")
conflict_text WithDump =
    codes "--pretty, --hex, --nth, --type, --id, --key and --stream can't be used with json --pw-dump: it prints each pod of whole inputs on a line"
conflict_text (WithPart refused) =
    codes "--nth, --type, --id, --key and --hex can't be used with "
    ++ (option_of refused ++ codes ": they count refused pods, too; 'pod rewrite --keep-going' leaves these out")
conflict_text _ = []

abbrev pub misuse_text : Misuse → List ℕ
misuse_text NoWord = codes "there is no command"
misuse_text (Nth value) = codes "--nth takes a number from 1 on, not '" ++ (shown_text value.now ++ codes "'")
misuse_text (Path path) = codes "PATH begins with the number of a pod, such as 3 or '3[2].rate', not '" ++ (shown_text path.now ++ codes "'")
misuse_text (Color value) = codes "--color takes auto, always or never, not '" ++ (shown_text value.now ++ codes "'")
misuse_text (Name named value similar) =
    codes "--" ++ (word_of named ++ (codes ": no " ++ (word_of named ++ (codes " has the name or number '" ++ (shown_text value.now ++ (codes "'" ++ similar_text similar))))))
misuse_text (Read why) = read_text why
misuse_text TooFew = codes "diff takes two FILEs"
misuse_text (TooMany name) = codes "unexpected FILE '" ++ (shown_text name.now ++ codes "': two are the most")
misuse_text ToTerminal =
    codes "pods are bytes, and the standard output is a terminal: -o FILE writes a file, -o - writes there all the same"
misuse_text (WithStream other) = conflict_text (WithStream other)
misuse_text (WithResync refused) = conflict_text (WithResync refused)
misuse_text WithDump = conflict_text WithDump
misuse_text (WithPart refused) = conflict_text (WithPart refused)

-- the line that is written of it
abbrev pub misuse_line : Misuse → List ℕ
misuse_line why = codes "pod: " ++ (misuse_text why ++ (codes "; try 'pod --help'" ++ 10 ∷ []))
