-- The command line, in clap's terms: `pod WORD [OPTION ..] [FILE ..]`.
use Rattle.std.specs.Prelude.{◌-◌, ◌^◌, codes, Some, true}
use Rattle.clap.specs.Words.{App, Rule, Text, new_app, new_rule, with_rule, with_subcommand}
use Rattle.clap.specs.declared.builder.action.ArgAction.TheVariants.{Append, SetTrue}
use Rattle.clap.specs.declared.builder.value_parser.ValueParser.TheVariants.{Unsigned}

-- `FILE ..`
abbrev pub files : Rule
files = record (new_rule (codes "FILE")) { action = Some Append }

-- `-o FILE`, `--output FILE`
abbrev pub output : Rule
output = record (new_rule (codes "output")) { short = Some 111; long = Some (codes "output"); value_names = 1 }

-- a flag, such as `--lenient`, `--keep-going`, `--keep-refused`, `--resync`, `--pretty`, `--hex`, `--loose`
abbrev pub flag : Text → Rule
flag name = record (new_rule name) { long = Some name; action = Some SetTrue }

-- an option with one value, such as `--color WHEN`
abbrev pub valued : Text → Rule
valued name = record (new_rule name) { long = Some name; value_names = 1 }

-- `--nth N`, a number from 1 on
abbrev pub nth : Rule
nth = record (valued (codes "nth")) { parser = Some (Unsigned 1 (2 ^ 64 - 1)) }

-- `--stream`
abbrev pub stream : Rule
stream = flag (codes "stream")

-- a word that takes files
abbrev pub word : Text → App
word name = with_rule (with_rule (new_app name) files) output

-- a word that reads pods takes `--lenient` too, and one that goes over pods `--keep-going` and `--resync`
abbrev pub reading_pods : App → App
reading_pods app = with_rule app (flag (codes "lenient"))

abbrev pub over_pods : App → App
over_pods app = with_rule (with_rule (reading_pods app) (flag (codes "keep-going"))) (flag (codes "resync"))

-- one that writes pods for pods takes `--keep-refused` too
abbrev pub to_pods : Text → App
to_pods name = with_rule (over_pods (word name)) (flag (codes "keep-refused"))

-- `--type NAME,..`, `--id NAME,..` and `--key NAME,..`
abbrev pub with_names : App → App
with_names app = with_rule (with_rule (with_rule app (valued (codes "type"))) (valued (codes "id"))) (valued (codes "key"))

-- `show` and `json` print parts of inputs, and in colours
abbrev pub with_parts : App → App
with_parts app = with_rule (with_rule (with_names (with_rule app nth)) (flag (codes "hex"))) (valued (codes "color"))

abbrev pub show : App
show = with_rule (with_parts (reading_pods (word (codes "show")))) stream

-- `json` takes `--pretty` and `--pw-dump`, too
abbrev pub with_layouts : App → App
with_layouts app = with_rule (with_rule app (flag (codes "pretty"))) (flag (codes "pw-dump"))

abbrev pub json : App
json = with_rule (with_parts (with_layouts (over_pods (word (codes "json"))))) stream

-- `show`, `json` and `rewrite` take `--stream`
abbrev pub rewrite : App
rewrite = with_rule (to_pods (codes "rewrite")) stream

-- `fixate` takes `--settle`
abbrev pub fixate : App
fixate = with_rule (to_pods (codes "fixate")) (flag (codes "settle"))

-- `read` takes `--loose`, `--from-hex`, and `--pw-dump` with `--type NAME` and `--id NAME`
abbrev pub with_params : App → App
with_params app = with_rule (with_rule (with_rule app (flag (codes "pw-dump"))) (valued (codes "type"))) (valued (codes "id"))

abbrev pub read : App
read = with_params (with_rule (with_rule (word (codes "read")) (flag (codes "loose"))) (flag (codes "from-hex")))

-- `get` takes a PATH before its files
abbrev pub path : Rule
path = record (new_rule (codes "PATH")) { required = true }

abbrev pub get : App
get = with_rule (with_rule (with_rule (new_app (codes "get")) path) files) output

-- the program without its words: it wants one, and has a version
abbrev pub bare : App
bare =
    let app = new_app (codes "pod") in
    record app {
      top = record app.top { no_binary_name = true; has_version = true; subcommand_required = true; arg_required_else_help = true };
    }

-- words of two inputs, of which `diff` takes `--across-runs`
abbrev pub diff : App
diff = with_rule (reading_pods (word (codes "diff"))) (flag (codes "across-runs"))

abbrev pub with_pair : App → Text → App
with_pair app name = with_subcommand app (reading_pods (word name)).top

-- the program's words, in order
abbrev pub with_json : App → App
with_json app = with_subcommand (with_subcommand (with_subcommand app json.top) get.top) read.top

abbrev pub with_writers : App → App
with_writers app =
    with_subcommand (with_subcommand (with_subcommand app rewrite.top) fixate.top)
    (over_pods (word (codes "check"))).top

abbrev pub with_pairs : App → App
with_pairs app = with_pair (with_pair (with_subcommand app diff.top) (codes "meet")) (codes "filter")

-- the program
abbrev pub program : App
program = with_pairs (with_writers (with_json (with_subcommand bare show.top)))
