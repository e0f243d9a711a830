-- Refusals by name and in words: docs/TEXT.md, "Refusals".
use Rattle.std.specs.Prelude.{ℕ, ◌==◌, List, [], ◌∷◌, ◌++◌, Option, Some, None, codes, if◌then◌else◌, string_bytes, unwrap_or}
use Rattle.std.specs.Fmt.{decimal}
use Rattle.spa_names.specs.declared.table.Table.TheVariants.{Types}
use Rattle.spa_text_read.specs.Names.{name_of}
use Rattle.spa_text_read.specs.declared.fitting.FullType.{FullType}
use Rattle.spa_text_read.specs.declared.fitting.Misfit.{Misfit}
use Rattle.spa_text_read.specs.declared.cause.Cause.{Cause}
use Rattle.spa_text_read.specs.declared.cause.Cause.TheVariants as cause
use Rattle.spa_text_read.specs.declared.error.TextError.{TextError}

-- the name of a cause
abbrev pub kind_text : Cause → List ℕ
kind_text cause.OutOfMemory = codes "OutOfMemory"
kind_text cause.Token = codes "Token"
kind_text cause.Name = codes "Name"
kind_text cause.Number = codes "Number"
kind_text cause.Type = codes "Type"
kind_text cause.Count = codes "Count"
kind_text cause.KeyType = codes "KeyType"
kind_text cause.End = codes "End"

-- a cause in words
abbrev pub cause_text : Cause → List ℕ
cause_text cause.OutOfMemory = codes "out of memory"
cause_text cause.Token = codes "another token is looked for, or the text isn't JSON"
cause_text cause.Name = codes "a key or a name is unknown there"
cause_text cause.Number = codes "a number is malformed or doesn't fit its type"
cause_text cause.Type = codes "an array or a choice can't have a value of this type"
cause_text cause.Count = codes "a choice has more or fewer values than its shape takes"
cause_text cause.KeyType = codes "a value isn't of the type that belongs under its key"
cause_text cause.End = codes "something follows the value"

-- what is said of a path, where there is one
abbrev pub path_text : List ℕ → List ℕ
path_text [] = []
path_text (x ∷ xs) = codes " at " ++ x ∷ xs

-- a type by its name, or by its number where it has none
abbrev pub type_name : ℕ → List ℕ
type_name type = unwrap_or (name_of Types type) (decimal type)

-- of an array also the type of its elements
abbrev pub type_text : FullType → List ℕ
type_text it = if it.element.0 == 0 then type_name it.type_.0 else type_name it.type_.0 ++ (codes " of " ++ type_name it.element.0)

-- what is said of a value of another type than the one that belongs under its key
abbrev pub misfit_text : Option Misfit → List ℕ
misfit_text None = []
misfit_text (Some misfit) = codes ": " ++ (type_text misfit.found ++ (codes " in place of " ++ type_text misfit.wanted))

-- a refusal with its place
abbrev pub error_text : TextError → List ℕ
error_text e =
    codes "line " ++ (decimal e.line ++ (codes ", column " ++ (decimal e.column ++ (codes ": " ++ (cause_text e.cause ++ (path_text (string_bytes e.path) ++ misfit_text e.misfit))))))
