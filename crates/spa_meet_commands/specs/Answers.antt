-- The object on which two objects of one input agree, and the texts of refusals: docs/PROVED.md, "The programs".
use Rattle.std.specs.Prelude.{◌≡◌, ◌+◌, ◌≤◌, ℕ, codes, List, [], ◌++◌, Option, Some, None, length}
use Rattle.std.specs.Fmt.{decimal}
use Rattle.spa_format.specs.Front.{rest_of}
use Rattle.spa_format.specs.Words.{header_size, word_at}
use Rattle.spa_names.specs.Lookup.{keys_of, name_of}
use Rattle.spa_filter.specs.declared.error.FilterError.{FilterError}
use Rattle.spa_filter.specs.declared.error.FilterError.TheVariants as cause
use Rattle.spa_keyed_objects.specs.Sides.{side_text}
use Rattle.spa_filter.specs.ErrorTexts.{error_text}
use Rattle.spa_meet_commands.specs.Agreeing.{AgreeIn, ArentAgreed}
use Rattle.spa_meet_commands.specs.declared.pair.Work.{Work}
use Rattle.spa_meet_commands.specs.declared.answer.Failure.{Failure}
use Rattle.spa_meet_commands.specs.declared.answer.Failure.TheVariants.{Apart, More, NoPair, NoPod, NoObject, OutOfMemory}

-- the text of a key: its name, where it has one, and its number
abbrev pub named_key : Option (List ℕ) → ℕ → List ℕ
named_key None key = decimal key
named_key (Some name) key = name ++ (codes " (" ++ (decimal key ++ codes ")"))

-- the name of a key of objects of this type
unfoldable pub key_name : (type key : ℕ) → Option (List ℕ)
key_name type key = name_of (keys_of (record { 0 = type })) key

-- the text of a key of objects of this type
abbrev pub key_text : (type key : ℕ) → List ℕ
key_text type key = named_key (key_name type key) key

-- the text of a refusal of two objects, the first of which is of this type
abbrev pub cause_text : ℕ → FilterError → List ℕ
cause_text type cause.TypeMismatch = error_text cause.TypeMismatch
cause_text type (cause.Missing key) = codes "key " ++ (key_text type key ++ codes " is mandatory in one object, and the other lacks it")
cause_text type (cause.Unsupported key) = codes "no value is looked for in the choices for key " ++ key_text type key
cause_text type (cause.Disjoint key) = codes "no value for key " ++ (key_text type key ++ codes " is in both")
cause_text type (cause.Unread side) = error_text (cause.Unread side)
cause_text type (cause.NotObject side) = error_text (cause.NotObject side)
cause_text type cause.TooLarge = error_text cause.TooLarge
cause_text type cause.OutOfMemory = error_text cause.OutOfMemory

-- the text of a refusal
abbrev pub failure_text : Failure → List ℕ
failure_text (Apart type e) = cause_text type e
failure_text More = codes "more follows the second object"
failure_text NoPair = codes "no two of the objects agree"
failure_text (NoPod side place) = side_text side ++ (codes " file, byte " ++ (decimal place ++ codes ": no pod"))
failure_text (NoObject side place) = side_text side ++ (codes " file, byte " ++ (decimal place ++ codes ": no object"))
failure_text OutOfMemory = codes "out of memory"

-- this is the type of the object at the front of the input, where it is long enough to have one
abbrev pub HasType : (input : List ℕ) → ℕ → Type 0
HasType input type = header_size + 4 ≤ length input → type ≡ word_at input header_size

-- nothing follows the two pods at the front of the input
abbrev pub IsPair : List ℕ → Type 0
IsPair input = rest_of (rest_of input) ≡ []

-- the input is a pair that agrees, in an object of this encoding
abbrev pub PairIn : Work → List ℕ → List ℕ → Type 0
PairIn work out input = IsPair input × AgreeIn work input (rest_of input) out

-- the refusal is one of the input
abbrev pub IsPairRefused : Work → Failure → List ℕ → Type 0
IsPairRefused work (Apart type e) input = IsPair input × HasType input type × ArentAgreed work input (rest_of input) e
IsPairRefused work More input = ¬ (IsPair input)
IsPairRefused work _ input = ⊥
