-- The names of refusals, and their texts: docs/FORMAT.md, "Faults".
use Rattle.std.specs.Prelude.{⊤, ◌≡◌, ◌++◌, ℕ, List, codes}
use Rattle.std.specs.Fmt.{decimal}
use Rattle.std.specs.Borrow.{Bor}
use Rattle.spa_fixed_sized.specs.declared.fault.FaultKind.{FaultKind}
use Rattle.spa_fixed_sized.specs.declared.fault.FaultKind.TheVariants as fault_kind
use Rattle.spa_fixed_sized.specs.declared.fault.DeserializeError.{DeserializeError}
use Rattle.spa_fixed_sized.specs.declared.fault.DeserializeError.TheVariants as error

abbrev pub fault_kind_text : FaultKind → List ℕ
fault_kind_text fault_kind.Short = codes "Short"
fault_kind_text fault_kind.Tag = codes "Tag"
fault_kind_text fault_kind.Text = codes "Text"

-- the name of a refusal; of a `Nom` that of its fault
abbrev pub kind_text : {I : Type 0} → DeserializeError I → List ℕ
kind_text (error.Nom f) = fault_kind_text f.kind
kind_text error.UnsupportedType = codes "UnsupportedType"
kind_text error.InvalidType = codes "InvalidType"
kind_text error.PropertyMissing = codes "PropertyMissing"
kind_text (error.PropertyWrongKey k) = codes "PropertyWrongKey"
kind_text error.InvalidChoiceType = codes "InvalidChoiceType"
kind_text error.MissingChoiceValues = codes "MissingChoiceValues"
kind_text error.WrongSize = codes "WrongSize"
kind_text error.UnreadMembers = codes "UnreadMembers"
kind_text error.NoElementLeft = codes "NoElementLeft"
kind_text error.FailedReader = codes "FailedReader"
kind_text error.OutOfMemory = codes "OutOfMemory"

-- the text of a fault of the bytes
abbrev pub fault_text : FaultKind → List ℕ
fault_text fault_kind.Short = codes "the bytes are cut short"
fault_text fault_kind.Tag = codes "the pod is of another type than the one asked for"
fault_text fault_kind.Text = codes "a string isn't UTF-8 with one NUL, at its end"

-- the text as which a refusal is displayed
abbrev pub error_text : {I : Type 0} → DeserializeError I → List ℕ
error_text (error.Nom f) = fault_text f.kind
error_text error.UnsupportedType = codes "the visitor takes no such value"
error_text error.InvalidType = codes "there is no such type, or none of which elements and values can be"
error_text error.PropertyMissing = codes "a property is missing"
error_text (error.PropertyWrongKey k) = codes "the next property has key " ++ (decimal k ++ codes ", and not the one asked for")
error_text error.InvalidChoiceType = codes "a choice has no such shape"
error_text error.MissingChoiceValues = codes "a choice has fewer values than its shape takes"
error_text error.WrongSize = codes "a body or the size of elements isn't as long as its type's"
error_text error.UnreadMembers = codes "members are left unread"
error_text error.NoElementLeft = codes "the array has no further element"
error_text error.FailedReader = codes "the reader was refused before"
error_text error.OutOfMemory = codes "out of memory"

-- two refusals are equal: of one name, and of a `Nom` with one fault and one place, of a wrong key with one key
abbrev pub IsSameError : DeserializeError (Bor (List ℕ)) → DeserializeError (Bor (List ℕ)) → Type 0
IsSameError (error.Nom f) (error.Nom g) = (f.input.now ≡ g.input.now) × (f.kind ≡ g.kind)
IsSameError error.UnsupportedType error.UnsupportedType = ⊤
IsSameError error.InvalidType error.InvalidType = ⊤
IsSameError error.PropertyMissing error.PropertyMissing = ⊤
IsSameError (error.PropertyWrongKey k) (error.PropertyWrongKey l) = k ≡ l
IsSameError error.InvalidChoiceType error.InvalidChoiceType = ⊤
IsSameError error.MissingChoiceValues error.MissingChoiceValues = ⊤
IsSameError error.WrongSize error.WrongSize = ⊤
IsSameError error.UnreadMembers error.UnreadMembers = ⊤
IsSameError error.NoElementLeft error.NoElementLeft = ⊤
IsSameError error.FailedReader error.FailedReader = ⊤
IsSameError error.OutOfMemory error.OutOfMemory = ⊤
IsSameError _ _ = ⊥
