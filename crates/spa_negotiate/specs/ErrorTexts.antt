-- Refusals in words: docs/NEGOTIATION.md, "Refusals".
use Rattle.std.specs.Prelude.{ℕ, List, ◌++◌, codes}
use Rattle.std.specs.Fmt.{decimal}
use Rattle.spa_keyed_objects.specs.Sides.{side_text}
use Rattle.spa_negotiate.specs.declared.error.NegotiateError.{NegotiateError}
use Rattle.spa_negotiate.specs.declared.error.NegotiateError.TheVariants as error

-- the text as which a refusal is displayed
abbrev pub error_text : NegotiateError → List ℕ
error_text error.TypeMismatch = codes "the objects are of two types"
error_text (error.Unsupported key) = codes "no value is looked for in the choices for key " ++ decimal key
error_text (error.Disjoint key) = codes "no value for key " ++ (decimal key ++ codes " is in both")
error_text (error.Unread side) = codes "the " ++ (side_text side ++ codes " object isn't a pod")
error_text (error.NotObject side) = codes "the " ++ (side_text side ++ codes " pod isn't an object")
error_text error.TooLarge = codes "the object on which they agree is too large"
error_text error.OutOfMemory = codes "out of memory"
