-- What pods are shown as, and what is said where they or texts are refused: docs/PROVED.md, "The programs".
use Rattle.std.specs.Prelude.{◌≡◌, ◌≤◌, ◌<◌, ⊤, ℕ, codes, List, ◌++◌, length, string_bytes}
use Rattle.std.specs.Fmt.{decimal}
use Rattle.spa_format.specs.Walk.{walk}
use Rattle.spa_format.specs.Fixation.{walk_size}
use Rattle.spa_text_read.specs.ErrorTexts.{misfit_text, path_text}
use Rattle.spa_text_commands.specs.Lines.{PrintsSelected}
use Rattle.spa_text_commands.specs.declared.answer.Failure.{Failure}
use Rattle.spa_text_commands.specs.declared.answer.Failure.TheVariants.{NoPods, Line, OutOfMemory, WriteFailed}
use Rattle.spa_text_commands.specs.declared.selection.Printout.{Printout}
use Rattle.spa_text_commands.specs.declared.showing.Printed.{Printed}

-- what is said of a refusal
abbrev pub failure_text : Failure → List ℕ
failure_text NoPods = codes "no pods"
failure_text (Line line column kind words path misfit) =
    codes "line " ++ (decimal line ++ (codes ", column " ++ (decimal column ++ (path_text (string_bytes path) ++ (codes ": " ++ (words.now
    ++ (misfit_text misfit ++ (codes " (" ++ (kind.now ++ codes ")")))))))))
failure_text OutOfMemory = codes "out of memory"
failure_text WriteFailed = codes "write failed"

-- These bytes consist of whole pods, and this is printed of them; so many pods and bytes stand before them.
pub record ShowsAll (printout : Printout) (count place : ℕ) (pods : List ℕ) (printed : Printed) : Type 0 where
  pub whole : walk_size (walk pods) ≡ length pods
  pub prints : PrintsSelected printout count place (walk pods) printed.bytes.items printed.refused
  pub few : printed.refused ≤ length pods

-- why bytes aren't printed so: something follows the whole pods
abbrev pub IsNotShown : List ℕ → Failure → Type 0
IsNotShown input NoPods = walk_size (walk input) < length input
IsNotShown input OutOfMemory = ⊤
IsNotShown input _ = ⊥
