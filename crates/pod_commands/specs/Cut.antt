-- What is shown of a last pod of which not all is there: docs/TEXT.md, "A last pod that is cut".
use Rattle.std.specs.Prelude.{◌≡◌, ◌≤◌, ◌<◌, ◌⊎◌, ℕ, codes, Bool, true, false, List, [], ◌∷◌, ◌++◌, length}
use Rattle.std.specs.Fmt.{decimal}
use Rattle.spa_format.specs.Words.{extent, header_size, word_at}
use Rattle.spa_recordings.specs.Cut.{IsEnded}
use Rattle.spa_text_commands.specs.Dump.{hex_lines}
use Rattle.spa_text_commands.specs.Parts.{ShowsPods}
use Rattle.spa_text_commands.specs.declared.selection.Form.{Form}
use Rattle.spa_text_commands.specs.declared.selection.Form.TheVariants as form
use Rattle.spa_text_commands.specs.declared.selection.Printout.{Printout}
use Rattle.pod_commands.specs.Colours.{InColours}
use Rattle.pod_commands.specs.declared.request.Printing.{Printing}

-- pods are printed as lines
abbrev pub are_lines : Form → Bool
are_lines form.Lines = true
are_lines form.LinesAndBytes = true
are_lines _ = false

-- the lines of what is printed, without bytes
abbrev pub without_bytes : Printout → Printout
without_bytes printout = record { form = form.Lines; selection = printout.selection }

-- the bytes that are there in hex, where bytes are printed
abbrev pub rows_in : Form → (place : ℕ) → (there : List ℕ) → List ℕ
rows_in form.LinesAndBytes place there = hex_lines place there
rows_in _ place there = []

-- the last line: how many bytes are there, of as many as the pod takes with its padding
abbrev pub cut_line : (there : List ℕ) → List ℕ
cut_line there =
    codes ".. cut: " ++ (decimal (length there) ++ (codes " of " ++ (decimal (extent (word_at there 0)) ++ (codes " bytes are there" ++ 10 ∷ []))))

-- lines, and others below them, if there are any
abbrev pub lines_above : (lines others : List ℕ) → List ℕ
lines_above [] others = []
lines_above (x ∷ xs) others = x ∷ xs ++ others

-- The lines of the pod that these bytes are when they are ended, which so many pods and bytes of the input stand before; below them the bytes and the last
-- line.
pub record ShowsEnded (printing : Printing) (count place : ℕ) (there out : List ℕ) : Type 0 where
  pub pod : List ℕ
  pub ended : IsEnded there pod
  pub lines : List ℕ
  pub refused : ℕ
  pub shown : ShowsPods (without_bytes printing.printout) count place pod lines refused
  pub coloured : InColours printing.colours (lines_above lines (rows_in printing.printout.form place there ++ cut_line there)) out

-- So a last pod is shown of which these bytes are there, if pods are printed as lines and its header is there; else nothing is.
pub data ShowsCut (printing : Printing) (count place : ℕ) (there out : List ℕ) : Type 0 where
  nothing : (are_lines printing.printout.form ≡ false) ⊎ (length there < header_size) → out ≡ [] → ShowsCut printing count place there out
  ended : are_lines printing.printout.form ≡ true → header_size ≤ length there → ShowsEnded printing count place there out →
      ShowsCut printing count place there out
