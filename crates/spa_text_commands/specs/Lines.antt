-- The lines of pods: docs/TEXT.md, "What `show` writes".
use Rattle.std.specs.Prelude.{◌≡◌, ◌≢◌, ◌≤◌, ◌+◌, ◌⊎◌, ℕ, codes, Bool, true, false, List, [], ◌∷◌, ◌++◌, None, length}
use Rattle.std.specs.Fmt.{decimal}
use Rattle.hex.specs.Hex.{encode_lower}
use Rattle.json.specs.Ascii.{quote}
use Rattle.spa_format.specs.Pod.{AreMembers}
use Rattle.spa_format.specs.Tree.{Trees}
use Rattle.spa_format.specs.Walk.{walk}
use Rattle.spa_format.specs.Fixation.{walk_size}
use Rattle.spa_text_commands.specs.Dump.{hex_lines}
use Rattle.spa_text_commands.specs.Paths.{numbered}
use Rattle.spa_text_commands.specs.Selection.{Part, selected}
use Rattle.spa_text_commands.specs.Texts.{PrintsAt, wrapped}
use Rattle.spa_text_commands.specs.declared.selection.Form.{Form}
use Rattle.spa_text_commands.specs.declared.selection.Form.TheVariants as form
use Rattle.spa_text_commands.specs.declared.selection.Printout.{Printout}
use Rattle.spa_text_commands.specs.declared.showing.Listed.{Listed}

-- one line or more: the last byte ends a line
abbrev pub AreLines : List ℕ → Type 0
AreLines out = (before : List ℕ) × (out ≡ before ++ (10 ∷ []))

-- the line before those of a pod: the number of the top-level pod, the steps from there, and the byte where it begins
abbrev pub head_line : (count place : ℕ) → (path : List ℕ) → List ℕ
head_line count place path = codes "pod " ++ (decimal (count + 1) ++ (path ++ (codes ", byte " ++ (decimal place ++ 10 ∷ []))))

-- a pod that is accepted counts for none, and a refused one for one
abbrev pub IsCounted : List ℕ → ℕ → Type 0
IsCounted p n = (((vs : Trees) × AreMembers vs p) × (n ≡ 0)) ⊎ (((vs : Trees) → ¬ (AreMembers vs p)) × (n ≡ 1))

-- the line with the pod's number and byte, and lines of what it is
abbrev pub ArePodLines : Part → List ℕ → Type 0
ArePodLines part out = (lines : List ℕ) × AreLines lines × (out ≡ head_line part.count part.place part.path ++ lines)

-- pods themselves are printed, which are no lines
abbrev pub is_pods : Form → Bool
is_pods form.Pods = true
is_pods _ = false

-- what is printed of a pod in this form; the number says whether it is refused
abbrev pub PrintsPart : Form → Part → (out : List ℕ) → (refused : ℕ) → Type 0
PrintsPart form.Lines part out refused = ArePodLines part out
PrintsPart form.LinesAndBytes part out refused = (lines : List ℕ) × ArePodLines part lines × (out ≡ lines ++ hex_lines part.place part.pod)
PrintsPart (form.Text layout) part out refused =
    ((refused ≡ 0) × PrintsAt layout (numbered part.count part.path) part.pod out) ⊎ ((refused ≢ 0) × (out ≡ []))
PrintsPart form.Pods part out refused = out ≡ part.pod
PrintsPart form.Bytes part out refused = out ≡ wrapped (numbered part.count part.path) None (quote ∷ (encode_lower part.pod ++ (quote ∷ []))) ++ 10 ∷ []

-- what is printed of these pods, one behind another; so many of them are refused
abbrev pub PrintsParts : Form → List Part → (out : List ℕ) → (refused : ℕ) → Type 0
PrintsParts form [] out refused = (out ≡ []) × (refused ≡ 0)
PrintsParts form (part ∷ parts) out refused =
    (first : List ℕ) × (others : List ℕ) × (n : ℕ) × (m : ℕ) × (out ≡ first ++ others) × (refused ≡ n + m) × IsCounted part.pod n
    × PrintsPart form part first n × PrintsParts form parts others m

-- what is printed of top-level pods, which so many pods and bytes of the input stand before; so many of the printed pods are refused
abbrev pub PrintsSelected : Printout → (count place : ℕ) → List (List ℕ) → (out : List ℕ) → (refused : ℕ) → Type 0
PrintsSelected printout count place pods out refused = PrintsParts printout.form (selected printout.selection count place pods) out refused

-- ---- Only private clauses cite these.

-- lines were added
pub record Adds (old new : List ℕ) : Type 0 where
  pub said : List ℕ
  pub added : new ≡ old ++ said
  pub lines : AreLines said

-- lines were added, or nothing
pub record MayAdd (old new : List ℕ) : Type 0 where
  pub said : List ℕ
  pub added : new ≡ old ++ said
  pub lines : (said ≡ []) ⊎ AreLines said

-- the line with the pod's number and byte, and lines of what it is, were added
pub record AddsPodLines (part : Part) (old new : List ℕ) : Type 0 where
  pub out : List ℕ
  pub lines : ArePodLines part out
  pub added : new ≡ old ++ out

-- what is printed of this pod was added; the number says whether it is refused
pub record AddsPart (form : Form) (part : Part) (refused : ℕ) (old new : List ℕ) : Type 0 where
  pub out : List ℕ
  pub prints : PrintsPart form part out refused
  pub added : new ≡ old ++ out

-- what is printed of these pods was added
pub record AddsParts (form : Form) (parts : List Part) (old new : List ℕ) (refused : ℕ) : Type 0 where
  pub out : List ℕ
  pub prints : PrintsParts form parts out refused
  pub added : new ≡ old ++ out

-- what is printed of the whole pods that the bytes begin with was added
pub record Lists (printout : Printout) (count place : ℕ) (bytes old new : List ℕ) (listed : Listed) : Type 0 where
  pub out : List ℕ
  pub prints : PrintsSelected printout count place (walk bytes) out listed.refused
  pub added : new ≡ old ++ out
  pub behind : walk_size (walk bytes) + listed.left ≡ length bytes
  pub few : listed.refused ≤ length bytes
