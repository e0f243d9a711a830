-- What is written of pods as they come is that of their parts.
use Rattle.std.proofs.Common.{◌∙◌, ◌+◌, ℕ, List, [], ◌++◌, ap, ap₂, arith, length, refl}
use Rattle.spa_format.specs.Tree.{join_members, no_trees}
use Rattle.spa_format.specs.Walk.{walk}
use Rattle.spa_format.proofs.Sequences.{members_joined}
use Rattle.spa_recordings.specs.Rewritings.{nothing_rewritten, rewritten_more}
use Rattle.spa_text_commands.specs.Lines.{PrintsParts}
use Rattle.spa_text_commands.specs.Parts.{nothing_printed, nothing_shown, printed_more, shown_more}
use Rattle.spa_text_commands.specs.Selection.{Part}
use Rattle.spa_text_commands.specs.declared.selection.Form.{Form}
use Rattle.spa_text_commands.specs.declared.selection.Form.TheVariants as form
use Rattle.pod_commands.specs.Streaming.{WritesOf}
use Rattle.pod_commands.specs.ColourLaws.{EndsLine, joined, parts_end, texts_end}
use Rattle.pod_commands.specs.Colours.{InColours, colours_of, nothing}
use Rattle.pod_commands.specs.declared.colours.Colours.{Colours}
use Rattle.pod_commands.specs.declared.colours.Colours.TheVariants.{Off, On}
use Rattle.pod_commands.specs.declared.request.Streaming.{Streaming}
use Rattle.pod_commands.specs.declared.request.Streaming.TheVariants.{Json, Rewrite, Print, Check}

-- ---- Texts in colours

-- one behind another
coloured_more : (colours : Colours) (text others out more : List ℕ) → EndsLine text → InColours colours text out →
    InColours colours others more → InColours colours (text ++ others) (out ++ more)
coloured_more Off text others out more e h k = ap (λ z. z ++ more) h ∙ ap (λ z. text ++ z) k
coloured_more On text others out more e h k = joined text out others more e h k

-- what is printed of pods
parts_coloured : (f : Form) (colours : Colours) (parts : List Part) (text others out more : List ℕ) (refused : ℕ) → PrintsParts f parts text refused →
    InColours (colours_of f colours) text out → InColours (colours_of f colours) others more →
    InColours (colours_of f colours) (text ++ others) (out ++ more)
parts_coloured form.Lines colours parts text others out more n p h k = coloured_more colours text others out more (parts_end form.Lines parts text n refl p) h k
parts_coloured form.LinesAndBytes colours parts text others out more n p h k =
    coloured_more colours text others out more (parts_end form.LinesAndBytes parts text n refl p) h k
parts_coloured (form.Text layout) colours parts text others out more n p h k =
    coloured_more colours text others out more (parts_end (form.Text layout) parts text n refl p) h k
parts_coloured form.Bytes colours parts text others out more n p h k = coloured_more colours text others out more (parts_end form.Bytes parts text n refl p) h k
parts_coloured form.Pods colours parts text others out more n p h k = ap (λ z. z ++ more) h ∙ ap (λ z. text ++ z) k

nothing_coloured : (colours : Colours) → InColours colours [] []
nothing_coloured Off = refl
nothing_coloured On = nothing

-- ---- What is written

pub nothing_written : (s : Streaming) (count place : ℕ) → WritesOf s count place [] [] 0
nothing_written (Json style) count place = (([], nothing_printed style.layout, nothing_coloured style.colours), refl)
nothing_written Rewrite count place = nothing_rewritten
nothing_written (Print printing) count place = ([], nothing_shown printing.printout count place, nothing_coloured (colours_of printing.printout.form printing.colours))
nothing_written Check count place = (refl, (no_trees, refl), refl)

pub written_more : (s : Streaming) (count place : ℕ) (first others out more : List ℕ) (m n : ℕ) → WritesOf s count place first out m →
    WritesOf s (count + length (walk first)) (place + length first) others more n → WritesOf s count place (first ++ others) (out ++ more) (m + n)
written_more (Json style) count place first others out more m n h k =
    let i = h.1 in
    let j = k.1 in
    let f = h.0 in
    let o = k.0 in (
      (
        f.0 ++ o.0,
        printed_more style.layout first others f.0 o.0 f.1 o.1,
        coloured_more style.colours f.0 o.0 out more (texts_end _ f.1.0 f.0 f.1.2) f.2 o.2,
      ),
      omega (arith, i, j),
    )
written_more Rewrite count place first others out more m n h k = rewritten_more first others out more m n h k
written_more (Print printing) count place first others out more m n h k = (
  h.0 ++ k.0,
  shown_more printing.printout count place first others h.0 k.0 m n h.1 k.1,
  parts_coloured printing.printout.form printing.colours _ h.0 k.0 out more m h.1.1 h.2 k.2,
)
written_more Check count place first others out more m n h k =
    let i = h.2 in let j = k.2 in (
      ap₂ (λ x y. x ++ y) h.0 k.0,
      (join_members h.1.0 k.1.0, members_joined h.1.0 k.1.0 first others h.1.1 k.1.1),
      omega (arith, i, j),
    )
