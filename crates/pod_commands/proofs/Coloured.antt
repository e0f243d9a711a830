-- Texts in colours.
use Rattle.std.proofs.Common.{◌≡◌, ◌<◌, ◌∙◌, ◌++◌, [], ap, append_assoc, append-nil, arith, length, subst, sym, List, ℕ}
use Rattle.spa_format.specs.Walk.{walk}
use Rattle.spa_text_commands.specs.Answers.{ShowsAll}
use Rattle.spa_text_commands.specs.Lines.{PrintsSelected}
use Rattle.spa_text_commands.specs.Params.{PrintsParams}
use Rattle.spa_text_commands.specs.Texts.{Prints}
use Rattle.pod_commands.specs.declared.colours.Colours.{Colours}
use Rattle.spa_text_commands.specs.declared.showing.Printed.{Printed}
use Rattle.pod_commands.specs.Colours.{InColours, IsColoured, PrintsIn, ShowsIn, colour_of, colours_of, further, nothing, piece_in, piece_len, DumpsIn}
use Rattle.pod_commands.specs.declared.request.Printing.{Printing}
use Rattle.pod_commands.specs.declared.request.Style.{Style}

-- what is coloured of a text, of which this is left
pub record ColouredSoFar (text left out : List ℕ) : Type 0 where
  pub its : (more : List ℕ) → IsColoured left more → IsColoured text (out ++ more)

pub begins : (text out : List ℕ) → out ≡ [] → ColouredSoFar text text out
begins text out e = record { its = λ more h. subst (λ z. IsColoured text (z ++ more)) (sym e) h }

pub goes_behind : (text left piece behind out new : List ℕ) → left ≡ piece ++ behind → 0 < length piece → length piece ≡ piece_len left →
    new ≡ out ++ piece_in (colour_of piece behind) piece → ColouredSoFar text left out → ColouredSoFar text behind new
goes_behind text left piece behind out new e some long is so = record {
  its = λ more h.
      subst (λ z. IsColoured text z) (sym (ap (λ z. z ++ more) is ∙ append_assoc out (piece_in (colour_of piece behind) piece) more))
      (so.its (piece_in (colour_of piece behind) piece ++ more)
      (subst (λ z. IsColoured z (piece_in (colour_of piece behind) piece ++ more)) (sym e)
      (further piece behind more (λ none. (let l = ap length none in omega (arith, some, l))) (long ∙ ap piece_len e) h)));
}

pub ends : (text left out : List ℕ) → left ≡ [] → ColouredSoFar text left out → IsColoured text out
ends text left out e so =
    subst (IsColoured text) (append-nil out) (so.its [] (subst (λ z. IsColoured z []) (sym e) nothing))

-- texts in a style
pub printed_in : (style : Style) (pods text out : List ℕ) → Prints style.layout pods text → InColours style.colours text out → PrintsIn style pods out
printed_in style pods text out p c = (text, p, c)

-- what pw-dump prints
pub dumped_in : (colours : Colours) (pods text out : List ℕ) → PrintsParams pods text → InColours colours text out → DumpsIn colours pods out
dumped_in colours pods text out p c = (text, p, c)

-- parts of pods, of which none is refused
pub parts_in : (printing : Printing) (pods out : List ℕ) (printed : Printed) → ShowsAll printing.printout 0 0 pods printed → printed.refused ≡ 0 →
    InColours (colours_of printing.printout.form printing.colours) printed.bytes.items out → ShowsIn printing 0 0 pods out 0
parts_in printing pods out printed s e c =
    (printed.bytes.items, (s.whole, subst (PrintsSelected printing.printout 0 0 (walk pods) printed.bytes.items) e s.prints), c)
