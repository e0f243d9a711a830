-- What is written of a block.
use Rattle.std.proofs.Common.{◌≡◌, ◌≢◌, [], arith, refl, subst, sym, take, List, ℕ, Option}
use Rattle.std.specs.Io.KnownBytes.{Appends}
use Rattle.std.specs.Prelude.{Decides, IfErr, IfOk, Result}
use Rattle.spa_recordings.specs.Streaming.{BeginsMade, IsNotMade, WritesMade}
use Rattle.spa_recordings.specs.declared.streaming.Made.{Made}
use Rattle.spa_recordings.specs.declared.streaming.NotMade.{NotMade}
use Rattle.spa_format.specs.Walk.{walk}
use Rattle.spa_text_commands.specs.Answers.{ShowsAll}
use Rattle.spa_text_commands.specs.Lines.{PrintsSelected}
use Rattle.spa_text_commands.specs.Texts.{Prints}
use Rattle.spa_text_commands.specs.declared.showing.Printed.{Printed}
use Rattle.pod_commands.specs.Colours.{InColours, colours_of}
use Rattle.pod_commands.specs.Streaming.{MayRefuse, WritesOf}
use Rattle.pod_commands.specs.declared.request.Printing.{Printing}
use Rattle.pod_commands.specs.declared.request.Style.{Style}
use Rattle.pod_commands.specs.declared.request.Streaming.{Streaming}
use Rattle.pod_commands.specs.declared.request.Streaming.TheVariants.{Json, Print}

pub texts_written : (style : Style) (count place : ℕ) (block text out : List ℕ) (old new : Option (List ℕ)) (its : Made) → Prints style.layout block text →
    InColours style.colours text out → Appends old new out → its.refused ≡ 0 → Decides its.nothing (out ≡ []) →
    WritesMade (WritesOf (Json style) count place) block old new its
texts_written style count place block text out old new its p c w none nothing =
    record { out = out; made = ((text, p, c), none); nothing = nothing; written = w; few = omega (arith, none) }

pub texts_begun : (style : Style) (count place : ℕ) (block text out : List ℕ) (old new : Option (List ℕ)) → Prints style.layout block text →
    InColours style.colours text out → ((out ≢ []) × (n : ℕ) × Appends old new (take n out)) → BeginsMade (WritesOf (Json style) count place) block old new
texts_begun style count place block text out old new p c w = (out, 0, ((text, p, c), refl), w.0, w.1, w.2)

pub printed_written : (printing : Printing) (count place : ℕ) (block out : List ℕ) (printed : Printed) (old new : Option (List ℕ)) (its : Made) →
    ShowsAll printing.printout count place block printed → InColours (colours_of printing.printout.form printing.colours) printed.bytes.items out → Appends old new out →
    its.refused ≡ printed.refused → Decides its.nothing (out ≡ []) → WritesMade (WritesOf (Print printing) count place) block old new its
printed_written printing count place block out printed old new its s c w same nothing =
    let few = s.few in
    record {
      out = out;
      made = (printed.bytes.items, (s.whole, subst (PrintsSelected printing.printout count place (walk block) printed.bytes.items) (sym same) s.prints), c);
      nothing = nothing;
      written = w;
      few = omega (arith, few, same);
    }

pub printed_begun : (printing : Printing) (count place : ℕ) (block out : List ℕ) (printed : Printed) (old new : Option (List ℕ)) →
    ShowsAll printing.printout count place block printed → InColours (colours_of printing.printout.form printing.colours) printed.bytes.items out →
    ((out ≢ []) × (n : ℕ) × Appends old new (take n out)) → BeginsMade (WritesOf (Print printing) count place) block old new
printed_begun printing count place block out printed old new s c w =
    (out, printed.refused, (printed.bytes.items, (s.whole, s.prints), c), w.0, w.1, w.2)

-- what is written by another name
pub written_by : (s t : Streaming) (count place : ℕ) (block : List ℕ) (old new : Option (List ℕ)) (r : Result Made NotMade) → s ≡ t →
    IfOk r (WritesMade (WritesOf t count place) block old new) → IfOk r (WritesMade (WritesOf s count place) block old new)
written_by s t count place block old new r e h = subst (λ z. IfOk r (WritesMade (WritesOf z count place) block old new)) (sym e) h

pub unmade_by : (s t : Streaming) (count place : ℕ) (block after : List ℕ) (old new : Option (List ℕ)) (r : Result Made NotMade) → s ≡ t →
    IfErr r (IsNotMade (MayRefuse t) (WritesOf t count place) block after old new) →
    IfErr r (IsNotMade (MayRefuse s) (WritesOf s count place) block after old new)
unmade_by s t count place block after old new r e h =
    subst (λ z. IfErr r (IsNotMade (MayRefuse z) (WritesOf z count place) block after old new)) (sym e) h
