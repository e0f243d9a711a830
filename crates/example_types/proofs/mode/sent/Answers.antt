use Rattle.std.proofs.Common.{[], ◌++◌, ap, sym, subst, ◌∙◌}
use Rattle.std.proofs.lemmas.List.{append-nil}
use Rattle.libspa.specs.Encoding.{encoding_of}
use Rattle.libspa.specs.Front.{Begins}
use Rattle.libspa.specs.Kind.{int, long}
use Rattle.libspa.specs.Tree.{Tree, fixed, member, no_trees, struct}
use Rattle.example_types.specs.declared.mode.Mode.{Mode}
use Rattle.example_types.proofs.Modes.{mode_value}
use Rattle.example_types.proofs.mode.sent.Goals as goal

-- the mode of a value, and the other one where it is that of none
abbrev mode_of : Mode → Tree → Mode
mode_of other (struct (member (struct (member (fixed (int w)) (member (fixed (int h)) no_trees))) (member (fixed (long r)) no_trees))) =
    record { size = record { width = w; height = h }; rate = r }
mode_of other _ = other

pub returns : goal.returns
returns c =
    let mode = c.args.mode.now in
    let encoding = encoding_of (mode_value mode) in
    let bytes = append-nil encoding ∙ ap (λ l. l ++ encoding) (sym c.new.ensures) ∙ sym c.in-Ok.ensures.encoding ∙ sym c.as_slice.ensures.value in
    let same = c.in-Ok-read_mode.ensures.one (mode_value mode) (subst (λ b. Begins b (mode_value mode)) bytes (c.in-Ok.ensures.back [])) in
    ap (mode_of mode) (sym same)

pub unreachable-requires-in_default-read_mode : goal.unreachable-requires-in_default-read_mode
unreachable-requires-in_default-read_mode c =
    let mode = c.args.mode.now in
    let encoding = encoding_of (mode_value mode) in
    let bytes = append-nil encoding ∙ ap (λ l. l ++ encoding) (sym c.new.ensures) ∙ sym c.in-Ok.ensures.encoding ∙ sym c.as_slice.ensures.value in
    c.in_default-read_mode.ensures.refused mode (subst (λ b. Begins b (mode_value mode)) bytes (c.in-Ok.ensures.back []))
