use Rattle.std.proofs.Common.{⊎_elim, ◌∙◌, subst}
use Rattle.std.proofs.lemmas.Result.{IfErr-weaker, IfOk-weaker}
use Rattle.libspa.specs.Front.{Begins}
use Rattle.example_types.proofs.Modes.{mode_read, no_mode}
use Rattle.example_types.proofs.mode.read_mode.Goals as goal

pub returns-clause-mode : goal.returns-clause-mode
returns-clause-mode c =
    IfOk-weaker c.deserialize_from.result _ _ (λ read r. subst (Begins c.args.input.now) (mode_read r.value read.1 r.holds) r.begins)
    c.deserialize_from.ensures.read

pub returns-clause-one : goal.returns-clause-one
returns-clause-one c =
    IfOk-weaker c.deserialize_from.result _ _
    (λ read r v g. c.pods_have_one_value.ensures _ v r.value g.pod r.begins.pod ∙ mode_read r.value read.1 r.holds)
    c.deserialize_from.ensures.read

pub returns-clause-refused : goal.returns-clause-refused
returns-clause-refused c =
    IfErr-weaker c.deserialize_from.result _ _
    (λ e r. no_mode _ c.args.input.now e (⊎_elim (⊎_elim absurd (⊎_elim absurd absurd)) (⊎_elim absurd absurd)) r.1)
    c.deserialize_from.ensures.refused
