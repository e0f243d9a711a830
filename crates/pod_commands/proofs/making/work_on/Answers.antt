use Rattle.std.proofs.Common.{◌∙◌, ◌++◌, ap, subst, sym}
use Rattle.pod_commands.specs.Making.{Makes}
use Rattle.spa_recordings.specs.GoingOn.{GoesOn}
use Rattle.spa_refusals.specs.Several.{AreRefused, AreSaid}
use Rattle.pod_commands.proofs.Worked.{all_refused}
use Rattle.pod_commands.proofs.making.work_on.Goals as goal

pub add_refusals-requires : goal.add_refusals-requires
add_refusals-requires c =
    let made = c.in_ok-make_each.ensures in
    let same = c.as_slice.ensures.value ∙ made.4 ∙ ap (λ z. z ++ made.1) c.new-2.ensures.items in
    subst (AreRefused c.args.job.manner.reading c.args.place c.args.part.now) (sym same) (all_refused _ _ _ _ _ _ _ _ _ made.2)

pub returns : goal.returns
returns c =
    let made = c.in_ok-make_each.ensures in
    let same = c.as_slice.ensures.value ∙ made.4 ∙ ap (λ z. z ++ made.1) c.new-2.ensures.items in
    let out = made.3 ∙ ap (λ z. z ++ made.0) c.new.ensures.items in
    let said = c.in_ok-add_refusals.ensures in
    record {
      pods = made.1;
      these = said.0;
      goes_on =
          subst (λ z. GoesOn c.args.job.name.now c.args.job.manner.reading c.args.job.manner.refused (Makes c.args.job.making) c.args.count c.args.place c.args.part.now z made.1)
          (sym out) made.2;
      said = subst (λ z. AreSaid c.args.job.manner.reading c.args.place c.args.part.now z said.0) same said.1;
      added = said.2;
    }
