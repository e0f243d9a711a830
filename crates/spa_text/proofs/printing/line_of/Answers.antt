use Rattle.std.proofs.Common.{ap, refl, subst, sym, ◌∙◌}
use Rattle.json.specs.Print.{print}
use Rattle.spa_value.specs.View.{view}
use Rattle.spa_text.specs.Line.{AreGood}
use Rattle.spa_text.proofs.Continuing.{whole_exact, whole_printed}
use Rattle.spa_text.proofs.printing.line_of.Goals as goal

pub returns-clause-reads : goal.returns-clause-reads
returns-clause-reads c =
    whole_printed (view c.args.value.now) _ _ _ c.new-out.ensures c.in_ok-print_value.ensures c.into_bytes.ensures.reads_back

pub returns-clause-good : goal.returns-clause-good
returns-clause-good c = subst AreGood (sym c.into_bytes.ensures.reads_back) c.into_bytes.ensures.good

pub returns-clause-printed : goal.returns-clause-printed
returns-clause-printed c = c.into_bytes.ensures.items ∙ ap print (sym c.into_bytes.ensures.reads_back)

pub returns-clause-exact : goal.returns-clause-exact
returns-clause-exact c = λ h.
    let v = view c.args.value.now in (
      c.into_bytes.ensures.items ∙ ap print (whole_exact v _ _ _ c.new-out.ensures c.in_ok-print_value.ensures refl h),
      whole_exact v _ _ _ c.new-out.ensures c.in_ok-print_value.ensures c.into_bytes.ensures.reads_back h,
    )
