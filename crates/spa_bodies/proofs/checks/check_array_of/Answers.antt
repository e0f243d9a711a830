use Rattle.std.proofs.Common.{◌∙◌, refl, subst}
use Rattle.spa_format.specs.Faults.{of_array}
use Rattle.spa_format.specs.Pod.{AreElements}
use Rattle.spa_fixed_sized.proofs.Chunks.{whole_elements}
use Rattle.spa_bodies.proofs.checks.check_array_of.Goals as goal

pub returns-in-Some-clause-ok : goal.returns-in-Some-clause-ok
returns-in-Some-clause-ok g c =
    let met = g.met.T.CanonicalFixedSizedPod in
    let kind = g.T.CanonicalFixedSizedPod.kind in
    let read = whole_elements kind _ _ met.its_size c.in-Some.ensures.whole in (
      kind,
      read.0,
      record {
        header = c.requires.header;
        child_size = c.in-Some.ensures.child_size;
        child_type = c.requires.child_type ∙ met.its_type;
        elements = subst (AreElements kind read.0) c.in-Some.ensures.elements read.1;
      },
    )

pub returns-in-None-clause-refused : goal.returns-in-None-clause-refused
returns-in-None-clause-refused g c = of_array g.T.CanonicalFixedSizedPod.kind refl c.in-None.ensures.none
