use Rattle.spa_format.proofs.WalkLemmas.{length-drop_extent}
use Rattle.spa_view.proofs.props.PodProp.value.Goals as goal

pub invariant_of-result : goal.invariant_of-result
invariant_of-result c = record {
  whole = rw c.split_at.ensures.back (length-drop_extent c.args.self.now.bytes.now c.args.self.now.whole);
}
