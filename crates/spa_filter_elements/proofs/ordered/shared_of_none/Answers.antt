use Rattle.spa_filter_elements.proofs.Masks.{IsShared-none}
use Rattle.spa_filter_elements.proofs.ordered.shared_of_none.Goals as goal

pub returns : goal.returns
returns g c =
    let f = g.T.CanonicalFixedSizedPod.fixed in
    IsShared-none g.T.CanonicalFixedSizedPod.kind c.requires (f c.args.x.now) (f c.args.y.now)
    (g.met.T.CanonicalFixedSizedPod.its_kind c.args.x.now)
