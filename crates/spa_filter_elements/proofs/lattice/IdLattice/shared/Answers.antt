use Rattle.std.proofs.Common.{refl}
use Rattle.spa_filter_elements.proofs.Masks.{IsShared-id}
use Rattle.spa_filter_elements.proofs.lattice.IdLattice.shared.Goals as goal

pub returns : goal.returns
returns c = IsShared-id c.args.self.now.0 c.args.other.now.0 _ refl
