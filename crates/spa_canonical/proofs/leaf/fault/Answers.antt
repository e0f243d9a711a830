use Rattle.std.proofs.Common.{subst}
use Rattle.std.specs.Prelude.{false}
use Rattle.spa_canonical.specs.Look.{IsNoLeafBody}
use Rattle.spa_canonical.proofs.Faulted.{fault_at_front, refused_leaf}
use Rattle.spa_canonical.proofs.leaf.fault.Goals as goal

pub unreachable-requires : goal.unreachable-requires
unreachable-requires c = refused_leaf _ _ _ _ _ _ c.in-Some.ensures.there c.requires.refused c.in-Ok.ensures.there

pub returns : goal.returns
returns c =
    let front = c.in-Some.front in
    fault_at_front _ _ _ _ _ c.in-Some.ensures.there
    (subst (IsNoLeafBody false front.type_ front.body.now) c.in-Err-Some.field-0-is c.in-Err-Some.ensures.none)
