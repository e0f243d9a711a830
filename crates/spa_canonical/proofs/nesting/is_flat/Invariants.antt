use Rattle.std.specs.Prelude.{◌↔◌, length}
use Rattle.spa_canonical.specs.Depth.{NestsDeeperInside}
use Rattle.spa_canonical.proofs.nesting.is_flat.Given as goal

abbrev pub invariant-loop-front : goal.invariant-loop-front
invariant-loop-front l = NestsDeeperInside 0 l.keyed l.rest ↔ NestsDeeperInside 0 l.keyed l.pods

abbrev pub decreases-loop-front : goal.decreases-loop-front
decreases-loop-front l = length l.rest
