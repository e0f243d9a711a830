use Rattle.std.proofs.Common.{◌≡◌, ◌+◌, ◌-◌, ◌<◌, length, get_or, arith}
use Rattle.std.proofs.lemmas.List.{get_or_default}
use Rattle.spa_keyed_objects.proofs.Places.{placed}
use Rattle.spa_keyed_objects.proofs.keyed.places_of.Goals as goal

pub loop-left-preserved : goal.loop-left-preserved
loop-left-preserved c =
    let ps = c.args.properties.now in
    let l = c.loop-left in
    let at = l.left - 1 in
    let read = c.index-properties-left.result in
    let p = get_or ps at read in
    let within : at < length ps = omega (arith, l.invariant.0, c.loop-left-test.true) in
    let next : l.left ≡ at + 1 = omega (arith, c.loop-left-test.true) in (
      omega (arith, l.invariant.0),
      placed ps at p within (get_or_default ps at read p within) l.left next l.places c.insert.new.self
          l.invariant.1 c.in_ok-insert.ensures.updates,
    )
