use Rattle.std.proofs.Common.{◌+◌, ◌*◌, ◌/◌, length, refl, arith}
use Rattle.std.proofs.lemmas.Bool.{and_parts}
use Rattle.spa_write.proofs.Shorts.{all_short, no_short, short_next, short_quarters}
use Rattle.spa_write.proofs.short.are_short.Goals as goal

pub loop-index-init : goal.loop-index-init
loop-index-init c =
    let vs = c.args.values.now in
    let part = length vs / 4 in
    record {
      first = no_short vs 0;
      second = no_short vs part;
      third = no_short vs (2 * part);
      fourth = no_short vs (3 * part);
    }

pub loop-index-preserved : goal.loop-index-preserved
loop-index-preserved c =
    let vs = c.args.values.now in
    let part = length vs / 4 in
    let i = c.loop-index.index in
    let within = c.loop-index-test.true in
    let both = and_parts _ _ c.if-not-near-far.false in
    let near = and_parts _ _ both.0 in
    let far = and_parts _ _ both.1 in
    record {
      first = short_next vs 0 i i c.index-values-index.result (omega arith) (grind arith) c.index-values-index.is
          (c.has_short_pod.ensures near.0) c.loop-index.invariant.first;
      second = short_next vs part i (part + i) c.index-values-part.result refl (grind arith) c.index-values-part.is
          (c.has_short_pod-in-loop-index.ensures near.1) c.loop-index.invariant.second;
      third = short_next vs (2 * part) i (2 * part + i) c.index-values-part-in-loop-index.result refl (grind arith)
          c.index-values-part-in-loop-index.is (c.has_short_pod-in-loop-index-2.ensures far.0) c.loop-index.invariant.third;
      fourth = short_next vs (3 * part) i (3 * part + i) c.index-values-part-in-loop-index-2.result refl (grind arith)
          c.index-values-part-in-loop-index-2.is (c.has_short_pod-in-loop-index-3.ensures far.1) c.loop-index.invariant.fourth;
    }

pub loop-index-2-init : goal.loop-index-2-init
loop-index-2-init c =
    short_quarters c.args.values.now (length c.args.values.now / 4) c.loop-index.index c.loop-index-test.false
    c.loop-index.auto.index-end c.loop-index.invariant

pub loop-index-2-preserved : goal.loop-index-2-preserved
loop-index-2-preserved c =
    short_next c.args.values.now 0 c.loop-index-2.index c.loop-index-2.index c.index-values-index-in-loop-index-2.result
    (omega arith) c.loop-index-2-test.true c.index-values-index-in-loop-index-2.is
    (c.has_short_pod-in-loop-index-2-2.ensures c.if-not-has_short_pod.false) c.loop-index-2.invariant

pub returns : goal.returns
returns c = λ t. all_short c.args.values.now c.loop-index-2.index c.loop-index-2-test.false c.loop-index-2.invariant
