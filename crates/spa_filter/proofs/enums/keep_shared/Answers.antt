use Rattle.std.proofs.Common.{[], ◌∷◌, map, take, sym, ap, ◌∙◌, subst, arith}
use Rattle.std.proofs.lemmas.List.{length-set, map-append, take_more_set}
use Rattle.spa_filter.specs.CommonPods.{SideAdmits}
use Rattle.spa_filter_offers.specs.Offers.{IsOneMoreKept}
use Rattle.spa_filter_offers.proofs.Keeping.{IsOneMoreKept-pushed, IsOneMoreKept-seen}
use Rattle.spa_filter.proofs.enums.keep_shared.Goals as goal

pub returns : goal.returns
returns g c =
    let pod = g.T.CanonicalFixedSizedPod in
    let f = pod.fixed in
    let P = SideAdmits pod.kind f c.args.other.now in
    let x = c.args.value.now in
    let old = c.args.values.now in
    let n = c.args.count in
    let is = ap (map f) (take_more_set old n x c.requires.room) ∙ map-append f (take n old) (x ∷ []) in
    record {
      kept = subst (IsOneMoreKept P (f x) (map f (take n old))) (sym is)
          (IsOneMoreKept-pushed P (f x) (map f (take n old)) (c.admits_side.ensures.0 c.if-not-admits_side.false));
      few = omega arith;
      same_length = length-set old n x;
    }

pub returns-then-is_among-clause-kept : goal.returns-then-is_among-clause-kept
returns-then-is_among-clause-kept g c =
    let pod = g.T.CanonicalFixedSizedPod in
    let x = pod.fixed c.args.value.now in
    let there = c.is_among.ensures.0 c.if-is_among.true in
    IsOneMoreKept-seen (SideAdmits pod.kind pod.fixed c.args.other.now) x (map pod.fixed (take c.args.count c.args.values.now)) there
