use Rattle.std.proofs.Common.{◌≡◌, ◌∙◌, [], map, refl, take, sym, subst, arith}
use Rattle.std.proofs.lemmas.Grind.{common_steps}
use Rattle.spa_format.specs.Kind.{content, none}
use Rattle.spa_filter.specs.CommonPods.{SideAdmits}
use Rattle.spa_filter_offers.specs.Offers.{IsKept, IsOneMoreKept}
use Rattle.spa_filter_offers.proofs.Contents.{map-next}
use Rattle.spa_filter_offers.proofs.Keeping.{IsKept-none, IsKept-more}
use Rattle.spa_filter.proofs.enums.put_kept.Goals as goal

pub loop-value-init : goal.loop-value-init
loop-value-init g c = (IsKept-none (SideAdmits g.T.CanonicalFixedSizedPod.kind g.T.CanonicalFixedSizedPod.fixed c.args.other.now) none [], omega arith, refl)

pub loop-value-preserved : goal.loop-value-preserved
loop-value-preserved g c =
    let pod = g.T.CanonicalFixedSizedPod in
    let f = content pod.kind in
    let P = SideAdmits pod.kind pod.fixed c.args.other.now in
    let l = c.loop-value in
    let value = c.value-item.result in
    let before = map f (take l.value-index c.args.values.now) in
    let old = map pod.fixed (take l.count l.room) in
    let now = map pod.fixed (take c.keep_shared-count.result c.keep_shared-count.new.values) in
    let more = map-next f c.args.values.now l.value-index value c.loop-value-test.true c.value-item.is in
    let one = subst (λ x. IsOneMoreKept P x old now) c.of_body.ensures c.keep_shared-count.ensures.kept in
    let few = c.keep_shared-count.ensures.few in
    let fewer = l.invariant.1 in
    (subst (λ ys. IsKept P ys now) (sym more) (IsKept-more P (f value) old before now l.invariant.0 one), omega (arith, few, fewer), c.keep_shared-count.ensures.same_length ∙ l.invariant.2)

pub returns : goal.returns
returns g c =
    let pod = g.T.CanonicalFixedSizedPod in
    let P = SideAdmits pod.kind pod.fixed c.args.other.now in
    let l = c.loop-value in
    let whole : take l.value-index c.args.values.now ≡ c.args.values.now = grind (arith, common_steps) in
    let few = c.requires.room in
    let fewer = l.invariant.1 in
    let long = l.invariant.2 in
    record {
      kept = subst (λ xs. IsKept P (map (content pod.kind) xs) (map pod.fixed (take l.count l.room))) whole l.invariant.0;
      within = grind (arith, few, fewer, long);
    }
