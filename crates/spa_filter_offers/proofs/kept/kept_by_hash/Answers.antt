use Rattle.std.proofs.Common.{◌≡◌, [], ◌∷◌, map, take, sym, subst, arith}
use Rattle.std.proofs.lemmas.Grind.{common_steps}
use Rattle.spa_filter_offers.specs.Offers.{IsKept, OfferAdmits}
use Rattle.spa_filter_offers.proofs.Contents.{map-next}
use Rattle.spa_filter_offers.proofs.Keeping.{IsKept-none, IsKept-more}
use Rattle.spa_filter_offers.proofs.kept.kept_by_hash.Goals as goal

pub loop-value-init : goal.loop-value-init
loop-value-init g c =
    let f = g.T.CanonicalFixedSizedPod.fixed in
    let P = OfferAdmits f c.args.other.now in
    let x = f c.args.first.now in
    let none = subst (λ ys. IsKept P [] (map f ys)) (sym c.in_ok-values.ensures.items) (IsKept-none P x []) in
    IsKept-more P x _ [] (map f c.keep_hashed.new.values.items) none (c.in_ok-keep_hashed.ensures c.if-not-branch.false)

pub loop-value-preserved : goal.loop-value-preserved
loop-value-preserved g c =
    let f = g.T.CanonicalFixedSizedPod.fixed in
    let P = OfferAdmits f c.args.other.now in
    let l = c.loop-value in
    let first = f c.args.first.now in
    let x = f c.value-item.result in
    let before = map f (take l.value-index c.args.others.now) in
    let now = map f c.keep_hashed-in-loop-value.new.values.items in
    let more = map-next f c.args.others.now l.value-index _ c.loop-value-test.true c.value-item.is in
    subst (λ ys. IsKept P (first ∷ ys) now) (sym more)
    (IsKept-more P x (map f l.values.items) (first ∷ before) now l.invariant (c.in_ok-keep_hashed-2.ensures c.if-not-branch-2.false))

pub returns : goal.returns
returns g c =
    let f = g.T.CanonicalFixedSizedPod.fixed in
    let P = OfferAdmits f c.args.other.now in
    let l = c.loop-value in
    let whole : take l.value-index c.args.others.now ≡ c.args.others.now = grind (arith, common_steps) in
    subst (λ xs. IsKept P (f c.args.first.now ∷ map f xs) (map f l.values.items)) whole l.invariant
