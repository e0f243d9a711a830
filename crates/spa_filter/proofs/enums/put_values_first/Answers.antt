use Rattle.std.proofs.Common.{◌<◌, ◌∙◌, map, sym, subst, arith}
use Rattle.std.proofs.lemmas.Result.{on_ok_weaker, IfErr-weaker}
use Rattle.std.specs.List.{Contains}
use Rattle.spa_format.specs.Kind.{content}
use Rattle.spa_format.proofs.FixedKinds.{size_fits}
use Rattle.spa_filter_offers.specs.Offers.{OfferAdmits, default_of}
use Rattle.spa_filter.proofs.Apart.{refused_choices}
use Rattle.spa_filter.proofs.EnumValues.{appended_sides, enum_first, enum_side, read_side, refused_sides}
use Rattle.spa_bytes.proofs.Passing.{passed_on}
use Rattle.spa_filter.proofs.enums.put_values_first.Goals as goal

pub returns-in_err-choice-clause-cause : goal.returns-in_err-choice-clause-cause
returns-in_err-choice-clause-cause g c =
    passed_on _ _ _ c.from_residual.ensures.1
    (λ v w h i. refused_choices _ c.args.a.now c.args.b.now _ c.requires.over c.in_err-choice.ensures.cause v w h i)

pub put_sides-requires : goal.put_sides-requires
put_sides-requires g c =
    let pod = g.met.T.CanonicalFixedSizedPod in
    let small : g.row.N < 9 = subst (λ n. n < 9) (sym pod.its_size ∙ c.requires.size) (size_fits g.T.CanonicalFixedSizedPod.kind) in
    (omega (arith, small), (c.requires.size, (c.requires.room, record { each = λ x. (λ h. h, λ h. h) })))

pub returns-clause-appended : goal.returns-clause-appended
returns-clause-appended g c =
    let k = g.T.CanonicalFixedSizedPod.kind in
    let f = g.T.CanonicalFixedSizedPod.fixed in
    let choice = c.in_ok-choice.choice in
    let offer = c.offer_of.result in
    let d = f c.args.ours.0 in
    let first = enum_side k d c.args.ours.1.now c.args.a.now c.requires.values in
    let second =
    read_side k f choice.0.0 choice.1 offer c.args.b.now c.in_ok-choice.ensures.choice g.met.T.CanonicalFixedSizedPod.its_kind
    (c.offer_of.ensures.offer choice.0.0) in
    on_ok_weaker c.put_sides.result
    (λ m v w h i.
    appended_sides (Contains (map (content k) c.args.ours.1.now)) (OfferAdmits f offer) d (default_of f offer) v w c.args.a.now c.args.b.now first second
    (enum_first k d c.args.ours.1.now c.args.a.now c.requires.values second.tree) h i _ _ m)
    c.put_sides.ensures.appended

pub returns-clause-cause : goal.returns-clause-cause
returns-clause-cause g c =
    let k = g.T.CanonicalFixedSizedPod.kind in
    let f = g.T.CanonicalFixedSizedPod.fixed in
    let choice = c.in_ok-choice.choice in
    let offer = c.offer_of.result in
    let d = f c.args.ours.0 in
    let first = enum_side k d c.args.ours.1.now c.args.a.now c.requires.values in
    let second =
    read_side k f choice.0.0 choice.1 offer c.args.b.now c.in_ok-choice.ensures.choice g.met.T.CanonicalFixedSizedPod.its_kind
    (c.offer_of.ensures.offer choice.0.0) in
    IfErr-weaker c.put_sides.result _ _
    (λ why r v w h i.
    refused_sides (Contains (map (content k) c.args.ours.1.now)) (OfferAdmits f offer) d (default_of f offer) v w c.args.a.now c.args.b.now first second
    (enum_first k d c.args.ours.1.now c.args.a.now c.requires.values second.tree) h i why r)
    c.put_sides.ensures.cause
