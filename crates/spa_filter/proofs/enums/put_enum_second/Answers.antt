use Rattle.std.proofs.Common.{◌<◌, ◌∙◌, map, sym, subst, arith}
use Rattle.std.proofs.lemmas.Result.{on_ok_weaker, IfErr-weaker}
use Rattle.std.specs.List.{Contains}
use Rattle.spa_format.specs.Kind.{content}
use Rattle.spa_format.proofs.FixedKinds.{size_fits}
use Rattle.spa_filter_offers.specs.Offers.{OfferAdmits, default_of}
use Rattle.spa_filter.proofs.EnumValues.{appended_sides, enum_second, enum_side, read_side, refused_sides}
use Rattle.spa_filter.proofs.enums.put_enum_second.Goals as goal

pub put_sides-requires : goal.put_sides-requires
put_sides-requires g c =
    let pod = g.met.T.CanonicalFixedSizedPod in
    let small : g.row.N < 9 = subst (λ n. n < 9) (sym pod.its_size ∙ c.requires.size) (size_fits g.T.CanonicalFixedSizedPod.kind) in
    let room = c.in-Some.ensures.few in
    (omega (arith, small), (c.requires.size, (room, record { each = λ x. (λ h. (h.1, h.0), λ h. (h.1, h.0)) })))

pub returns-clause-appended : goal.returns-clause-appended
returns-clause-appended g c =
    let k = g.T.CanonicalFixedSizedPod.kind in
    let f = g.T.CanonicalFixedSizedPod.fixed in
    let choice = c.in_ok-choice.choice in
    let theirs = c.in-Some.theirs in
    let offer = c.offer_of.result in
    let e = f theirs.0 in
    let first =
    read_side k f choice.0.0 choice.1 offer c.args.a.now c.in_ok-choice.ensures.choice g.met.T.CanonicalFixedSizedPod.its_kind
    (c.offer_of.ensures.offer choice.0.0) in
    let second = enum_side k e theirs.1.now c.args.b.now c.in-Some.ensures.values in
    on_ok_weaker c.put_sides.result
    (λ m v w h i.
    appended_sides (OfferAdmits f offer) (Contains (map (content k) theirs.1.now)) (default_of f offer) e v w c.args.a.now c.args.b.now first second
    (enum_second k e theirs.1.now c.args.b.now c.in-Some.ensures.values first.tree) h i _ _ m)
    c.put_sides.ensures.appended

pub returns-clause-cause : goal.returns-clause-cause
returns-clause-cause g c =
    let k = g.T.CanonicalFixedSizedPod.kind in
    let f = g.T.CanonicalFixedSizedPod.fixed in
    let choice = c.in_ok-choice.choice in
    let theirs = c.in-Some.theirs in
    let offer = c.offer_of.result in
    let e = f theirs.0 in
    let first =
    read_side k f choice.0.0 choice.1 offer c.args.a.now c.in_ok-choice.ensures.choice g.met.T.CanonicalFixedSizedPod.its_kind
    (c.offer_of.ensures.offer choice.0.0) in
    let second = enum_side k e theirs.1.now c.args.b.now c.in-Some.ensures.values in
    IfErr-weaker c.put_sides.result _ _
    (λ why r v w h i.
    refused_sides (OfferAdmits f offer) (Contains (map (content k) theirs.1.now)) (default_of f offer) e v w c.args.a.now c.args.b.now first second
    (enum_second k e theirs.1.now c.args.b.now c.in-Some.ensures.values first.tree) h i why r)
    c.put_sides.ensures.cause
