use Rattle.std.proofs.Common.{◌<◌, ◌∙◌, map, sym, subst, arith}
use Rattle.std.proofs.lemmas.Result.{on_ok_weaker, IfErr-weaker}
use Rattle.std.specs.List.{Contains}
use Rattle.spa_format.specs.Kind.{content}
use Rattle.spa_format.proofs.FixedKinds.{size_fits}
use Rattle.spa_filter.proofs.EnumValues.{appended_sides, enum_first, enum_side, refused_sides}
use Rattle.spa_filter.proofs.enums.put_enum_first.Goals as goal

pub put_sides-requires : goal.put_sides-requires
put_sides-requires g c =
    let pod = g.met.T.CanonicalFixedSizedPod in
    let small : g.row.N < 9 = subst (λ n. n < 9) (sym pod.its_size ∙ c.requires.size) (size_fits g.T.CanonicalFixedSizedPod.kind) in
    let room = c.in-Some.ensures.few in
    (omega (arith, small), (c.requires.size, (room, record { each = λ x. (λ h. h, λ h. h) })))

pub returns-clause-appended : goal.returns-clause-appended
returns-clause-appended g c =
    let k = g.T.CanonicalFixedSizedPod.kind in
    let f = g.T.CanonicalFixedSizedPod.fixed in
    let ours = c.in-Some.ours in
    let theirs = c.in-Some-enum_view.theirs in
    let first = enum_side k (f ours.0) ours.1.now c.args.a.now c.in-Some.ensures.values in
    let second = enum_side k (f theirs.0) theirs.1.now c.args.b.now c.in-Some-enum_view.ensures in
    on_ok_weaker c.put_sides.result
    (λ m v w h i.
    appended_sides (Contains (map (content k) ours.1.now)) (Contains (map (content k) theirs.1.now)) (f ours.0) (f theirs.0) v w c.args.a.now c.args.b.now
    first second (enum_first k (f ours.0) ours.1.now c.args.a.now c.in-Some.ensures.values second.tree) h i _ _ m)
    c.put_sides.ensures.appended

pub returns-clause-cause : goal.returns-clause-cause
returns-clause-cause g c =
    let k = g.T.CanonicalFixedSizedPod.kind in
    let f = g.T.CanonicalFixedSizedPod.fixed in
    let ours = c.in-Some.ours in
    let theirs = c.in-Some-enum_view.theirs in
    let first = enum_side k (f ours.0) ours.1.now c.args.a.now c.in-Some.ensures.values in
    let second = enum_side k (f theirs.0) theirs.1.now c.args.b.now c.in-Some-enum_view.ensures in
    IfErr-weaker c.put_sides.result _ _
    (λ why r v w h i.
    refused_sides (Contains (map (content k) ours.1.now)) (Contains (map (content k) theirs.1.now)) (f ours.0) (f theirs.0) v w c.args.a.now c.args.b.now
    first second (enum_first k (f ours.0) ours.1.now c.args.a.now c.in-Some.ensures.values second.tree) h i why r)
    c.put_sides.ensures.cause
