use Rattle.std.proofs.Common.{◌≡◌, ◌<◌, ◌∙◌, map, take, sym, ap, subst, Some, None, arith}
use Rattle.std.proofs.lemmas.Result.{on_ok_weaker, IfErr-weaker}
use Rattle.std.specs.Option.{option_copied}
use Rattle.std.specs.Prelude.{slice_get}
use Rattle.spa_format.specs.Kind.{content}
use Rattle.spa_format.specs.Tree.{choice, enum_choice, fixed}
use Rattle.spa_format.proofs.FixedKinds.{size_fits}
use Rattle.spa_filter.specs.CommonPods.{SideAdmits, side_default}
use Rattle.spa_filter.proofs.EnumValues.{alone_first, alone_second, each_kept, empty_first, first_among, meets_enum, meets_only, none_kept, unwritten_met}
use Rattle.spa_filter.proofs.enums.put_sides.Goals as goal

pub returns-in_default-clause-cause : goal.returns-in_default-clause-cause
returns-in_default-clause-cause g c =
    let pod = g.T.CanonicalFixedSizedPod in
    let k = pod.kind in
    let f = pod.fixed in
    let a = c.args.a.now in
    let b = c.args.b.now in
    let xs = take c.put_kept-count.result c.put_kept-count.new.room in
    let copied : option_copied c.first.result ≡ None = ap option_copied c.in_default.is in
    let at : None ≡ slice_get xs 0 = sym copied ∙ c.first.ensures.value in
    none_kept (SideAdmits k f a) (SideAdmits k f b) (SideAdmits k f c.args.other.now) (side_default f a) (side_default f b)
    (map (content k) c.args.values.now) (map f xs) c.put_kept-count.ensures.kept c.requires.shared (ap (map f) (empty_first xs at))

pub shared_default-default-requires : goal.shared_default-default-requires
shared_default-default-requires g c =
    let pod = g.met.T.CanonicalFixedSizedPod in
    let k = g.T.CanonicalFixedSizedPod.kind in
    let f = g.T.CanonicalFixedSizedPod.fixed in
    let a = c.args.a.now in
    let b = c.args.b.now in
    let one = c.in-Some.one.now in
    let xs = take c.put_kept-count.result c.put_kept-count.new.room in
    let at : Some one ≡ slice_get xs 0 = c.in-Some.ensures.value in
    let both =
    (each_kept (SideAdmits k f a) (SideAdmits k f b) (SideAdmits k f c.args.other.now) (side_default f a) (side_default f b)
    (map (content k) c.args.values.now) (map f xs) c.put_kept-count.ensures.kept c.requires.shared (f one)).0 (first_among f xs one at) in
    let small : g.row.N < 9 = subst (λ n. n < 9) (sym pod.its_size ∙ c.requires.size) (size_fits k) in
    (omega (arith, small), (c.requires.size, both))

pub returns-then-is_only-clause-appended : goal.returns-then-is_only-clause-appended
returns-then-is_only-clause-appended g c =
    let pod = g.T.CanonicalFixedSizedPod in
    let k = pod.kind in
    let f = pod.fixed in
    let a = c.args.a.now in
    let b = c.args.b.now in
    let P = SideAdmits k f a in
    let Q = SideAdmits k f b in
    let x = f c.shared_default-default.result in
    let m = c.shared_default-default.ensures in
    on_ok_weaker c.put_element.result
    (λ put. record {
      value = fixed x;
      meets = meets_only P Q (side_default f a) (side_default f b) x m
          (alone_first P Q (side_default f a) (side_default f b) x m (c.is_only.ensures c.if-is_only.true));
      appended = put;
    })
    c.put_element.ensures.appended

pub returns-then-is_only-clause-cause : goal.returns-then-is_only-clause-cause
returns-then-is_only-clause-cause g c =
    let pod = g.T.CanonicalFixedSizedPod in
    let k = pod.kind in
    let f = pod.fixed in
    let a = c.args.a.now in
    let b = c.args.b.now in
    let P = SideAdmits k f a in
    let Q = SideAdmits k f b in
    let x = f c.shared_default-default.result in
    let m = c.shared_default-default.ensures in
    IfErr-weaker c.put_element.result _ _
    (λ why r. unwritten_met P Q (side_default f a) (side_default f b) (fixed x)
    (meets_only P Q (side_default f a) (side_default f b) x m
    (alone_first P Q (side_default f a) (side_default f b) x m (c.is_only.ensures c.if-is_only.true))) why r)
    c.put_element.ensures.cause

pub returns-then-is_only-2-clause-appended : goal.returns-then-is_only-2-clause-appended
returns-then-is_only-2-clause-appended g c =
    let pod = g.T.CanonicalFixedSizedPod in
    let k = pod.kind in
    let f = pod.fixed in
    let a = c.args.a.now in
    let b = c.args.b.now in
    let P = SideAdmits k f a in
    let Q = SideAdmits k f b in
    let x = f c.shared_default-default.result in
    let m = c.shared_default-default.ensures in
    on_ok_weaker c.put_element-then-is_only-2.result
    (λ put. record {
      value = fixed x;
      meets = meets_only P Q (side_default f a) (side_default f b) x m
          (alone_second P Q (side_default f a) (side_default f b) x m (c.is_only-2.ensures c.if-is_only-2.true));
      appended = put;
    })
    c.put_element-then-is_only-2.ensures.appended

pub returns-then-is_only-2-clause-cause : goal.returns-then-is_only-2-clause-cause
returns-then-is_only-2-clause-cause g c =
    let pod = g.T.CanonicalFixedSizedPod in
    let k = pod.kind in
    let f = pod.fixed in
    let a = c.args.a.now in
    let b = c.args.b.now in
    let P = SideAdmits k f a in
    let Q = SideAdmits k f b in
    let x = f c.shared_default-default.result in
    let m = c.shared_default-default.ensures in
    IfErr-weaker c.put_element-then-is_only-2.result _ _
    (λ why r. unwritten_met P Q (side_default f a) (side_default f b) (fixed x)
    (meets_only P Q (side_default f a) (side_default f b) x m
    (alone_second P Q (side_default f a) (side_default f b) x m (c.is_only-2.ensures c.if-is_only-2.true))) why r)
    c.put_element-then-is_only-2.ensures.cause

pub returns-clause-appended : goal.returns-clause-appended
returns-clause-appended g c =
    let pod = g.T.CanonicalFixedSizedPod in
    let k = pod.kind in
    let f = pod.fixed in
    let a = c.args.a.now in
    let b = c.args.b.now in
    let x = f c.shared_default-default.result in
    let kept = map f (take c.put_kept-count.result c.put_kept-count.new.room) in
    on_ok_weaker c.put_enum_of.result
    (λ put. record {
      value = choice enum_choice 0 k x kept;
      meets = meets_enum (SideAdmits k f a) (SideAdmits k f b) (SideAdmits k f c.args.other.now) (side_default f a) (side_default f b)
          (map (content k) c.args.values.now) kept c.put_kept-count.ensures.kept c.requires.shared k x c.shared_default-default.ensures;
      appended = put;
    })
    c.put_enum_of.ensures.appended

pub returns-clause-cause : goal.returns-clause-cause
returns-clause-cause g c =
    let pod = g.T.CanonicalFixedSizedPod in
    let k = pod.kind in
    let f = pod.fixed in
    let a = c.args.a.now in
    let b = c.args.b.now in
    let x = f c.shared_default-default.result in
    let kept = map f (take c.put_kept-count.result c.put_kept-count.new.room) in
    IfErr-weaker c.put_enum_of.result _ _
    (λ why r. unwritten_met (SideAdmits k f a) (SideAdmits k f b) (side_default f a) (side_default f b) (choice enum_choice 0 k x kept)
    (meets_enum (SideAdmits k f a) (SideAdmits k f b) (SideAdmits k f c.args.other.now) (side_default f a) (side_default f b)
    (map (content k) c.args.values.now) kept c.put_kept-count.ensures.kept c.requires.shared k x c.shared_default-default.ensures) why r)
    c.put_enum_of.ensures.cause
