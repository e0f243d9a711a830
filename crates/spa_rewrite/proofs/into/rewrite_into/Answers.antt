use Rattle.std.proofs.Common.{◌-◌, ◌∙◌, ap, drop, length, refl, subst, sym, take}
use Rattle.std.specs.Prelude.{[]}
use Rattle.std.proofs.lemmas.Bool.{eqb-true}
use Rattle.std.proofs.lemmas.List.{drop_at, take_at}
use Rattle.std.proofs.lemmas.Slice.{drop-put_mid}
use Rattle.spa_canonical.specs.Depth.{levels_looked_into}
use Rattle.spa_canonical.specs.Rewriting.{ArePodsWithin, AreRewritten}
use Rattle.spa_canonical.proofs.Changed.{accepted_shorter}
use Rattle.spa_canonical.proofs.ShorterLemmas.{shorter_behind, within_behind}
use Rattle.spa_canonical.proofs.Lengths.{lengths}
use Rattle.spa_canonical.proofs.Stretches.{all_canonical, canonical_rewritten}
use Rattle.spa_canonical.specs.Look.{AreChanged}
use Rattle.spa_rewrite.proofs.ChangedPods.{behind_first, copy_room, first_copied, others_copied}
use Rattle.spa_rewrite.proofs.InPlaceLemmas.{into_counted, rewritten_long}
use Rattle.spa_rewrite.proofs.into.rewrite_into.Goals as goal

pub returns-then-is_empty-clause-counted : goal.returns-then-is_empty-clause-counted
returns-then-is_empty-clause-counted c =
    let none = eqb-true _ _ (sym c.is_empty.ensures ∙ c.if-is_empty.true) in
    let all = all_canonical c.args.input.now _ _ c.canonical_stretch.ensures.parts none c.canonical_stretch.ensures.canonical in
    record { values = all.values; members = all.members; long = ap length all.same }

pub returns-then-is_empty-clause-rewritten : goal.returns-then-is_empty-clause-rewritten
returns-then-is_empty-clause-rewritten c = λ room.
    let input = c.args.input.now in
    let none = eqb-true _ _ (sym c.is_empty.ensures ∙ c.if-is_empty.true) in
    let all = all_canonical input _ _ c.canonical_stretch.ensures.parts none c.canonical_stretch.ensures.canonical in
    subst (AreRewritten input []) (sym (ap (take (length input)) (c.put_first.ensures.copied room) ∙ take_at input _ (length input) refl))
    (canonical_rewritten input all)

pub returns-in_default-clause-missed : goal.returns-in_default-clause-missed
returns-in_default-clause-missed c = λ w.
    let first = c.canonical_stretch.ensures.canonical in
    c.in_default.ensures.missed
    (within_behind first.values _ _ _ first.members (subst (ArePodsWithin levels_looked_into) c.canonical_stretch.ensures.parts w))

pub returns-then-not-put_first-clause-counted : goal.returns-then-not-put_first-clause-counted
returns-then-not-put_first-clause-counted c =
    let rest = accepted_shorter _ _ c.in-Ok.ensures.accepted in
    into_counted _ _ _ (shorter_behind _ _ _ _ c.canonical_stretch.ensures.parts c.canonical_stretch.ensures.canonical rest) refl

pub returns-clause-counted : goal.returns-clause-counted
returns-clause-counted c =
    let rest = accepted_shorter _ _ c.in-Ok.ensures.accepted in
    into_counted _ _ _ (shorter_behind _ _ _ _ c.canonical_stretch.ensures.parts c.canonical_stretch.ensures.canonical rest) refl

pub encode_pods-requires : goal.encode_pods-requires
encode_pods-requires c =
    let copied = c.put_first-2.ensures.copied (c.put_first-2.ensures.fits.0 c.if-not-put_first.false) in
    let first = c.canonical_stretch.result.0.now in
    let others = c.canonical_stretch.result.1.now in
    subst (λ x. AreChanged x c.in-Ok.all.changed)
    (sym (others_copied c.args.input.now first others _ _ c.canonical_stretch.ensures.parts copied))
    c.in-Ok.ensures.accepted.first

pub returns-clause-rewritten : goal.returns-clause-rewritten
returns-clause-rewritten c = λ room.
    let copied = c.put_first-2.ensures.copied (c.put_first-2.ensures.fits.0 c.if-not-put_first.false) in
    let input = c.args.input.now in
    let first = c.canonical_stretch.result.0.now in
    let others = c.canonical_stretch.result.1.now in
    let parts = c.canonical_stretch.ensures.parts in
    let copy = c.put_first-2.new.out in
    let is = others_copied input first others _ copy parts copied in
    let long = ap length is in
    let all = ap length parts in
    let s = accepted_shorter _ _ c.in-Ok.ensures.accepted in
    let sub = c.encode_pods.new.pods in
    let out = take c.encode_pods.result sub in
    let w = subst (λ x. AreRewritten x [] out) is c.encode_pods.ensures.written in
    let size = rewritten_long others out _ s w in
    behind_first input first others copy sub out (length input - length first) _ _ parts c.canonical_stretch.ensures.canonical
    (first_copied input first others _ copy parts copied) (copy_room input first others _ copy parts copied) w refl (omega lengths)
    (omega lengths)

pub returns-clause-behind : goal.returns-clause-behind
returns-clause-behind c =
    let copied = c.put_first-2.ensures.copied (c.put_first-2.ensures.fits.0 c.if-not-put_first.false) in
    let input = c.args.input.now in
    let first = c.canonical_stretch.result.0.now in
    let others = c.canonical_stretch.result.1.now in
    let parts = c.canonical_stretch.ensures.parts in
    let copy = c.put_first-2.new.out in
    let is = ap length (others_copied input first others _ copy parts copied) in
    let all = ap length parts in
    drop-put_mid (length first) (length input - length first) copy c.encode_pods.new.pods (length input) (omega lengths)
    (copy_room input first others _ copy parts copied) (c.encode_pods.auto.pods ∙ is ∙ omega lengths)
    ∙ ap (drop (length input)) copied ∙ drop_at input _ (length input) refl
