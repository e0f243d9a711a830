use Rattle.std.proofs.Common.{◌≡◌, ◌≤◌, ◌<◌, ◌+◌, ◌-◌, ◌++◌, ◌∙◌, [], ap, append-nil, arith, drop, length, length-drop, refl, subst, sym, take}
use Rattle.std.proofs.lemmas.List.{drop-drop, drop_all, length-take-le, take_rest}
use Rattle.spa_recordings.specs.Cut.{IsEnded, cut_inside, sized}
use Rattle.spa_recordings.proofs.Ended.{ends_begin, ends_last, ends_next, there_at}
use Rattle.spa_recordings.proofs.cut.end_padded.Goals as goal

pub loop-inner-init : goal.loop-inner-init
loop-inner-init c = ends_begin c.args.bytes.now c.args.there c.requires.header c.requires.within c.requires.padded

pub loop-inner-preserved : goal.loop-inner-preserved
loop-inner-preserved c =
    let b = take c.args.there c.args.bytes.now in
    let now = c.loop-inner.bytes in
    let at = c.loop-inner.at in
    let so = c.loop-inner.invariant in
    let there = there_at b now at c.args.there (sym (length-take-le c.args.there c.args.bytes.now c.requires.within)) so in
    let found = c.in-Some.ensures in
    let whole = take_rest now at in
    let pod : c.limit_size.new.pod ≡ sized (length (drop at now)) (drop at now) = c.limit_size.ensures ∙ ap (λ z. sized (length z) z) whole in
    let none : drop (length now - at) (drop at now) ≡ [] = drop_all (length now - at) (drop at now) (let d = length-drop at now in omega (arith, d)) in
    ends_next b now _ at c.in-Some.inner (length (drop at now)) (subst (λ z. c.in-Some.inner + 8 ≤ length z) there found.within) found.behind found.aligned
    (subst (λ z. drop c.in-Some.inner z ≡ cut_inside z) there found.there) refl
    (ap (λ z. take at now ++ (c.limit_size.new.pod ++ z)) none ∙ ap (λ z. take at now ++ z) (append-nil c.limit_size.new.pod ∙ pod)) so

pub returns-clause-ended : goal.returns-clause-ended
returns-clause-ended c =
    let b = take c.args.there c.args.bytes.now in
    let now = c.loop-inner.bytes in
    let at = c.loop-inner.at in
    let so = c.loop-inner.invariant in
    let its = sym (length-take-le c.args.there c.args.bytes.now c.requires.within) in
    let there = there_at b now at c.args.there its so in
    let w = so.within in
    let last : c.limit_size-2.new.pod ≡ sized (length (drop at b)) (drop at b) = c.limit_size-2.ensures ∙ ap (λ z. sized (length z) z) there in
    let end : at + (c.args.there - at) ≡ c.args.there = omega (arith, w, its) in
    subst (λ z. IsEnded b (take at now ++ (c.limit_size-2.new.pod ++ z))) (sym (drop-drop (c.args.there - at) at now ∙ ap (λ m. drop m now) end))
    (ends_last b now c.limit_size-2.new.pod at c.args.there its (subst (λ z. length (cut_inside z) < 8) there c.in_default.ensures.none) last so)
