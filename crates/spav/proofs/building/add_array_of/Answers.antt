use Rattle.std.proofs.Common.{◌*◌, ◌<◌, refl, ap, ◌∙◌, arith}
use Rattle.spav.proofs.Runs.{no_part_made, part_made, too_many_made}
use Rattle.spav.proofs.building.add_array_of.Goals as goal

pub returns-in_default : goal.returns-in_default
returns-in_default g c = λ s at.
    let size = c.SIZE.ensures ∙ g.met.T.CanonicalFixedSizedPod.its_size in
    let whole = ap (λ n. c.args.call.now.len * n) size in
    let many : c.args.call.now.len * c.SIZE.result < 18446744073709551616 → ⊥ = c.in_default.ensures in
    too_many_made _ _ c.args.call.now s _ _ _ (omega (arith, many, whole)) (refl, refl)

pub returns-in-Some-part : goal.returns-in-Some-part
returns-in-Some-part g c = λ s at.
    let size = c.SIZE.ensures ∙ g.met.T.CanonicalFixedSizedPod.its_size in
    let whole = ap (λ n. c.args.call.now.len * n) size in
    let m = c.in-Some.ensures in
    part_made _ _ c.args.call.now s _ _ _ _ _ (omega (arith, m.1, whole)) c.in-Some-part.ensures.some (λ xs e. c.add_array_in.ensures.made s xs at e)

pub returns-in-None : goal.returns-in-None
returns-in-None g c = λ s at.
    let size = c.SIZE.ensures ∙ g.met.T.CanonicalFixedSizedPod.its_size in
    let whole = ap (λ n. c.args.call.now.len * n) size in
    let m = c.in-Some.ensures in
    no_part_made _ _ c.args.call.now s _ _ _ _ (omega (arith, m.1, whole)) c.in-None.ensures.none (refl, refl)
