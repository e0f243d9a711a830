use Rattle.std.proofs.Common.{◌+◌, ◌-◌, ◌≡◌, ℕ, ap, ◌∙◌, subst, arith, take, drop, length-drop}
use Rattle.std.proofs.lemmas.List.{take_rest}
use Rattle.spa_format.specs.Words.{extent, word_at}
use Rattle.spa_format.specs.Front.{HasFront}
use Rattle.spa_pod_commands.proofs.Fixating.{ends, fixated_either, length_turn, turn}
use Rattle.spa_pod_commands.proofs.pods.fixate_all.Goals as goal

same : (at n : ℕ) → at + n - at ≡ n
same at n = omega arith

pub loop-extent-preserved : goal.loop-extent-preserved
loop-extent-preserved c =
    let xs = c.loop-extent.bytes in
    let at = c.loop-extent.at in
    let n = c.in-Some.extent in
    let ys = c.fixate.new.bytes in
    let k = at + n - at in
    let rest = take_rest xs at in
    let hf = subst HasFront rest c.in-Some.ensures.there in
    let en : n ≡ extent (word_at (drop at xs) 0) = c.in-Some.ensures.extent ∙ ap (λ z. extent (word_at z 0)) rest in
    let fits = hf.whole in
    let d = length-drop at xs in
    let la = c.loop-extent.invariant.0 in
    let ly = c.fixate.ensures.length in
    let fp = fixated_either _ c.fixate.result (take k (drop at xs)) ys c.fixate.ensures.ok c.fixate.ensures.fixated c.fixate.ensures.refused c.fixate.ensures.unchanged in
    let ll = length_turn xs ys at k la (omega arith) ly in (
      omega arith,
      ll ∙ c.loop-extent.invariant.1,
      turn c.args.bytes.now xs ys at n k la hf en (same at n) fp ly c.loop-extent.invariant.2,
    )

pub returns : goal.returns
returns c vs h =
    let xs = c.loop-extent.bytes in
    let at = c.loop-extent.at in
    ends c.args.bytes.now xs at vs c.loop-extent.invariant.1 (subst (λ z. ¬ (HasFront z)) (take_rest xs at) c.in_default.ensures.none)
    c.loop-extent.invariant.2 h
