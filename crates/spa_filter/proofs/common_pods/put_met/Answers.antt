use Rattle.std.proofs.Common.{◌≡◌, ◌∙◌, Bool, true, false, not, refl, sym}
use Rattle.std.proofs.lemmas.Result.{on_ok_weaker}
use Rattle.std.specs.Cmp.Lexicographic.{same_text}
use Rattle.spa_filter.proofs.Apart.{refused_first, refused_second}
use Rattle.spa_filter.proofs.CommonPods.{appended_first, appended_same, appended_second, has_body, plain_typed, with_type}
use Rattle.spa_bytes.proofs.Passing.{passed_on}
use Rattle.spa_filter.proofs.common_pods.put_met.Goals as goal

not_false : (b : Bool) → false ≡ not b → true ≡ b
not_false true e = refl
not_false false e = sym e

pub returns-then-theirs-clause-appended : goal.returns-then-theirs-clause-appended
returns-then-theirs-clause-appended c =
    on_ok_weaker c.put_pod.result
    (λ p v w i j.
    let first = has_body v _ _ _ _ i c.in-Some.ensures.there in
    let second = has_body w _ _ _ _ j c.in-Some-open.ensures.there in
    let same = same_text _ _ (not_false _ (sym c.if-ne.false ∙ c.ne.ensures)) in
    appended_same v w _ _ _ _ (plain_typed v (λ n. c.if-ours.true (sym first.its_type ∙ n)))
    (plain_typed w (λ n. c.if-theirs.true (sym second.its_type ∙ n))) i j same p)
    c.put_pod.ensures.appended

pub returns-then-ours-clause-appended : goal.returns-then-ours-clause-appended
returns-then-ours-clause-appended c =
    on_ok_weaker c.put_pod-then-ours.result
    (λ p v w i j.
    let first = has_body v _ _ _ _ i c.in-Some.ensures.there in
    let second = with_type w _ _ _ (has_body w _ _ _ _ j c.in-Some-open.ensures.there) c.if-theirs.false in
    appended_first v w _ _ _ (c.in_ok-is_offered.ensures.offered v w first second) i p)
    c.put_pod-then-ours.ensures.appended

pub returns-in_err-is_offered-clause-cause : goal.returns-in_err-is_offered-clause-cause
returns-in_err-is_offered-clause-cause c =
    passed_on _ _ _ c.from_residual.ensures.1
    (λ v w i j.
    let first = has_body v _ _ _ _ i c.in-Some.ensures.there in
    let second = with_type w _ _ _ (has_body w _ _ _ _ j c.in-Some-open.ensures.there) c.if-theirs.false in
    refused_first v w _ (c.in_err-is_offered.ensures.cause v w first second))

pub returns-in_err-is_offered-2-clause-cause : goal.returns-in_err-is_offered-2-clause-cause
returns-in_err-is_offered-2-clause-cause c =
    passed_on _ _ _ c.from_residual-in_err-is_offered-2.ensures.1
    (λ v w i j.
    let first = with_type v _ _ _ (has_body v _ _ _ _ i c.in-Some.ensures.there) c.if-ours.false in
    let second = has_body w _ _ _ _ j c.in-Some-open.ensures.there in
    refused_second v w _ (c.in_err-is_offered-2.ensures.cause w v second first))

pub returns-then-theirs-2-clause-appended : goal.returns-then-theirs-2-clause-appended
returns-then-theirs-2-clause-appended c =
    on_ok_weaker c.put_pod-then-theirs-2.result
    (λ p v w i j.
    let first = with_type v _ _ _ (has_body v _ _ _ _ i c.in-Some.ensures.there) c.if-ours.false in
    let second = has_body w _ _ _ _ j c.in-Some-open.ensures.there in
    appended_second v w _ _ _ (c.in_ok-is_offered-2.ensures.offered w v second first) j p)
    c.put_pod-then-theirs-2.ensures.appended
