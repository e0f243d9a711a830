use Rattle.std.proofs.Common.{◌≡◌, ◌∙◌, [], ◌∷◌, ap, inl, inr, subst, sym}
use Rattle.std.proofs.lemmas.Result.{on_ok_weaker}
use Rattle.std.specs.Prelude.{map}
use Rattle.spa_text.specs.Written.{Lists, values_in}
use Rattle.spa_text.proofs.Listed.{more_listed}
use Rattle.spa_text.proofs.leaves.print_chosen.Goals as goal

pub returns-in_ok-print_element-in-Range-2 : goal.returns-in_ok-print_element-in-Range-2
returns-in_ok-print_element-in-Range-2 g c =
    let pod = g.T.CanonicalFixedSizedPod in
    on_ok_weaker c.print_element-in-Range-3.result
    (λ w.
    subst (λ v. Lists c.args.expected pod.kind (values_in pod.fixed v) c.args.out.now.tokens c.print_element-in-Range-3.new.out.tokens) (sym c.in-Range.is)
    (more_listed c.args.expected pod.kind (pod.fixed c.in-Range.default ∷ pod.fixed c.in-Range.min ∷ []) (pod.fixed c.in-Range.max ∷ []) _ _ _ (more_listed c.args.expected pod.kind (pod.fixed c.in-Range.default ∷ []) (pod.fixed c.in-Range.min ∷ []) _ _ _ c.in_ok-print_element-in-Range.ensures c.in_ok-print_element-in-Range-2.ensures) w))
    c.print_element-in-Range-3.ensures

pub returns-in_ok-print_element-in-Step-3 : goal.returns-in_ok-print_element-in-Step-3
returns-in_ok-print_element-in-Step-3 g c =
    let pod = g.T.CanonicalFixedSizedPod in
    on_ok_weaker c.print_element-in-Step-4.result
    (λ w.
    subst (λ v. Lists c.args.expected pod.kind (values_in pod.fixed v) c.args.out.now.tokens c.print_element-in-Step-4.new.out.tokens) (sym c.in-Step.is)
    (more_listed c.args.expected pod.kind (pod.fixed c.in-Step.default ∷ pod.fixed c.in-Step.min ∷ pod.fixed c.in-Step.max ∷ []) (pod.fixed c.in-Step.step ∷ []) _ _ _ (more_listed c.args.expected pod.kind (pod.fixed c.in-Step.default ∷ pod.fixed c.in-Step.min ∷ []) (pod.fixed c.in-Step.max ∷ []) _ _ _ (more_listed c.args.expected pod.kind (pod.fixed c.in-Step.default ∷ []) (pod.fixed c.in-Step.min ∷ []) _ _ _ c.in_ok-print_element-in-Step.ensures c.in_ok-print_element-in-Step-2.ensures) c.in_ok-print_element-in-Step-3.ensures) w))
    c.print_element-in-Step-4.ensures

pub returns-in_ok-print_element-in-Enum : goal.returns-in_ok-print_element-in-Enum
returns-in_ok-print_element-in-Enum g c =
    let pod = g.T.CanonicalFixedSizedPod in
    let default = pod.fixed c.in-Enum.default in
    let same : values_in pod.fixed c.args.values.now ≡ default ∷ map pod.fixed c.in-Enum.others.items =
    elim c.in-Enum.is [ inl e ↦ ap (values_in pod.fixed) e | inr e ↦ ap (values_in pod.fixed) e ] in
    on_ok_weaker c.print_elements.result
    (λ w.
    subst (λ l. Lists c.args.expected pod.kind l c.args.out.now.tokens c.print_elements.new.out.tokens)
    (ap (λ l. default ∷ map pod.fixed l) c.as_slice.ensures.value ∙ sym same)
    (more_listed c.args.expected pod.kind (default ∷ []) (map pod.fixed c.as_slice.result.now) _ _ _ c.in_ok-print_element-in-Enum.ensures w))
    c.print_elements.ensures
