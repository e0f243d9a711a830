use Rattle.std.proofs.Common.{[], ◌∷◌, ◌++◌, refl, ap, sym, ◌∙◌}
use Rattle.std.specs.List.{list_any}
use Rattle.spa_format.specs.Tree.{string}
use Rattle.spa_builder.specs.Step.{step, add, is_nul}
use Rattle.spa_builder.proofs.Steps.{kept, through, nul_refused, without_nul, no_element}
use Rattle.spa_builder.proofs.builder.Builder.add_string.Goals as goal

pub invariant_of-self : goal.invariant_of-self
invariant_of-self c = kept (λ s. step s (add (string c.args.value.now))) _ _ c.add_body.result
    c.self.invariant (λ s at. without_nul _ _ _ _ c.add_body.result
    (ap (list_any is_nul) (sym c.as_bytes-text.ensures.value) ∙ sym c.contains.ensures.value
    ∙ c.if-contains.false) (c.add_body.ensures s (string c.args.value.now) at refl
    (ap (λ l. l ++ 0 ∷ []) (sym c.as_bytes-text.ensures.value))
    (no_element s.closed s.opened (string c.args.value.now) (λ x e. cc))))

pub returns : goal.returns
returns c = through (λ s. step s (add (string c.args.value.now))) _ _ _ c.add_body.result
    c.self.view_is (λ s at. without_nul _ _ _ _ c.add_body.result
    (ap (list_any is_nul) (sym c.as_bytes-text.ensures.value) ∙ sym c.contains.ensures.value
    ∙ c.if-contains.false) (c.add_body.ensures s (string c.args.value.now) at refl
    (ap (λ l. l ++ 0 ∷ []) (sym c.as_bytes-text.ensures.value))
    (no_element s.closed s.opened (string c.args.value.now) (λ x e. cc))))

pub returns-then-contains : goal.returns-then-contains
returns-then-contains c s at =
    nul_refused _ _ _ (ap (list_any is_nul) (sym c.as_bytes-text.ensures.value)
    ∙ sym c.contains.ensures.value ∙ c.if-contains.true)
