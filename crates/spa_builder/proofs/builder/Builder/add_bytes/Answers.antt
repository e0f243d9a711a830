use Rattle.std.proofs.Common.{refl, sym}
use Rattle.std.proofs.lemmas.List.{append-nil}
use Rattle.spa_format.specs.Tree.{bytes}
use Rattle.spa_builder.specs.Step.{step, add}
use Rattle.spa_builder.proofs.Steps.{kept, no_element}
use Rattle.spa_builder.proofs.builder.Builder.add_bytes.Goals as goal

pub invariant_of-self : goal.invariant_of-self
invariant_of-self c = kept (λ s. step s (add (bytes c.args.value.now))) _ _ c.add_body.result
    c.self.invariant (λ s at. c.add_body.ensures s (bytes c.args.value.now) at refl
    (sym (append-nil c.args.value.now))
    (no_element s.closed s.opened (bytes c.args.value.now) (λ x e. cc)))
