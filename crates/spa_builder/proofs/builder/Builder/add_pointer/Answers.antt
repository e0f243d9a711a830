use Rattle.std.proofs.Common.{sym}
use Rattle.spa_format.specs.Tree.{pointer}
use Rattle.spa_format.proofs.Encodings.{length-pointer}
use Rattle.spa_builder.specs.Step.{step, add}
use Rattle.spa_builder.proofs.Steps.{kept, through, no_element}
use Rattle.spa_builder.proofs.builder.Builder.add_pointer.Goals as goal

pub invariant_of-self : goal.invariant_of-self
invariant_of-self c = kept (λ s. step s (add (pointer c.args.type_.0 c.args.address))) _ _
    c.add_encoding.result c.self.invariant
    (λ s at. c.add_encoding.ensures s (pointer c.args.type_.0 c.args.address) at
    (length-pointer c.args.type_.0 c.args.address) (sym c.pointer_pod-pod.ensures)
    (no_element s.closed s.opened (pointer c.args.type_.0 c.args.address) (λ x e. cc)))

pub returns : goal.returns
returns c = through (λ s. step s (add (pointer c.args.type_.0 c.args.address))) _ _ _
    c.add_encoding.result c.self.view_is
    (λ s at. c.add_encoding.ensures s (pointer c.args.type_.0 c.args.address) at
    (length-pointer c.args.type_.0 c.args.address) (sym c.pointer_pod-pod.ensures)
    (no_element s.closed s.opened (pointer c.args.type_.0 c.args.address) (λ x e. cc)))
