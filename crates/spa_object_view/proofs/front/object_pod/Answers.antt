use Rattle.std.proofs.Common.{◌∙◌, sym, subst}
use Rattle.spa_bytes.specs.Opening.{Opens}
use Rattle.spa_bytes.proofs.Passing.{passed_on}
use Rattle.spa_object_view.proofs.ObjectPods.{no_object_of, rewritten_object}
use Rattle.spa_object_view.proofs.front.object_pod.Goals as goal

pub canonical_object-requires : goal.canonical_object-requires
canonical_object-requires c =
    subst (λ n. Opens c.args.input.now n c.in-Some.front.body.now c.in-Some.front.rest.now) c.if-front.false c.in-Some.ensures.there

pub returns-clause-object : goal.returns-clause-object
returns-clause-object c =
    rewritten_object _ _ c.in_ok-bytes.ensures.rewriting (sym c.in-Some.ensures.there.its_type ∙ c.if-front.false)

pub returns-in_err-bytes-clause-cause : goal.returns-in_err-bytes-clause-cause
returns-in_err-bytes-clause-cause c = passed_on _ _ _ c.from_residual.ensures.1 (no_object_of _ _ c.in_err-bytes.ensures.cause)
