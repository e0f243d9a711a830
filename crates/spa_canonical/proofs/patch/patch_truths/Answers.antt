use Rattle.std.proofs.Common.{◌≡◌, ◌∙◌, arith, refl, rules}
use Rattle.spa_format.specs.Kind.{bool, fixed_body}
use Rattle.spa_canonical.proofs.Truths.{all_turned, none_turned, one_turned}
use Rattle.spa_canonical.proofs.patch.patch_truths.Goals as goal

pub loop-at-init : goal.loop-at-init
loop-at-init c = none_turned _

pub loop-at-preserved : goal.loop-at-preserved
loop-at-preserved c =
    let inv = c.loop-at.invariant in
    let piece : c.copy_from_slice.new.self ≡ fixed_body (bool c.of_body-truth.result) =
    c.copy_from_slice.ensures.after ∙ c.padded_body.ensures.body in
    one_turned _ _ _ _ _ _ _ _ inv c.requires c.loop-at-test.true refl (omega arith) c.of_body-truth.ensures piece refl
    (omega arith) (search rules)

pub returns : goal.returns
returns c = all_turned _ _ _ c.loop-at.invariant (let l = c.loop-at-test.false in omega arith)
