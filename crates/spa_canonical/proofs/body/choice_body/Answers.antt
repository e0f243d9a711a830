use Rattle.std.proofs.Common.{arith, refl}
use Rattle.spa_canonical.proofs.LeafBodies.{never}
use Rattle.spa_canonical.proofs.Leaves.{choice_leaf, has_choice, lacks_values, no_choice_elements, no_choice_leaf, no_choice_taken, no_choice_values, own_choice}
use Rattle.spa_canonical.proofs.Words.{bytes_of}
use Rattle.spa_canonical.proofs.body.choice_body.Goals.{then-taken-eq0-via-then-taken-eq0, then-taken-eq0-via-else-taken-eq0+then-taken-values}
use Rattle.spa_canonical.proofs.body.choice_body.Goals as goal

pub returns-then-not-takes_all-clause-none : goal.returns-then-not-takes_all-clause-none
returns-then-not-takes_all-clause-none c =
    let p = has_choice _ _ _ _ _ c.if-body-lt-CHOICE_HEADER_LEN.false c.u32_at-shape.ensures c.u32_at-size.ensures c.u32_at-type_.ensures c.split_at.ensures.back in
    no_choice_taken _ _ _ _ _ _ _ c.if-canonical-2.true (bytes_of _ c.type_inv.body) p c.u32_at-flags.ensures
    (λ t. never _ (c.takes_all.ensures.found t) c.if-not-takes_all.true)

pub returns-in-Ok-clause-there : goal.returns-in-Ok-clause-there
returns-in-Ok-clause-there c =
    let p = has_choice _ _ _ _ _ c.if-body-lt-CHOICE_HEADER_LEN.false c.u32_at-shape.ensures c.u32_at-size.ensures c.u32_at-type_.ensures c.split_at.ensures.back in
    own_choice _ _ _ _ _ _ _ (bytes_of _ c.type_inv.body) p c.u32_at-flags.ensures (c.takes_all.ensures.taken c.if-not-takes_all.false) c.in-Ok.ensures.there

pub returns-in-Err-clause-none : goal.returns-in-Err-clause-none
returns-in-Err-clause-none c =
    let p = has_choice _ _ _ _ _ c.if-body-lt-CHOICE_HEADER_LEN.false c.u32_at-shape.ensures c.u32_at-size.ensures c.u32_at-type_.ensures c.split_at.ensures.back in
    no_choice_elements _ _ _ _ _ _ _ c.if-canonical-2.true (bytes_of _ c.type_inv.body) p c.in-Err.ensures.none

pub returns-in-Err-are_elements-clause-none : goal.returns-in-Err-are_elements-clause-none
returns-in-Err-are_elements-clause-none c =
    let p = has_choice _ _ _ _ _ c.if-body-lt-CHOICE_HEADER_LEN.false c.u32_at-shape.ensures c.u32_at-size.ensures c.u32_at-type_.ensures c.split_at.ensures.back in
    no_choice_leaf _ _ _ _ _ _ _ p c.if-type_.false c.in-Err-are_elements.ensures.none

pub returns-then-taken-eq0-clause-none : goal.returns-then-taken-eq0-clause-none
returns-then-taken-eq0-clause-none c =
    let p = has_choice _ _ _ _ _ c.if-body-lt-CHOICE_HEADER_LEN.false c.u32_at-shape.ensures c.u32_at-size.ensures c.u32_at-type_.ensures c.split_at.ensures.back in
    let known = c.if-shape-gt-FLAGS_SHAPE.false in (
      refl,
      lacks_values _ _ _ _ _ _ p (omega arith) c.if-type_.false c.in-Ok-are_elements.ensures.there c.taken_len-taken.ensures
          (λ some. elim c.then-taken-eq0.branch [
            | then-taken-eq0-via-then-taken-eq0 w ↦ absurd (let none = w.if-taken-eq0.true in omega arith)
            | then-taken-eq0-via-else-taken-eq0+then-taken-values w ↦ w.if-taken-values.true
          ]),
    )

pub returns-clause-there : goal.returns-clause-there
returns-clause-there c =
    let p = has_choice _ _ _ _ _ c.if-body-lt-CHOICE_HEADER_LEN.false c.u32_at-shape.ensures c.u32_at-size.ensures c.u32_at-type_.ensures c.split_at.ensures.back in
    let known = c.if-shape-gt-FLAGS_SHAPE.false in
    let some = c.if-taken-eq0.false in
    choice_leaf _ _ _ _ _ _ _ _ c.if-canonical-2.false p (omega arith) c.in-Ok-are_elements.ensures.there c.taken_len-taken.ensures (omega (arith, some))
    c.if-taken-values.false refl

pub returns-then-body-le-CHOICE_HEADER_LEN-clause-none : goal.returns-then-body-le-CHOICE_HEADER_LEN-clause-none
returns-then-body-le-CHOICE_HEADER_LEN-clause-none c = no_choice_values _ _ c.if-canonical.true (bytes_of _ c.type_inv.body) c.if-body-le-CHOICE_HEADER_LEN.true
