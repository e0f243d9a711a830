use Rattle.std.proofs.Common.{subst}
use Rattle.spa_canonical.specs.Canonical.{HasZeros, IsCanonicalBody}
use Rattle.spa_canonical.proofs.Frames.{canonical_front}
use Rattle.spa_canonical.proofs.LeafBodies.{never}
use Rattle.spa_canonical.proofs.Leaves.{leaf_first, no_leaf_first, no_padded_first, text_of}
use Rattle.spa_canonical.proofs.Looks.{asked_own}
use Rattle.spa_canonical.proofs.Parts.{text_body_of}
use Rattle.spa_canonical.proofs.Words.{bytes_of}
use Rattle.spa_canonical.proofs.leaf.long_leaf.Goals.{then-canonical+else-front+else-not-has_zeros, else-canonical}
use Rattle.spa_canonical.proofs.leaf.long_leaf.Goals as goal

pub returns-then-is_padded_text-clause-there : goal.returns-then-is_padded_text-clause-there
returns-then-is_padded_text-clause-there c =
    let yes = c.if-is_padded_text.true in
    asked_own _ _ _
    (canonical_front _ _ _ _ _ (bytes_of _ c.type_inv.input) c.in_ok-front.ensures.there c.split_at.ensures.back (c.is_padded_text.ensures.zeros yes)
    (text_body_of _ _ c.if-front.true (c.is_padded_text.ensures.canonical yes)))

pub returns-then-front-clause-none : goal.returns-then-front-clause-none
returns-then-front-clause-none c =
    no_padded_first _ _ _ _ _ _ c.if-canonical.true (bytes_of _ c.type_inv.input) c.in_ok-front.ensures.there c.split_at.ensures.back
    (λ z k. never _ (c.is_padded_text.ensures.found z (text_of _ (subst (λ t. IsCanonicalBody t c.in_ok-front.front.body.now) c.if-front.true k))) c.if-is_padded_text.false)

pub returns-then-not-has_zeros-clause-none : goal.returns-then-not-has_zeros-clause-none
returns-then-not-has_zeros-clause-none c =
    no_padded_first _ _ _ _ _ _ c.if-canonical.true (bytes_of _ c.type_inv.input) c.in_ok-front.ensures.there c.split_at.ensures.back
    (λ z _. never _ (c.has_zeros.ensures.found z) c.if-not-has_zeros.true)

pub returns-in-Ok-clause-there : goal.returns-in-Ok-clause-there
returns-in-Ok-clause-there c =
    leaf_first _ _ _ _ _ _ (bytes_of _ c.type_inv.input) c.in_ok-front.ensures.there
    (λ t. elim c.if-canonical.branch [
      | then-canonical+else-front+else-not-has_zeros w ↦ subst (λ b. HasZeros b _) w.split_at.ensures.back (w.has_zeros.ensures.zeros w.if-not-has_zeros.false)
      | else-canonical w ↦ absurd (never _ t w.if-canonical.false)
    ])
    c.in-Ok.ensures.there

pub returns-in-Err-clause-none : goal.returns-in-Err-clause-none
returns-in-Err-clause-none c = no_leaf_first _ _ _ _ _ _ (bytes_of _ c.type_inv.input) c.in_ok-front.ensures.there c.in-Err.ensures.none
