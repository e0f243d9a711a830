use Rattle.std.proofs.Common.{ap, arith, drop, refl, rules, take, ◌∙◌}
use Rattle.spa_canonical.proofs.Lengths.{lengths}
use Rattle.spa_canonical.proofs.PatchedBodies.{others_written, truth_written, truths_written}
use Rattle.spa_canonical.proofs.patch.patch_elements.Goals as goal
use Rattle.spa_fixed_sized.proofs.Arrays.{whole_of}

pub patch_truths-requires : goal.patch_truths-requires
patch_truths-requires c = whole_of 4 _ (omega lengths)

pub returns-then-len-eq0 : goal.returns-then-len-eq0
returns-then-len-eq0 c =
    truths_written _ _ _ _ _ _ c.if-type_-2.true c.requires c.clear_behind.ensures c.patch_truths.ensures c.patch_truths.auto.words refl

pub returns-else-type_-2 : goal.returns-else-type_-2
returns-else-type_-2 c = others_written _ _ _ _ (λ i. omega (arith, c.type_inv.bytes i)) c.requires c.clear_behind.ensures
    (λ z o. search rules)

pub returns-then-bytes-eq-HEADER_LEN : goal.returns-then-bytes-eq-HEADER_LEN
returns-then-bytes-eq-HEADER_LEN c =
    let after = c.copy_from_slice.ensures.after in
    truth_written _ _ _ _ _ _ c.if-type_.true c.if-len-eq-WORD_LEN.true c.if-bytes-eq-HEADER_LEN.true refl c.of_body-truth.ensures
    (ap (take 4) after ∙ c.padded_body.ensures.body) (ap (drop 4) after ∙ c.padded_body.ensures.zeros)
