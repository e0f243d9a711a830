use Rattle.std.proofs.Common.{arith, refl, rules}
use Rattle.spa_canonical.proofs.PatchedBodies.{array_placed, plain_placed}
use Rattle.spa_canonical.proofs.patch.patch_leaf.Goals as goal

pub returns-then-size-ge-HEADER_LEN : goal.returns-then-size-ge-HEADER_LEN
returns-then-size-ge-HEADER_LEN c =
    array_placed _ _ _ _ _ _ (λ i. omega (arith, c.type_inv.pod i)) (search rules) c.if-size-ge-HEADER_LEN.true c.u32_at-child.ensures refl c.patch_elements.ensures refl

pub returns-in_default : goal.returns-in_default
returns-in_default c =
    plain_placed _ _ _ _ _ _ (λ i. omega (arith, c.type_inv.pod i)) c.requires.pod
    (record { no_inner = c.requires.no_inner; no_array = search rules; no_pointer = search rules; no_choice = c.requires.no_choice }) refl c.patch_elements-in_default.ensures refl
