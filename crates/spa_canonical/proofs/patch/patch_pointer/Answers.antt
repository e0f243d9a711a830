use Rattle.std.proofs.Common.{◌≡◌, ◌++◌, ◌∙◌, ap, arith, refl}
use Rattle.spa_format.specs.Tree.{pointer_type}
use Rattle.spa_format.specs.Words.{word_at, word_bytes}
use Rattle.spa_canonical.proofs.PatchedBodies.{pointer_placed}
use Rattle.spa_canonical.proofs.patch.patch_pointer.Goals as goal

pub returns-then-pod : goal.returns-then-pod
returns-then-pod c =
    let words = word_bytes 16 ++ word_bytes pointer_type in
    let first : c.copy_from_slice.new.self ≡ words ++ (word_bytes (word_at c.args.pod.now 8) ++ word_bytes 0) =
    c.copy_from_slice.ensures.after ∙ c.joined.ensures ∙ ap (λ x. x ++ c.two_words-words.result) c.two_words-header.ensures
    ∙ ap (λ x. words ++ x) (c.two_words-words.ensures ∙ ap (λ n. word_bytes n ++ word_bytes 0) c.u32_at.ensures) in
    pointer_placed _ _ _ _ _ (λ i. omega (arith, c.type_inv.pod i)) c.requires c.if-pod.true first c.clear_behind.ensures refl
