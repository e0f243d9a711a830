use Rattle.std.proofs.Common.{◌≡◌, ◌+◌, ◌-◌, ◌++◌, ◌∙◌, ap, arith, refl}
use Rattle.spa_format.specs.Normal.{kept_flags}
use Rattle.spa_format.specs.Tree.{choice_type}
use Rattle.spa_format.specs.Words.{word_bytes}
use Rattle.spa_canonical.specs.Canonical.{bytes_taken}
use Rattle.spa_canonical.proofs.PatchedBodies.{choice_encoded, no_few_values, no_short_choice}
use Rattle.spa_canonical.proofs.patch.encode_choice.Goals as goal

pub returns-then-size-lt-SECOND_HEADER : goal.returns-then-size-lt-SECOND_HEADER
returns-then-size-lt-SECOND_HEADER c = record { placed = λ v pd. absurd (no_short_choice _ _ c.requires c.if-size-lt-SECOND_HEADER.true v pd); within = omega arith }

pub returns-then-len-all : goal.returns-then-len-all
returns-then-len-all c =
    record {
      placed = λ v pd. absurd (no_few_values _ _ _ _ _ c.requires (omega arith) c.u32_at-shape.ensures c.u32_at.ensures c.taken_len-len.ensures (omega arith) v pd);
      within = omega arith;
    }

pub returns : goal.returns
returns c =
    let n = c.taken_len-len.result in
    let first : c.copy_from_slice.new.self
    ≡ (word_bytes (16 + n) ++ word_bytes choice_type) ++ (word_bytes c.u32_at-shape.result ++ word_bytes c.written_flags-flags.result) =
    c.copy_from_slice.ensures.after ∙ c.joined.ensures ∙ ap (λ x. x ++ c.two_words.result) c.two_words-header.ensures
    ∙ ap (λ x. (word_bytes (16 + n) ++ word_bytes choice_type) ++ x) c.two_words.ensures in
    choice_encoded _ _ _ _ _ c.args.size _ _ _ _ _ (λ i. omega (arith, c.type_inv.pod i)) c.requires (omega arith) c.extent_of-end.ensures.extent c.u32_at-shape.ensures
    c.u32_at-type_.ensures (λ s e. c.taken_len-len.ensures s e ∙ ap (λ m. bytes_taken s m (c.args.size - 16)) c.u32_at.ensures)
    (λ s e. c.written_flags-flags.ensures s e ∙ ap (kept_flags s) c.u32_at-2.ensures) first refl c.patch_elements.ensures refl
