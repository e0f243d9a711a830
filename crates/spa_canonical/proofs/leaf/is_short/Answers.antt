use Rattle.std.proofs.Common.{◌∙◌, arith, refl, subst, sym}
use Rattle.std.proofs.lemmas.Bool.{eqb-true, leb-true}
use Rattle.spa_format.specs.Kind.{bool_kind}
use Rattle.spa_canonical.specs.Canonical.{HasZeros, IsFixedLen}
use Rattle.spa_canonical.proofs.LeafBodies.{never}
use Rattle.spa_canonical.proofs.Leaves.{short_first}
use Rattle.spa_canonical.proofs.Words.{bytes_of, zeros_of_word}
use Rattle.spa_canonical.proofs.leaf.is_short.Goals.{else-canonical-via-then-canonical+else-u32_at-ne0, else-canonical-via-else-canonical}
use Rattle.spa_canonical.proofs.leaf.is_short.Goals as goal

pub returns-then-fixed_len-eq-TWO_WORDS : goal.returns-then-fixed_len-eq-TWO_WORDS
returns-then-fixed_len-eq-TWO_WORDS c = λ e.
    let eight = eqb-true _ _ e in
    let len = c.if-fixed_len-eq-TWO_WORDS.true in
    let f = c.fixed_len.ensures.is_len (omega (arith, len)) in
    short_first _ _ _ _ (bytes_of _ c.type_inv.input) c.requires c.u32_at-type_.ensures c.u32_at-size.ensures
    (subst (IsFixedLen c.u32_at-type_.result) (len ∙ sym eight) f) (omega arith) (omega arith) (λ _. subst (HasZeros _) (sym eight) refl)
    (λ _ b. absurd (let is = c.fixed_len.ensures.found in let two = is bool_kind b in omega (arith, two, len)))

pub returns-then-is_word_type : goal.returns-then-is_word_type
returns-then-is_word_type c = λ _.
    let four = c.if-size-ne-ONE_WORD.false in
    let word = c.if-is_word_type.true in
    let bytes = bytes_of _ c.type_inv.input in
    short_first _ _ _ _ bytes c.requires c.u32_at-type_.ensures c.u32_at-size.ensures
    (subst (IsFixedLen c.u32_at-type_.result) (sym four) (c.is_word_type.ensures.word word)) (omega arith) (omega arith)
    (λ t. elim c.else-canonical.branch [
      | else-canonical-via-then-canonical+else-u32_at-ne0 w ↦
          subst (HasZeros _) (sym four) (zeros_of_word _ bytes c.requires (sym w.u32_at.ensures ∙ w.if-u32_at-ne0.false))
      | else-canonical-via-else-canonical w ↦ absurd (never _ t w.if-canonical.false)
    ])
    (λ _ b. absurd (c.is_word_type.ensures.other word b))

pub returns-then-not-canonical : goal.returns-then-not-canonical
returns-then-not-canonical c = λ _.
    let four = c.if-size-ne-ONE_WORD.false in
    let no = c.if-not-canonical.true in
    short_first _ _ _ _ (bytes_of _ c.type_inv.input) c.requires c.u32_at-type_.ensures c.u32_at-size.ensures
    (bool_kind, c.if-type_.true, four) (omega arith) (omega arith) (λ t. absurd (never _ t no)) (λ t. absurd (never _ t no))

pub returns-else-not-canonical : goal.returns-else-not-canonical
returns-else-not-canonical c = λ e.
    let four = c.if-size-ne-ONE_WORD.false in
    let bytes = bytes_of _ c.type_inv.input in
    short_first _ _ _ _ bytes c.requires c.u32_at-type_.ensures c.u32_at-size.ensures (bool_kind, c.if-type_.true, four) (omega arith) (omega arith)
    (λ t. elim c.else-canonical.branch [
      | else-canonical-via-then-canonical+else-u32_at-ne0 w ↦
          subst (HasZeros _) (sym four) (zeros_of_word _ bytes c.requires (sym w.u32_at.ensures ∙ w.if-u32_at-ne0.false))
      | else-canonical-via-else-canonical w ↦ absurd (never _ t w.if-canonical.false)
    ])
    (λ _ _. let w = c.u32_at-else-not-canonical.ensures in let l = leb-true _ _ e in omega arith)
