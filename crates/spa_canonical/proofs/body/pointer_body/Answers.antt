use Rattle.std.proofs.Common.{◌∙◌, arith, inl, inr, refl, sym}
use Rattle.spa_format.specs.Tree.{pointer}
use Rattle.spa_format.specs.Words.{wide_at, word_at}
use Rattle.spa_canonical.proofs.Frames.{pointer_of}
use Rattle.spa_canonical.proofs.LeafBodies.{never}
use Rattle.spa_canonical.proofs.Opened.{pointer_of_body}
use Rattle.spa_canonical.proofs.ShorterLemmas.{shorter_leaf}
use Rattle.spa_canonical.proofs.Words.{bytes_of}
use Rattle.spa_canonical.proofs.body.pointer_body.Goals.{else-canonical-via-then-canonical+else-u32_at-ne0, else-canonical-via-else-canonical}
use Rattle.spa_canonical.proofs.body.pointer_body.Goals as goal

pub returns-then-u32_at-ne0-clause-none : goal.returns-then-u32_at-ne0-clause-none
returns-then-u32_at-ne0-clause-none c = (
  λ f. absurd (never _ c.if-canonical.true f),
  λ k. absurd (c.if-u32_at-ne0.true (c.u32_at.ensures ∙ (pointer_of_body _ _ refl k).1)),
)

pub returns-then-body-eq-POINTER_LEN-clause-there : goal.returns-then-body-eq-POINTER_LEN-clause-there
returns-then-body-eq-POINTER_LEN-clause-there c =
    let b = c.args.body.now in
    let long = c.if-body-eq-POINTER_LEN.true in
    record {
      shorter = shorter_leaf _ b (pointer (word_at b 0) (wide_at b 8)) refl (refl, inr (long, refl)) refl (λ e. omega (arith, e));
      own = λ t.
          elim c.else-canonical.branch [
            | else-canonical-via-then-canonical+else-u32_at-ne0 w ↦ pointer_of _ _ (bytes_of _ c.type_inv.body) long refl (sym w.u32_at.ensures ∙ w.if-u32_at-ne0.false)
            | else-canonical-via-else-canonical w ↦ absurd (never _ t w.if-canonical.false)
          ];
    }

pub returns-then-canonical-2-clause-none : goal.returns-then-canonical-2-clause-none
returns-then-canonical-2-clause-none c = (
  λ f. absurd (never _ c.if-canonical-2.true f),
  λ k. absurd (c.if-body-eq-POINTER_LEN.false (pointer_of_body _ _ refl k).0),
)

pub returns-clause-there : goal.returns-clause-there
returns-clause-there c =
    let b = c.args.body.now in
    record {
      shorter = shorter_leaf _ b (pointer (word_at b 0) (word_at b 8)) refl (refl, inl (c.if-body-ne-SHORT_POINTER_LEN.false, refl)) refl (λ e. omega (arith, e));
      own = λ t. absurd (never _ t c.if-canonical-2.false);
    }
