use Rattle.std.proofs.Common.{◌<◌, sym, ◌∙◌, subst, arith}
use Rattle.std.proofs.lemmas.Bool.{eqb-false, eqb-true}
use Rattle.spa_format.specs.Kind.{bool_kind}
use Rattle.spa_format.specs.Typed.{IsBytes}
use Rattle.spa_format.specs.Words.{word_at}
use Rattle.spa_format.proofs.WordLemmas.{IsBytes-drop}
use Rattle.spa_canonical.specs.Canonical.{AreCanonicalElements}
use Rattle.spa_canonical.proofs.Missed.{made_bools}
use Rattle.spa_canonical.proofs.Parts.{one_element, no_elements}
use Rattle.spa_canonical.proofs.body.are_bools.Goals.{then-left-lt-WORD_LEN-via-then-left-lt-WORD_LEN, then-left-lt-WORD_LEN-via-else-left-lt-WORD_LEN+then-u32_at-gt1}
use Rattle.spa_canonical.proofs.body.are_bools.Goals as goal

pub loop-left-init : goal.loop-left-init
loop-left-init c = (λ i. omega (arith, c.type_inv.elements i), λ r. r, λ r. r)

pub loop-left-preserved : goal.loop-left-preserved
loop-left-preserved c =
    let back = c.split_at.ensures.back in
    let bytes = c.loop-left.invariant.0 in
    let small : word_at c.loop-left.left.now 0 < 2 = let e = c.u32_at.ensures in let l = c.if-u32_at-gt1.false in omega arith in (
      subst IsBytes (sym back) (IsBytes-drop 4 _ bytes),
      λ r.
          c.loop-left.invariant.1
          (one_element bool_kind _ bytes (omega arith) c.if-left-lt-WORD_LEN.false (λ _. small)
          (subst (AreCanonicalElements bool_kind) back r)),
      λ r.
          subst (AreCanonicalElements bool_kind) (sym back)
          (made_bools _ (omega (arith, c.if-left-lt-WORD_LEN.false)) (c.loop-left.invariant.2 r)).others,
    )

pub returns-clause-canonical : goal.returns-clause-canonical
returns-clause-canonical c = λ _.
    c.loop-left.invariant.1 (no_elements bool_kind _ (eqb-true _ _ (sym c.is_empty.ensures ∙ c.loop-left-test.false)))

pub returns-then-left-lt-WORD_LEN-clause-found : goal.returns-then-left-lt-WORD_LEN-clause-found
returns-then-left-lt-WORD_LEN-clause-found c = λ r.
    let some = eqb-false _ 0 (sym c.is_empty.ensures ∙ c.loop-left-test.true) in
    let made = made_bools _ (omega (arith, some)) (c.loop-left.invariant.2 r) in
    elim c.then-left-lt-WORD_LEN.branch [
      | then-left-lt-WORD_LEN-via-then-left-lt-WORD_LEN w ↦ absurd (let l = made.long in let t = w.if-left-lt-WORD_LEN.true in omega arith)
      | then-left-lt-WORD_LEN-via-else-left-lt-WORD_LEN+then-u32_at-gt1 w ↦
          absurd (let l = made.small in let t = w.if-u32_at-gt1.true in let e = w.u32_at.ensures in omega arith)
    ]
