use Rattle.std.proofs.Common.{◌∙◌, arith, subst, sym}
use Rattle.spa_format.specs.Faults.{of_fixed}
use Rattle.spa_canonical.specs.Canonical.{IsCanonicalBody}
use Rattle.spa_canonical.proofs.LeafBodies.{never}
use Rattle.spa_canonical.proofs.Leaves.{fixed_leaf, small_bool}
use Rattle.spa_canonical.proofs.Words.{bytes_of}
use Rattle.spa_canonical.proofs.body.fixed_body.Goals.{else-canonical-via-then-canonical+then-type_+else-u32_at-gt1, else-canonical-via-then-canonical+else-type_, else-canonical-via-else-canonical}
use Rattle.spa_canonical.proofs.body.fixed_body.Goals as goal

pub returns-then-body-len-clause-none : goal.returns-then-body-len-clause-none
returns-then-body-len-clause-none c = let f = c.requires in of_fixed f.0 f.1 (λ l. c.if-body-len.true (l ∙ sym f.2))

pub returns-then-u32_at-gt1-clause-none : goal.returns-then-u32_at-gt1-clause-none
returns-then-u32_at-gt1-clause-none c = (
  λ f. absurd (never _ c.if-canonical.true f),
  λ k.
      let small = small_bool _ (subst (λ t. IsCanonicalBody t c.args.body.now) c.if-type_.true k) in
      let big = c.if-u32_at-gt1.true in
      let is = c.u32_at.ensures in
      absurd (omega arith),
)

pub returns-clause-there : goal.returns-clause-there
returns-clause-there c =
    fixed_leaf _ _ _ _ (bytes_of _ c.type_inv.body) c.requires c.if-body-len.false
    (λ t b.
    elim c.else-canonical.branch [
      | else-canonical-via-then-canonical+then-type_+else-u32_at-gt1 w ↦ let small = w.if-u32_at-gt1.false in let is = w.u32_at.ensures in omega arith
      | else-canonical-via-then-canonical+else-type_ w ↦ absurd (w.if-type_.false b)
      | else-canonical-via-else-canonical w ↦ absurd (never _ t w.if-canonical.false)
    ])
