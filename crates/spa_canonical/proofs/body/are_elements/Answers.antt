use Rattle.std.proofs.Common.{arith, subst, sym}
use Rattle.spa_fixed_sized.specs.Reading.{AreWhole}
use Rattle.spa_canonical.specs.Canonical.{IsFixedLen}
use Rattle.spa_canonical.proofs.LeafBodies.{never}
use Rattle.spa_canonical.proofs.Leaves.{elements_are}
use Rattle.spa_canonical.proofs.Words.{bytes_of}
use Rattle.spa_canonical.proofs.body.are_elements.Goals.{else-canonical-via-then-canonical+then-type_+else-not-are_bools, else-canonical-via-then-canonical+else-type_, else-canonical-via-else-canonical}
use Rattle.spa_canonical.proofs.body.are_elements.Goals as goal
use Rattle.spa_fixed_sized.proofs.Arrays.{whole_of}

pub returns-then-elements-eq0-clause-there : goal.returns-then-elements-eq0-clause-there
returns-then-elements-eq0-clause-there c =
    let four = sym c.if-size-eq-ONE_WORD.true in
    let word = c.if-is_word_type.true in
    elements_are _ _ _ _ (bytes_of _ c.type_inv.elements) (subst (IsFixedLen c.args.type_) four (c.is_word_type.ensures.word word))
    (subst (λ s. AreWhole s c.args.elements.now) four (whole_of 4 _ c.if-elements-eq0.true)) (λ _ b. absurd (c.is_word_type.ensures.other word b))

pub returns-clause-there : goal.returns-clause-there
returns-clause-there c =
    let len = c.if-size-len.false in
    elements_are _ _ _ _ (bytes_of _ c.type_inv.elements) (subst (IsFixedLen c.args.type_) (sym len) (c.fixed_len-len.ensures.is_len (omega arith)))
    (c.are_whole-is_whole.ensures.whole c.if-not-is_whole.false)
    (λ t b.
    elim c.else-canonical.branch [
      | else-canonical-via-then-canonical+then-type_+else-not-are_bools w ↦ w.are_bools.ensures.canonical w.if-not-are_bools.false
      | else-canonical-via-then-canonical+else-type_ w ↦ absurd (w.if-type_.false b)
      | else-canonical-via-else-canonical w ↦ absurd (never _ t w.if-canonical.false)
    ])
