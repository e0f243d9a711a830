use Rattle.std.proofs.Common.{refl, sym, ◌∙◌}
use Rattle.std.proofs.lemmas.Result.{err_from_is_err_and}
use Rattle.spa_typed_read.specs.Asking.{array_of}
use Rattle.spa_typed_read.proofs.Asking.{front_refused}
use Rattle.spa_typed_read.proofs.Fronts.{other_array_refused, short_array_refused}
use Rattle.spa_typed_read.proofs.items.open_array_of.Goals as goal

pub returns-in_err-front-clause-refused : goal.returns-in_err-front-clause-refused
returns-in_err-front-clause-refused g c =
    let p = err_from_is_err_and c.from_residual.result c.from_residual.ensures.1 in
    rw (p.1, p.2) (front_refused (array_of g.T.CanonicalFixedSizedPod.kind) _ _ _ c.in_err-front.ensures.refused)

pub returns-then-front-lt-HEADER_LEN-clause-refused : goal.returns-then-front-lt-HEADER_LEN-clause-refused
returns-then-front-lt-HEADER_LEN-clause-refused g c =
    short_array_refused g.T.CanonicalFixedSizedPod.kind _ _ _ _ c.in_ok-front.ensures.there c.if-front-lt-HEADER_LEN.true

pub returns-then-u32_at-TYPE-clause-refused : goal.returns-then-u32_at-TYPE-clause-refused
returns-then-u32_at-TYPE-clause-refused g c =
    other_array_refused g.T.CanonicalFixedSizedPod.kind _ _ _ _ _ c.in_ok-front.ensures.there c.if-front-lt-HEADER_LEN.false
    (λ e. c.if-u32_at-TYPE.true (c.u32_at.ensures ∙ e ∙ sym (c.TYPE.ensures ∙ g.met.T.CanonicalFixedSizedPod.its_type))) refl
