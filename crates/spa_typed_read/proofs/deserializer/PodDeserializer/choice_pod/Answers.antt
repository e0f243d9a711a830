use Rattle.std.proofs.Common.{refl, sym, subst, ◌∙◌, ◌<◌}
use Rattle.std.proofs.lemmas.Result.{err_from_is_err_and}
use Rattle.spa_format.specs.Tree.{choice_type}
use Rattle.spa_fixed_sized.specs.Choices.{choice_tree}
use Rattle.spa_typed_read.specs.Asking.{choice_of}
use Rattle.spa_typed_read.proofs.Asking.{body_refused_as, front_refused}
use Rattle.spa_typed_read.proofs.Fronts.{other_choice_refused, read_as, short_choice_refused}
use Rattle.spa_bodies.proofs.Refusals.{choice_refused}
use Rattle.spa_bodies.proofs.Steps.{type_of_choice}
use Rattle.spa_typed_read.proofs.deserializer.PodDeserializer.choice_pod.Goals as goal

pub returns-in_err-front-clause-refused : goal.returns-in_err-front-clause-refused
returns-in_err-front-clause-refused g c =
    let p = err_from_is_err_and c.from_residual.result c.from_residual.ensures.1 in
    rw (p.1, p.2, ← c.self.view_is)
    (front_refused (choice_of g.T.CanonicalFixedSizedPod.kind) _ _ _ c.in_err-front.ensures.refused)

pub returns-then-front-lt-CHOICE_HEADER_LEN-clause-refused : goal.returns-then-front-lt-CHOICE_HEADER_LEN-clause-refused
returns-then-front-lt-CHOICE_HEADER_LEN-clause-refused g c =
    rw (← c.self.view_is)
    (short_choice_refused _ _ _ _ _ c.in_ok-front.ensures.there c.if-front-lt-CHOICE_HEADER_LEN.true)

pub returns-in-Err-clause-refused : goal.returns-in-Err-clause-refused
returns-in-Err-clause-refused g c =
    rw (c.error_at.ensures, ← c.self.view_is)
    (body_refused_as (choice_of g.T.CanonicalFixedSizedPod.kind) _ _ _ _ _ c.in-Err.why c.in_ok-front.ensures.there
    c.in-Err.ensures.refused (λ e. tt) refl)

pub returns-then-u32_at-TYPE-clause-refused : goal.returns-then-u32_at-TYPE-clause-refused
returns-then-u32_at-TYPE-clause-refused g c =
    let over = c.in_default.ensures.ok in
    rw (← c.self.view_is)
    (other_choice_refused _ _ _ _ _ over.0 c.in_ok-front.ensures.there over.1 over.2
    (λ e. c.if-u32_at-TYPE.true (c.u32_at.ensures ∙ e ∙ sym (c.TYPE.ensures ∙ g.met.T.CanonicalFixedSizedPod.its_type))))

pub returns-in-Ok-clause-read : goal.returns-in-Ok-clause-read
returns-in-Ok-clause-read g c =
    let T = g.T.CanonicalFixedSizedPod in
    rw (← c.self.view_is, c.after.ensures)
    (read_as _ _ _ choice_type (choice_tree T.kind T.fixed c.in-Ok.choice) c.in_ok-front.ensures.there
    (type_of_choice T.kind T.fixed c.in-Ok.choice) c.in-Ok.ensures.read)

pub returns-in-Err-read_choice-clause-refused : goal.returns-in-Err-read_choice-clause-refused
returns-in-Err-read_choice-clause-refused g c =
    let T = g.T.CanonicalFixedSizedPod in
    let sized = subst (λ n. 0 < n) g.met.T.CanonicalFixedSizedPod.its_size g.met.T.ChoiceElement.sized in
    rw (c.error_at-in-Err-read_choice.ensures, ← c.self.view_is)
    (body_refused_as (choice_of T.kind) _ _ _ _ _ c.in-Err-read_choice.why c.in_ok-front.ensures.there
    (choice_refused T.kind _ c.in-Err-read_choice.why c.if-front-lt-CHOICE_HEADER_LEN.false sized
    c.in-Err-read_choice.ensures.refused) (λ e. tt) refl)
