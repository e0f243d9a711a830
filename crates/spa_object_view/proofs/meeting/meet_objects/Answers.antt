use Rattle.std.proofs.Common.{inr, sym, subst}
use Rattle.spa_object_view.specs.Written.{BeginsWritten}
use Rattle.spa_object_view.specs.declared.rule.Stop.TheVariants.{OutOfMemory}
use Rattle.spa_object_view.proofs.Both.{begin_both}
use Rattle.spa_object_view.proofs.Meetings.{are_large, are_met}
use Rattle.spa_bytes.proofs.Passing.{passed_on}
use Rattle.spa_object_view.proofs.meeting.meet_objects.Goals as goal

pub returns-then-ours-theirs-clause-cause : goal.returns-then-ours-theirs-clause-cause
returns-then-ours-theirs-clause-cause g c = λ a b h k. begin_both h k (λ e. c.if-ours-theirs.true (sym e))

pub returns-in-Some-clause-cause : goal.returns-in-Some-clause-cause
returns-in-Some-clause-cause g c = λ a b h k. begin_both h k (sym c.if-ours-theirs.false, c.in-Some.ensures h.values k.values h.written k.written)

pub returns-in_err-first-clause-cause : goal.returns-in_err-first-clause-cause
returns-in_err-first-clause-cause g c =
    passed_on _ OutOfMemory _ c.from_residual.ensures.1 (λ a b h k. inr (inr (begin_both h k (sym c.if-ours-theirs.false, tt))))

pub returns-in_err-second-clause-cause : goal.returns-in_err-second-clause-cause
returns-in_err-second-clause-cause g c =
    passed_on _ OutOfMemory _ c.from_residual-in_err-second.ensures.1 (λ a b h k. inr (inr (begin_both h k (sym c.if-ours-theirs.false, tt))))

pub returns-in_err-out-clause-cause : goal.returns-in_err-out-clause-cause
returns-in_err-out-clause-cause g c =
    passed_on _ OutOfMemory _ c.from_residual-in_err-out.ensures.1 (λ a b h k. inr (inr (begin_both h k (sym c.if-ours-theirs.false, tt))))

pub returns-in-Err-clause-cause : goal.returns-in-Err-clause-cause
returns-in-Err-clause-cause g c = λ a b h k.
    let ours = subst (BeginsWritten a _ _) (sym c.in_ok-first.ensures.properties) h in
    let theirs = subst (BeginsWritten b _ _) (sym c.in_ok-second.ensures.properties) k in
    begin_both ours theirs (sym c.if-ours-theirs.false, c.in-Err.ensures.cause ours.values theirs.values ours.written theirs.written)

pub returns-clause-met : goal.returns-clause-met
returns-clause-met g c = λ a b h k.
    let ours = subst (BeginsWritten a _ _) (sym c.in_ok-first.ensures.properties) h in
    let theirs = subst (BeginsWritten b _ _) (sym c.in_ok-second.ensures.properties) k in
    are_met a b _ _ _ _ _ _ _ _ ours theirs c.if-ours-theirs.false c.in_ok-out.ensures.begun
    c.in-Ok.ensures.put _ c.requires.0 c.requires.1 c.in-Some-ended.ensures.ended

pub returns-in_default-ended-clause-cause : goal.returns-in_default-ended-clause-cause
returns-in_default-ended-clause-cause g c = λ a b h k.
    let ours = subst (BeginsWritten a _ _) (sym c.in_ok-first.ensures.properties) h in
    let theirs = subst (BeginsWritten b _ _) (sym c.in_ok-second.ensures.properties) k in
    are_large a b _ _ _ _ _ _ _ _ ours theirs c.if-ours-theirs.false c.in_ok-out.ensures.begun
    c.in-Ok.ensures.put c.in_default-ended.ensures.large
