use Rattle.std.proofs.Common.{◌∙◌, inl, inr, refl, subst, sym}
use Rattle.spa_recordings.specs.GoingOn.{to_end, to_member}
use Rattle.spa_recordings.specs.Reading.{IsUnreadAt}
use Rattle.spa_recordings.specs.declared.reading.Reading.TheVariants.{Lenient}
use Rattle.spa_recordings.proofs.Going.{not_conveyed}
use Rattle.spa_recordings.proofs.going_on.member_end.Goals as goal

pub returns-in_default-clause-to : goal.returns-in_default-clause-to
returns-in_default-clause-to c =
    to_end c.args.pod.left.now 0 (λ h. c.in_default.ensures.short h.0) (inr (c.in_default.ensures.short, refl))

pub returns-then-front-clause-to : goal.returns-then-front-clause-to
returns-then-front-clause-to c =
    to_end c.args.pod.left.now c.front_len.result (λ h. c.if-front.true (c.in-Some.ensures.there.its_type ∙ h.1))
    (inl (c.in-Some.ensures.there.there, c.front_len.ensures))

pub unreachable-requires : goal.unreachable-requires
unreachable-requires c =
    not_conveyed c.args.pod.left.now c.in-Some.front.body.now c.in-Some.front.rest.now c.args.pod.kind.now c.in-Some.front.type_ c.in-Some.ensures.there
    c.if-front.false c.requires (rw c.in_default-2.is at c.in_ok-member.ensures.accepted)

pub returns-clause-to : goal.returns-clause-to
returns-clause-to c =
    let there = c.in-Some.ensures.there in
    let body = there.its_body in
    to_member c.args.pod.left.now c.in-Some-2.member.left.now c.in-Some-2.member.kind.now _ c.whole_len.result there.there
    (sym there.its_type ∙ c.if-front.false)
    (subst (λ z. IsUnreadAt Lenient z c.in-Some-2.member.left.now c.in-Some-2.member.kind.now) body
    (rw c.in-Some-2.is at c.in_ok-member.ensures.unread)) c.whole_len.ensures.whole
    (rw body refl)
