use Rattle.std.proofs.Common.{◌+◌, ◌∙◌, ap, length, refl}
use Rattle.spa_format.specs.Walk.{walk}
use Rattle.spa_refusals.proofs.Unreading.{first_said, nothing_at}
use Rattle.spa_refusals.proofs.refusal.first_refusal.Goals as goal

pub refusal_of-requires : goal.refusal_of-requires
refusal_of-requires c =
    let unread = rw c.in-Some.is at c.in_ok-unread.ensures.unread in
    nothing_at c.args.reading c.args.input.now _ _ c.split_at.result.1.now _ unread refl c.split_at.ensures.back

pub returns-clause-refused : goal.returns-clause-refused
returns-clause-refused c =
    let unread = rw c.in-Some.is at c.in_ok-unread.ensures.unread in
    let refused = rw c.in-Some.is at c.in_ok-unread.ensures.refused in
    let its = c.in_ok-refusal.ensures in
    first_said c.args.reading c.args.input.now _ _ c.split_at.result.1.now c.in_ok-refusal.refusal _ refused unread refl c.split_at.ensures.back its.place
    (its.number ∙ ap (λ z. z + 1) (c.count_whole.ensures.count ∙ ap (λ z. length (walk z)) c.split_at.ensures.front)) its.refusal
