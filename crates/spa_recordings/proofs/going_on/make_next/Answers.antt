use Rattle.std.proofs.Common.{arith, refl}
use Rattle.spa_recordings.proofs.Going.{gap_fits, numbered, steps}
use Rattle.spa_recordings.proofs.going_on.make_next.Goals as goal

pub overflow_add-count : goal.overflow_add-count
overflow_add-count g c =
    let n =
    numbered _ c.args.left.now _ c.split_at.result.0.now _ c.args.from.count _ (rw c.in-Some.is at c.in_ok-unread.ensures.unread)
    c.split_at.ensures.front_len c.count_whole.ensures.count c.requires.few in
    omega (arith, n)

pub overflow_add-count-2 : goal.overflow_add-count-2
overflow_add-count-2 g c =
    let n =
    numbered _ c.args.left.now _ c.split_at.result.0.now _ c.args.from.count _ (rw c.in-Some.is at c.in_ok-unread.ensures.unread)
    c.split_at.ensures.front_len c.count_whole.ensures.count c.requires.few in
    omega (arith, n)

pub left_out_by-requires : goal.left_out_by-requires
left_out_by-requires g c =
    gap_fits _ c.args.left.now _ _ c.args.from.place _ c.in_ok-passed.passed.len (rw c.in-Some.is at c.in_ok-unread.ensures.unread)
    c.split_at.ensures.front_len c.in_ok-passed.ensures.within c.requires.within

pub overflow_add-at : goal.overflow_add-at
overflow_add-at g c =
    let fits =
    gap_fits _ c.args.left.now _ _ c.args.from.place _ c.in_ok-passed.passed.len (rw c.in-Some.is at c.in_ok-unread.ensures.unread)
    c.split_at.ensures.front_len c.in_ok-passed.ensures.within c.requires.within in
    omega (arith, fits)

pub returns-clause-next : goal.returns-clause-next
returns-clause-next g c =
    steps c.args.manner.reading c.args.manner.refused _ c.args.from _ c.in_ok-passed.passed.len c.count_whole.result c.args.left.now
    c.in-Some.unread.left.now c.split_at-2.result.1.now c.split_at.result.0.now c.split_at-2.result.0.now c.in-Some.unread.kind.now _ _ _ _ _ _
    (rw c.in-Some.is at c.in_ok-unread.ensures.unread) c.split_at.ensures.front refl c.in_ok-passed.ensures.behind c.split_at-2.ensures.front
    c.split_at-2.ensures.back c.in_ok-add_made-2.ensures c.in_ok-keep.ensures c.count_whole.ensures.count refl refl refl
    c.left_out_by.ensures c.in_ok-push.ensures.items refl refl refl
