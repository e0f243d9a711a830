use Rattle.std.proofs.Common.{◌≤◌, ℕ, Fits, w64, ap, arith, length-set, subst, sym}
use Rattle.spa_events.proofs.Around.{all_filled, all_listed, can_leave, depth_back, depth_following, fits, stands_back, stands_first, stands_following}
use Rattle.spa_events.proofs.Steps.{next_at, next_depth, next_whole}
use Rattle.spa_events.proofs.Open.{Stands}
use Rattle.spa_events.specs.Events.{no_parent}
use Rattle.spa_events.specs.declared.event.Event.{Event}
use Rattle.spa_events.specs.declared.level.Level.{Level}
use Rattle.spa_events.proofs.listing.list_events.Goals as goal

small : (n : ℕ) → Fits w64 n → n ≤ no_parent
small n f = omega arith

pub loop-event-init : goal.loop-event-init
loop-event-init c = stands_first c.args.input.now c.args.out.now

pub next_event-requires-clause-order : goal.next_event-requires-clause-order
next_event-requires-clause-order c = let s = c.loop-event.invariant in (fits _ _ _ _ s.around s.are).order

pub next_event-requires-clause-within : goal.next_event-requires-clause-within
next_event-requires-clause-within c = let s = c.loop-event.invariant in (fits _ _ _ _ s.around s.are).within

pub next_event-requires-clause-before : goal.next_event-requires-clause-before
next_event-requires-clause-before c = let s = c.loop-event.invariant in (fits _ _ _ _ s.around s.are).before

pub returns-then-count-out-clause-filled : goal.returns-then-count-out-clause-filled
returns-then-count-out-clause-filled c = all_filled _ _ _ _ _ _ c.loop-event.invariant c.in-Some.ensures.next c.if-count-out.true

pub following-level-requires-clause-deep : goal.following-level-requires-clause-deep
following-level-requires-clause-deep c =
    let s = c.loop-event.invariant in
    let f = fits _ _ _ _ s.around s.are in
    let w = next_whole _ _ _ f c.in-Some.ensures.next in
    let d = next_depth _ _ _ c.in-Some.ensures.next in
    let a = next_at _ _ _ c.in-Some.ensures.next in
    let fw = f.within in
    let fd = f.deep in
    omega arith

pub loop-event-preserved-in-Some : goal.loop-event-preserved-in-Some
loop-event-preserved-in-Some c =
    let room = c.loop-event.invariant.room in
    let ne = c.if-count-out.false in
    subst (Stands _ _ _ _) (sym c.following-level.ensures)
    (stands_following _ _ _ _ _ _ c.loop-event.invariant c.in-Some.ensures.next (omega arith))

pub loop-event-smaller-in-Some : goal.loop-event-smaller-in-Some
loop-event-smaller-in-Some c =
    let room = c.loop-event.invariant.room in
    let ne = c.if-count-out.false in
    let more = depth_following c.args.input.now c.loop-event.count c.loop-event.level c.in-Some.event c.in-Some.ensures.next in
    let same = ap (λ (x : Level). x.depth) c.following-level.ensures in
    omega (arith, length-set {A = Event})

pub returns-then-level-clause-listed : goal.returns-then-level-clause-listed
returns-then-level-clause-listed c =
    all_listed _ _ _ _ _ (small _ c.loop-event.auto.count-fits) c.loop-event.invariant c.in-None.ensures.none c.if-level.true

pub outside-level-requires : goal.outside-level-requires
outside-level-requires c = can_leave _ _ _ _ _ c.loop-event.invariant c.if-level.false

pub loop-event-smaller : goal.loop-event-smaller
loop-event-smaller c =
    let back = depth_back _ _ _ _ _ (small _ c.loop-event.auto.count-fits) c.loop-event.invariant c.if-level.false in
    let same = ap (λ (x : Level). x.depth) c.outside-level.ensures in
    omega arith

pub loop-event-preserved : goal.loop-event-preserved
loop-event-preserved c =
    subst (Stands _ _ _ _) (sym c.outside-level.ensures)
    (stands_back _ _ _ _ _ (small _ c.loop-event.auto.count-fits) c.loop-event.invariant c.in-None.ensures.none c.if-level.false)
