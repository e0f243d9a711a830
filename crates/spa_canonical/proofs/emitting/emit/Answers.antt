use Rattle.std.proofs.Common.{◌+◌, ◌-◌, ◌<◌, ◌++◌, ap, arith, subst}
use Rattle.spa_format.specs.Words.{word_bytes}
use Rattle.spa_canonical.proofs.Emitted.{Emits, emits_all, emits_end, emits_inner, emits_none, has_link, inner_fits, ran}
use Rattle.spa_canonical.proofs.emitting.emit.Goals as goal

pub loop-inner-init : goal.loop-inner-init
loop-inner-init c = emits_none _ (λ i. omega (arith, c.type_inv.bytes i))

pub loop-inner-preserved-in-More : goal.loop-inner-preserved-in-More
loop-inner-preserved-in-More c =
    (ran _ _ _ _ _ _ c.loop-inner.list c.encode_leaves-run.result c.loop-inner.invariant c.encode_leaves-run.ensures c.move_down.ensures).0

pub begin-inside-requires-clause-within : goal.begin-inside-requires-clause-within
begin-inside-requires-clause-within c =
    let r = ran _ _ _ _ _ _ c.loop-inner.list c.encode_leaves-run.result c.loop-inner.invariant c.encode_leaves-run.ensures c.move_down.ensures in
    inner_fits _ _ _ _ _ c.in-Inner.inner c.in-Inner.size r.0 (rw c.in-Inner.is at r.1)

pub loop-inner-preserved-in-Inner : goal.loop-inner-preserved-in-Inner
loop-inner-preserved-in-Inner c =
    let r = ran _ _ _ _ _ _ c.loop-inner.list c.encode_leaves-run.result c.loop-inner.invariant c.encode_leaves-run.ensures c.move_down.ensures in
    let from = c.loop-inner.from + c.encode_leaves-run.result.ended in
    let to = c.loop-inner.to + c.encode_leaves-run.result.kept in
    let inside = c.begin-inside.result in
    let b = c.begin-inside.ensures in
    let new = emits_inner _ _ c.begin-inside.new.bytes c.in-Inner.inner from to c.in-Inner.size c.loop-inner.list inside r.0 (rw c.in-Inner.is at r.1) b in
    subst (λ n. Emits c.args.bytes.now c.begin-inside.new.bytes (from + n) (to + n) inside) (omega arith) new

pub returns-then-list-eq0 : goal.returns-then-list-eq0
returns-then-list-eq0 c =
    let r = ran _ _ _ _ _ _ c.loop-inner.list c.encode_leaves-run.result c.loop-inner.invariant c.encode_leaves-run.ensures c.move_down.ensures in
    emits_all _ _ _ _ _ r.0 c.if-list-eq0.true (rw c.in-End.is at r.1)

pub list_around-around-requires : goal.list_around-around-requires
list_around-around-requires c =
    let r = ran _ _ _ _ _ _ c.loop-inner.list c.encode_leaves-run.result c.loop-inner.invariant c.encode_leaves-run.ensures c.move_down.ensures in
    let some : 0 < c.loop-inner.list.depth = (let z = c.if-list-eq0.false in omega arith) in
    let w = has_link _ _ _ _ _ r.0 some in
    record { deep = some; header = w.header; within = omega arith; back = w.back; behind = w.behind }

pub loop-inner-preserved : goal.loop-inner-preserved
loop-inner-preserved c =
    let r = ran _ _ _ _ _ _ c.loop-inner.list c.encode_leaves-run.result c.loop-inner.invariant c.encode_leaves-run.ensures c.move_down.ensures in
    emits_end _ _ c.put_words.new.bytes _ _ _ c.loop-inner.list c.list_around-around.result r.0 (let z = c.if-list-eq0.false in omega arith) (rw c.in-End.is at r.1)
    (ap (λ n. word_bytes (c.loop-inner.to + c.encode_leaves-run.result.kept - c.loop-inner.list.body) ++ word_bytes n) c.inner_type.ensures) c.put_words.ensures c.list_around-around.ensures
