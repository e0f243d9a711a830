use Rattle.std.proofs.Common.{◌≡◌, ◌+◌, ◌<◌, ◌^◌, ◌∙◌, [], ap, arith, drop, inl, inr, length-take, length-take-le, refl, rules, subst, sym, take}
use Rattle.std.proofs.lemmas.List.{places, take-take, with_items_is}
use Rattle.spa_recordings.specs.Blocks.{ahead}
use Rattle.spa_recordings.specs.Streaming.{MakesAs, MayStop, StopsInBlock, WritesRead}
use Rattle.spa_recordings.specs.declared.streaming.Before.{Before}
use Rattle.spa_recordings.specs.declared.streaming.Stop.TheVariants.{OutOfMemory, ReadFailed}
use Rattle.spa_recordings.proofs.Holding.{few_whole, same_behind}
use Rattle.spa_recordings.proofs.Streamed.{begins, closes, fails, few_passed, nothing_made, passes, reads, stops}
use Rattle.spa_recordings.proofs.streaming.stream.Goals as goal

pub loop-init : goal.loop-init
loop-init g c =
    let reading = c.args.reading in
    let none = c.in-Ok.ensures.0 in (
      omega (arith, none),
      omega arith,
      begins reading (MayStop reading (g.B.BlockWriter.refuses c.args.writer.now)) (g.B.BlockWriter.makes c.args.writer.now) _ _ (ahead c.in-Ok.blocks) _
          refl refl refl (g.met.B.BlockWriter.makes_nothing c.args.writer.now 0 0) c.in-Ok.ensures.1,
    )

pub returns-in_default-clause-stopped : goal.returns-in_default-clause-stopped
returns-in_default-clause-stopped g c =
    let reading = c.args.reading in
    let refuses = MayStop reading (g.B.BlockWriter.refuses c.args.writer.now) in
    let makes = g.B.BlockWriter.makes c.args.writer.now in
    fails reading refuses makes _ _ [] nothing nothing_made _ _ OutOfMemory (inl refl)
    (begins reading refuses makes (g.R.Read.remaining c.args.input.now) (g.W.Write.contents c.args.output.now) [] nothing refl refl refl
    (g.met.B.BlockWriter.makes_nothing c.args.writer.now 0 0) refl)
  where
    nothing : Before
    nothing = record { count = 0; place = 0; made = 0 }

pub returns-in-Err-clause-stopped : goal.returns-in-Err-clause-stopped
returns-in-Err-clause-stopped g c =
    let reading = c.args.reading in
    let refuses = MayStop reading (g.B.BlockWriter.refuses c.args.writer.now) in
    let makes = g.B.BlockWriter.makes c.args.writer.now in
    fails reading refuses makes _ _ _ c.loop.before c.loop.made _ _ c.in-Err.why c.in-Err.ensures.cause
    (reads reading refuses makes _ _ _ _ _ c.loop.before c.loop.made _ _ c.next.ensures.read c.loop.invariant.2)

pub end-requires : goal.end-requires
end-requires g c =
    let f =
    (few_passed c.args.reading (MayStop c.args.reading (g.B.BlockWriter.refuses c.args.writer.now)) (g.B.BlockWriter.makes c.args.writer.now) _ _ _ c.loop.before c.loop.made _ _
    c.loop.invariant.2).0 in
    let p = c.loop.invariant.1 in
    omega (arith, f, p)

pub returns-in_default-found-clause-done : goal.returns-in_default-found-clause-done
returns-in_default-found-clause-done g c =
    let reading = c.args.reading in
    let refuses = MayStop reading (g.B.BlockWriter.refuses c.args.writer.now) in
    let makes = g.B.BlockWriter.makes c.args.writer.now in
    let at = rw c.in_default-found.is at c.in-Ok-next.ensures.end in
    (closes reading refuses makes _ _ _ c.held_bytes.result.now c.loop.before c.loop.made _ _ c.end.result c.held_bytes.ensures at.0 at.1
    c.end.ensures.ended c.end.ensures.why
    (reads reading refuses makes _ _ _ _ _ c.loop.before c.loop.made _ _ c.next.ensures.read c.loop.invariant.2)).0

pub returns-in_default-found-clause-stopped : goal.returns-in_default-found-clause-stopped
returns-in_default-found-clause-stopped g c =
    let reading = c.args.reading in
    let refuses = MayStop reading (g.B.BlockWriter.refuses c.args.writer.now) in
    let makes = g.B.BlockWriter.makes c.args.writer.now in
    let at = rw c.in_default-found.is at c.in-Ok-next.ensures.end in
    (closes reading refuses makes _ _ _ c.held_bytes.result.now c.loop.before c.loop.made _ _ c.end.result c.held_bytes.ensures at.0 at.1
    c.end.ensures.ended c.end.ensures.why
    (reads reading refuses makes _ _ _ _ _ c.loop.before c.loop.made _ _ c.next.ensures.read c.loop.invariant.2)).1

pub returns-in_default-checked_add-clause-stopped : goal.returns-in_default-checked_add-clause-stopped
returns-in_default-checked_add-clause-stopped g c =
    let reading = c.args.reading in
    let refuses = MayStop reading (g.B.BlockWriter.refuses c.args.writer.now) in
    let makes = g.B.BlockWriter.makes c.args.writer.now in
    fails reading refuses makes _ _ _ c.loop.before c.loop.made _ _ ReadFailed (inr refl)
    (reads reading refuses makes _ _ _ _ _ c.loop.before c.loop.made _ _ c.next.ensures.read c.loop.invariant.2)

pub write_front-requires-clause-count : goal.write_front-requires-clause-count
write_front-requires-clause-count g c =
    let f =
    (few_passed c.args.reading (MayStop c.args.reading (g.B.BlockWriter.refuses c.args.writer.now)) (g.B.BlockWriter.makes c.args.writer.now) _ _ _ c.loop.before c.loop.made _ _
    c.loop.invariant.2).0 in
    let sum : c.in-Some-checked_add.behind ≡ c.loop.before.place + c.in-Some.whole.len = search rules in
    let p : c.in-Some-checked_add.behind < 2 ^ 64 = search rules in
    omega (arith, f, sum, p)

pub returns-in-Err-write_front-clause-stopped : goal.returns-in-Err-write_front-clause-stopped
returns-in-Err-write_front-clause-stopped g c =
    let blocks = c.next.new.self in
    let len = c.in-Some.whole.len in
    let whole = rw c.in-Some.is at c.in-Ok-next.ensures.whole in
    let block = ap (take len) c.as_mut_slice-buffer.ensures.value ∙ sym (take-take len blocks.held blocks.buffer.items whole.within) in
    let reading = c.args.reading in
    let refuses = MayStop reading (g.B.BlockWriter.refuses c.args.writer.now) in
    let makes = g.B.BlockWriter.makes c.args.writer.now in
    stops reading refuses makes _ _ _ c.loop.before c.loop.made len _ (g.W.Write.contents c.loop.output)
    (g.W.Write.contents c.write_front.new.output) c.in-Err-write_front.why (g.met.B.BlockWriter.makes_more c.args.writer.now) whole.whole
    (subst
    (λ z. StopsInBlock reading refuses (MakesAs reading (makes c.loop.before.count c.loop.before.made)) c.loop.before z (g.W.Write.contents c.loop.output)
    (g.W.Write.contents c.write_front.new.output) c.in-Err-write_front.why)
    block c.in-Err-write_front.ensures.stopped)
    (reads reading refuses makes _ _ _ _ _ c.loop.before c.loop.made _ _ c.next.ensures.read c.loop.invariant.2)

pub overflow_add-before : goal.overflow_add-before
overflow_add-before g c =
    let f =
    (few_passed c.args.reading (MayStop c.args.reading (g.B.BlockWriter.refuses c.args.writer.now)) (g.B.BlockWriter.makes c.args.writer.now) _ _ _ c.loop.before c.loop.made _ _
    c.loop.invariant.2).0 in
    let whole = rw c.in-Some.is at c.in-Ok-next.ensures.whole in
    let n = whole.count in
    let w = few_whole (take c.in-Some.whole.len (ahead c.next.new.self)) in
    let l = length-take c.in-Some.whole.len (ahead c.next.new.self) in
    let sum : c.in-Some-checked_add.behind ≡ c.loop.before.place + c.in-Some.whole.len = search rules in
    let p : c.in-Some-checked_add.behind < 2 ^ 64 = search rules in
    omega (arith, f, n, w, l, sum, p)

pub loop-preserved : goal.loop-preserved
loop-preserved g c =
    let blocks = c.next.new.self in
    let items = blocks.buffer.items in
    let len = c.in-Some.whole.len in
    let whole = rw c.in-Some.is at c.in-Ok-next.ensures.whole in
    let block = ap (take len) c.as_mut_slice-buffer.ensures.value ∙ sym (take-take len blocks.held items whole.within) in
    let reading = c.args.reading in
    let refuses = MayStop reading (g.B.BlockWriter.refuses c.args.writer.now) in
    let makes = g.B.BlockWriter.makes c.args.writer.now in
    let long = length-take-le blocks.held items (search (rules, places)) in
    let sum : c.in-Some-checked_add.behind ≡ c.loop.before.place + len = search rules in
    let more =
    c.pass.ensures.ahead
    ∙ ap (λ z. drop len (take blocks.held z)) (with_items_is blocks.buffer c.write_front.new.buffer (search (rules, places)))
    ∙ same_behind c.as_mut_slice-buffer.result.now c.write_front.new.buffer len blocks.held whole.within c.write_front.ensures.behind
    ∙ ap (λ z. drop len (take blocks.held z)) c.as_mut_slice-buffer.ensures.value in
    let within = whole.within in (
      c.pass.ensures.room,
      search rules,
      passes reading refuses makes _ _ _ c.loop.before c.loop.made len c.in-Some.whole.count _ c.in-Ok-write_front.written _ _
          (g.W.Write.contents c.loop.output) (g.W.Write.contents c.write_front.new.output) _ (g.met.B.BlockWriter.makes_more c.args.writer.now)
          (omega (arith, long, within)) whole.whole whole.count sum refl refl more
          (subst
          (λ z. WritesRead reading (makes c.loop.before.count c.loop.before.made) z (g.W.Write.contents c.loop.output)
          (g.W.Write.contents c.write_front.new.output) c.in-Ok-write_front.written)
          block c.in-Ok-write_front.ensures.written)
          refl refl
          (reads reading refuses makes _ _ _ _ _ c.loop.before c.loop.made _ _ c.next.ensures.read c.loop.invariant.2),
    )

pub returns-clause-stopped : goal.returns-clause-stopped
returns-clause-stopped g c =
    fails c.args.reading (MayStop c.args.reading (g.B.BlockWriter.refuses c.args.writer.now)) (g.B.BlockWriter.makes c.args.writer.now) _ _ _ c.loop.before
    c.loop.made _ _ ReadFailed (inr refl) c.loop.invariant.2
