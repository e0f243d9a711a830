use Rattle.std.proofs.Common.{◌≡◌, ◌+◌, ◌<◌, ◌^◌, ◌++◌, ◌∙◌, [], ap, arith, drop, inl, inr, length-take, length-take-le, refl, rules, subst, sym, take, take-append-drop}
use Rattle.std.proofs.lemmas.List.{places}
use Rattle.spa_recordings.specs.Blocks.{AreWhole, ahead}
use Rattle.spa_recordings.specs.declared.streaming.Stop.TheVariants.{OutOfMemory, ReadFailed}
use Rattle.spa_recordings.proofs.Holding.{few_whole}
use Rattle.spa_recordings.proofs.Passed.{begins, closes, fails, few_passed, passes, reads, stops}
use Rattle.spa_recordings.proofs.passing.stream_through.Goals as goal

pub loop-init : goal.loop-init
loop-init g c =
    let none = c.in-Ok.ensures.0 in (
      omega (arith, none),
      omega arith,
      begins _ (g.B.BlockWorker.works) _ _ _ (ahead c.in-Ok.blocks) c.in-Ok.ensures.1,
    )

pub returns-in_default-clause-stopped : goal.returns-in_default-clause-stopped
returns-in_default-clause-stopped g c =
    let works = g.B.BlockWorker.works in
    fails _ works c.args.worker.now _ _ _ [] 0 0 _ _ OutOfMemory (inl refl)
    (begins _ works c.args.worker.now (g.R.Read.remaining c.args.input.now) (g.W.Write.contents c.args.output.now) [] refl)

pub returns-in_err-whole-clause-stopped : goal.returns-in_err-whole-clause-stopped
returns-in_err-whole-clause-stopped g c =
    let works = g.B.BlockWorker.works in
    let why =
    fails _ works _ _ _ _ _ c.loop.count c.loop.place _ _ _ c.in_err-whole.ensures.cause
    (reads _ works _ _ _ _ _ _ _ c.loop.count c.loop.place _ _ c.next.ensures.read c.loop.invariant.2) in
    search (rules, why)

pub work_on_front-requires : goal.work_on_front-requires
work_on_front-requires g c =
    let f = few_passed _ (g.B.BlockWorker.works) _ _ _ _ _ c.loop.count c.loop.place _ _ c.loop.invariant.2 in omega (arith, f)

pub work_on_front-requires-in-loop : goal.work_on_front-requires-in-loop
work_on_front-requires-in-loop g c =
    let f = few_passed _ (g.B.BlockWorker.works) _ _ _ _ _ c.loop.count c.loop.place _ _ c.loop.invariant.2 in omega (arith, f)

pub returns-in_default-2-clause-done : goal.returns-in_default-2-clause-done
returns-in_default-2-clause-done g c =
    let works = g.B.BlockWorker.works in
    let at = rw c.in_default-2.is at c.in_ok-whole.ensures.end in
    (closes _ works _ _ _ _ _ _ c.held_bytes.result.now c.loop.count c.loop.place _ _ _ c.work_on_front.result at.0 c.held_bytes.ensures
    c.work_on_front.ensures.worked c.work_on_front.ensures.stopped
    (reads _ works _ _ _ _ _ _ _ c.loop.count c.loop.place _ _ c.next.ensures.read c.loop.invariant.2)).0

pub returns-in_default-2-clause-stopped : goal.returns-in_default-2-clause-stopped
returns-in_default-2-clause-stopped g c =
    let works = g.B.BlockWorker.works in
    let at = rw c.in_default-2.is at c.in_ok-whole.ensures.end in
    (closes _ works _ _ _ _ _ _ c.held_bytes.result.now c.loop.count c.loop.place _ _ _ c.work_on_front.result at.0 c.held_bytes.ensures
    c.work_on_front.ensures.worked c.work_on_front.ensures.stopped
    (reads _ works _ _ _ _ _ _ _ c.loop.count c.loop.place _ _ c.next.ensures.read c.loop.invariant.2)).1

pub returns-in_default-checked_add-clause-stopped : goal.returns-in_default-checked_add-clause-stopped
returns-in_default-checked_add-clause-stopped g c =
    let works = g.B.BlockWorker.works in
    fails _ works _ _ _ _ _ c.loop.count c.loop.place _ _ ReadFailed (inr refl)
    (reads _ works _ _ _ _ _ _ _ c.loop.count c.loop.place _ _ c.next.ensures.read c.loop.invariant.2)

pub returns-in_err-work_on_front-clause-stopped : goal.returns-in_err-work_on_front-clause-stopped
returns-in_err-work_on_front-clause-stopped g c =
    let works = g.B.BlockWorker.works in
    let len = c.in-Some.whole.len in
    let held = ahead c.next.new.self in
    let whole = rw c.in-Some.is at c.in_ok-whole.ensures.whole in
    let block = c.split_at.ensures.front ∙ ap (take len) c.held_bytes-in-loop.ensures in
    let why =
    stops _ works _ _ _ _ _ c.split_at.result.0.now (drop len held) c.loop.count c.loop.place _ _ _ _
    (sym (ap (λ z. z ++ drop len held) block ∙ take-append-drop len held)) (inl (subst AreWhole (sym block) whole.whole))
    c.in_err-work_on_front.ensures.stopped
    (reads _ works _ _ _ _ _ _ _ c.loop.count c.loop.place _ _ c.next.ensures.read c.loop.invariant.2) in
    search (rules, why)

pub overflow_add-count : goal.overflow_add-count
overflow_add-count g c =
    let f = few_passed _ (g.B.BlockWorker.works) _ _ _ _ _ c.loop.count c.loop.place _ _ c.loop.invariant.2 in
    let whole = rw c.in-Some.is at c.in_ok-whole.ensures.whole in
    let n = whole.count in
    let w = few_whole (take c.in-Some.whole.len (ahead c.next.new.self)) in
    let l = length-take c.in-Some.whole.len (ahead c.next.new.self) in
    let sum : c.in-Some-checked_add.behind ≡ c.loop.place + c.in-Some.whole.len = search rules in
    let p : c.in-Some-checked_add.behind < 2 ^ 64 = search rules in
    omega (arith, f, n, w, l, sum, p)

pub loop-preserved : goal.loop-preserved
loop-preserved g c =
    let works = g.B.BlockWorker.works in
    let blocks = c.next.new.self in
    let len = c.in-Some.whole.len in
    let whole = rw c.in-Some.is at c.in_ok-whole.ensures.whole in
    let block = c.split_at.ensures.front ∙ ap (take len) c.held_bytes-in-loop.ensures in
    let long = length-take-le blocks.held blocks.buffer.items (search (rules, places)) in
    let within = whole.within in
    let sum : c.in-Some-checked_add.behind ≡ c.loop.place + len = search rules in
    let made = c.in_ok-work_on_front.ensures.worked in (
      c.pass.ensures.room,
      search rules,
      passes _ works _ _ _ _ _ _ c.loop.count c.loop.place len c.in-Some.whole.count c.in-Some-checked_add.behind _ _ _ _
          c.split_at.result.0.now _ made.0 (omega (arith, long, within)) block whole.whole whole.count sum refl c.pass.ensures.ahead made.1 made.2
          (reads _ works _ _ _ _ _ _ _ c.loop.count c.loop.place _ _ c.next.ensures.read c.loop.invariant.2),
    )

pub returns-clause-stopped : goal.returns-clause-stopped
returns-clause-stopped g c =
    fails _ (g.B.BlockWorker.works) _ _ _ _ _ c.loop.count c.loop.place _ _ ReadFailed (inr refl) c.loop.invariant.2
