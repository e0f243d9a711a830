use Rattle.std.proofs.Common.{◌+◌, ◌-◌, ◌<◌, ◌^◌, arith, length, refl, rules}
use Rattle.pod_commands.proofs.Through.{begins, ends, fits, passes}
use Rattle.pod_commands.proofs.making.work_through.Goals as goal

pub loop-out-init : goal.loop-out-init
loop-out-init c = begins _ _ _ _ _ _ _ c.new-out.ensures.items

pub overflow_add-before : goal.overflow_add-before
overflow_add-before c =
    let behind = rw c.in-Some.is at c.in_ok-found.ensures.behind in
    let f =
    fits c.args.job.name.now c.args.job.manner.reading c.args.job.manner.refused c.args.job.making c.args.input.now c.args.said.now.items c.loop-out.before
    c.loop-out.left.now _ c.split_at.result.0.now _ c.in-Some.found behind c.split_at.ensures.front c.loop-out.invariant in
    let few = c.loop-out.invariant.few in
    let at = f.1 in
    let before = f.2 in
    let l : length c.args.input.now < 2 ^ 64 = search rules in
    omega (arith, at, before, few, l)

pub overflow_add-before-in-Some : goal.overflow_add-before-in-Some
overflow_add-before-in-Some c =
    let behind = rw c.in-Some.is at c.in_ok-found.ensures.behind in
    let f =
    fits c.args.job.name.now c.args.job.manner.reading c.args.job.manner.refused c.args.job.making c.args.input.now c.args.said.now.items c.loop-out.before
    c.loop-out.left.now _ c.split_at.result.0.now _ c.in-Some.found behind c.split_at.ensures.front c.loop-out.invariant in
    let few = c.loop-out.invariant.few in
    let at = f.1 in
    let before = f.2 in
    let l : length c.args.input.now < 2 ^ 64 = search rules in
    omega (arith, at, before, few, l)

pub loop-out-preserved : goal.loop-out-preserved
loop-out-preserved c =
    let left = c.loop-out.left.now in
    let few = c.loop-out.invariant.few in
    let said = c.in_ok-refusal-in-Some.ensures in
    passes c.args.job.name.now c.args.job.manner.reading c.args.job.manner.refused c.args.job.making c.args.input.now c.args.said.now.items c.loop-out.before
    (length c.args.input.now - length left) (c.loop-out.before + (c.in-Some.found.before + 1)) left c.split_at.result.0.now c.split_at.result.1.now _ _
    c.in_ok-made-in-Some.made.items _ _ c.work_on.new.said.items _ _ c.in-Some.found (rw c.in-Some.is at c.in_ok-found.ensures.left_out)
    (omega (arith, few)) (rw c.in-Some.is at c.in_ok-found.ensures.behind) c.split_at.ensures.front c.split_at.ensures.back c.split_at-in-Some.ensures.back
    c.in_ok-made-in-Some.ensures c.in_ok-add-in-Some.ensures refl
    (record { its_name = refl; its_number = said.number; its_place = said.place; refusal = said.refusal; left_out = refl })
    c.in_ok-push-in-Some.ensures.items c.loop-out.invariant

pub returns-in-None : goal.returns-in-None
returns-in-None c =
    let few = c.loop-out.invariant.few in
    ends c.args.job.name.now c.args.job.manner.reading c.args.job.manner.refused c.args.job.making c.args.input.now c.args.said.now.items c.loop-out.before
    (length c.args.input.now - length c.loop-out.left.now) c.loop-out.left.now _ c.in_ok-made-in-None.made.items _ _ _ (omega (arith, few))
    c.in_ok-made-in-None.ensures c.in_ok-add-in-None.ensures c.loop-out.invariant
