use Rattle.std.proofs.Common.{arith, ap, length, sym}
use Rattle.std.proofs.lemmas.Bool.{eqb-false, eqb-true}
use Rattle.spa_lenient.specs.Rewriting.{RefusesList}
use Rattle.spa_lenient.proofs.Fronts.{lacks_memory, of_memory}
use Rattle.spa_lenient.proofs.InPlace.{are_shorter}
use Rattle.spa_lenient.proofs.Lists.{at_start, is_left, left_further, refused_list, to_end, with_first, with_front}
use Rattle.spa_lenient.proofs.rewriting.append_all.Goals as goal

pub loop-pod-init : goal.loop-pod-init
loop-pod-init c = let e = c.len-start.ensures in (at_start _ _, omega arith)

pub returns-in-Err-clause-refused : goal.returns-in-Err-clause-refused
returns-in-Err-clause-refused c =
    let input = c.args.input.now in
    let pod = c.in-Err.pod.now in
    let lacking = c.in-Err.ensures.lacking in
    let l = c.lacking_memory in
    of_memory (RefusesList input pod) l.result.place l.result.why l.ensures
    (refused_list input pod _ (left_further _ _ _ _ _ c.loop-pod.invariant.0 lacking.0) (lacks_memory pod lacking.1))

pub returns-then-is_empty-clause-rewritten : goal.returns-then-is_empty-clause-rewritten
returns-then-is_empty-clause-rewritten c =
    to_end _ _ _ _ (with_first _ _ _ _ _ _ c.loop-pod.invariant.0 c.in-Ok.ensures.appended) (eqb-true _ _ (sym c.if-is_empty.ensures))

pub returns-then-is_empty-clause-within : goal.returns-then-is_empty-clause-within
returns-then-is_empty-clause-within c =
    are_shorter _ _ _ (λ i. omega (arith, c.type_inv.input i))
    (to_end _ _ _ _ (with_first _ _ _ _ _ _ c.loop-pod.invariant.0 c.in-Ok.ensures.appended) (eqb-true _ _ (sym c.if-is_empty.ensures)))

pub loop-pod-preserved : goal.loop-pod-preserved
loop-pod-preserved c = (
  with_front _ _ _ _ _ _ (with_first _ _ _ _ _ _ c.loop-pod.invariant.0 c.in-Ok.ensures.appended) c.in-Ok-append_leniently.ensures.appended,
  c.loop-pod.invariant.1,
)

pub returns-in-Err-append_leniently-clause-refused :
    goal.returns-in-Err-append_leniently-clause-refused
returns-in-Err-append_leniently-clause-refused c =
    let input = c.args.input.now in
    let pod = c.in-Ok.pod.now in
    let some = eqb-false _ 0 (sym c.if-is_empty.ensures) in
    refused_list input pod _ (is_left input pod _ _ (with_first _ _ _ _ _ _ c.loop-pod.invariant.0 c.in-Ok.ensures.appended) (λ n. some (ap length n)))
    c.in-Err-append_leniently.ensures.refused
