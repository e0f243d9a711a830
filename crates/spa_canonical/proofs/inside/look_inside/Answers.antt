use Rattle.std.proofs.Common.{arith, ap, length, length-set, refl, reverse, set, subst, sym, take, [], ◌∙◌, ◌+◌, ◌-◌, ◌≡◌}
use Rattle.std.proofs.lemmas.Bool.{eqb-true}
use Rattle.std.proofs.lemmas.List.{take_all}
use Rattle.spa_canonical.specs.Look.{Onward}
use Rattle.spa_canonical.specs.declared.inside.Waiting.{Waiting}
use Rattle.spa_canonical.proofs.Faulted.{stops_in}
use Rattle.spa_canonical.proofs.Looks.{AwaitsAll, goes_in_last, goes_on, in_list, left_waiting, list_ends, list_waits, no_room, opened_shorter, popped, pushed}
use Rattle.spa_canonical.proofs.inside.look_inside.Goals as goal

abbrev none : Waiting
none = record { keyed = 0; behind = 0; pods = record { ref_ptr = (0, 0); now = [] } }

pub loop-next-init : goal.loop-next-init
loop-next-init c = (
  λ all pods o. subst (λ lists. Onward c.args.canonical all pods lists c.args.counted) (popped c.args.frames.now (c.args.around + 1) c.args.around none refl c.requires.room) o,
  omega arith,
)

pub returns-then-waiting-eq0 : goal.returns-then-waiting-eq0
returns-then-waiting-eq0 c = record {
  found = λ all pods o.
      let passed = goes_on _ _ _ _ _ _ _ _ _ _ _ (c.loop-next.invariant.0 all pods o) c.behind_first-more.ensures.passed in
      let ends = list_ends _ _ _ _ _ _ _ _ _ passed (eqb-true _ _ (sym c.is_empty.ensures ∙ c.if-is_empty.true)) in
      (subst (λ n. Onward c.args.canonical all pods (reverse (take n c.loop-next.frames)) (c.loop-next.surplus + c.behind_first-more.result.1)) c.if-waiting-eq0.true ends, λ n e. absurd cc);
}

pub loop-next-smaller-then-is_empty : goal.loop-next-smaller-then-is_empty
loop-next-smaller-then-is_empty c =
    let l = ap left_waiting (popped c.loop-next.frames c.loop-next.waiting (c.loop-next.waiting - 1) none (omega arith) (omega arith)) in
    omega arith

pub loop-next-preserved-then-is_empty : goal.loop-next-preserved-then-is_empty
loop-next-preserved-then-is_empty c = (
  λ all pods o.
      let passed = goes_on _ _ _ _ _ _ _ _ _ _ _ (c.loop-next.invariant.0 all pods o) c.behind_first-more.ensures.passed in
      subst (λ outer. Onward c.args.canonical all pods outer (c.loop-next.surplus + c.behind_first-more.result.1)) (popped c.loop-next.frames c.loop-next.waiting (c.loop-next.waiting - 1) none (omega arith) (omega arith))
      (list_ends _ _ _ _ _ _ _ _ _ passed (eqb-true _ _ (sym c.is_empty.ensures ∙ c.if-is_empty.true))),
  omega arith,
)

pub returns-in-None : goal.returns-in-None
returns-in-None c = record {
  found = λ all pods o.
      let passed = goes_on _ _ _ _ _ _ _ _ _ _ _ (c.loop-next.invariant.0 all pods o) c.behind_first-more.ensures.passed in
      (stops_in _ _ _ _ _ _ _ _ _ _ passed (c.in-None.ensures c.args.canonical c.behind_first-more.ensures.last), λ n e. absurd cc);
}

pub returns-then-waiting-frames : goal.returns-then-waiting-frames
returns-then-waiting-frames c = record {
  found = λ all pods o.
      let frames = c.loop-next.frames in
      let n = c.loop-next.waiting in
      let passed = goes_on _ _ _ _ _ _ _ _ _ _ _ (c.loop-next.invariant.0 all pods o) c.behind_first-more.ensures.passed in
      let lists = pushed frames (set frames n c.list.result) n (n + 1) c.list.result refl refl c.loop-next.invariant.1 in
      let all_lists = take_all (n + 1) (set frames n c.list.result) (omega (arith, length-set {A = Waiting}, c.if-waiting-frames.true)) in (
        no_room _ _ _ _ _ _ _ _ _ _ _ _ _ passed c.in-Inner.ensures.0 c.if-waiting-frames.true (omega (arith, c.if-waiting-frames.true)),
        λ m e.
            let surplus = c.loop-next.surplus + c.behind_first-more.result.1 in
            let same : surplus ≡ m = cc in
            subst (Onward c.args.canonical all pods (reverse (set frames n c.list.result))) same
            (subst (λ f. Onward c.args.canonical all pods (reverse f) surplus) all_lists
            (subst (λ l. Onward c.args.canonical all pods l surplus) (sym lists) (in_list _ _ _ _ _ _ _ _ _ c.list.ensures passed))),
      );
}

pub loop-next-smaller-then-is_empty-2 : goal.loop-next-smaller-then-is_empty-2
loop-next-smaller-then-is_empty-2 c =
    let e = opened_shorter _ _ _ _ _ c.in-Inner.ensures.0 in
    omega arith

pub loop-next-preserved-then-is_empty-2 : goal.loop-next-preserved-then-is_empty-2
loop-next-preserved-then-is_empty-2 c = (
  λ all pods o.
      let passed = goes_on _ _ _ _ _ _ _ _ _ _ _ (c.loop-next.invariant.0 all pods o) c.behind_first-more.ensures.passed in
      let none = eqb-true _ _ (sym c.is_empty-in-Inner.ensures ∙ c.if-is_empty-2.true) in
      goes_in_last _ _ _ _ _ _ _ _ _ _ _ _ _ passed c.in-Inner.ensures.0 c.in-Inner.ensures.1 none,
  omega arith,
)

pub loop-next-smaller : goal.loop-next-smaller
loop-next-smaller c =
    let e = opened_shorter _ _ _ _ _ c.in-Inner.ensures.0 in
    let l = ap left_waiting (pushed c.loop-next.frames _ c.loop-next.waiting _ c.list-in-Inner.result refl refl c.loop-next.invariant.1) in
    let r = ap (λ next. length next.pods.now) c.list-in-Inner.ensures in
    omega arith

pub loop-next-preserved : goal.loop-next-preserved
loop-next-preserved c = (
  λ all pods o.
      let passed = goes_on _ _ _ _ _ _ _ _ _ _ _ (c.loop-next.invariant.0 all pods o) c.behind_first-more.ensures.passed in
      subst
      (λ outer. AwaitsAll c.args.canonical all pods outer c.in-Inner.inner.keyed c.in-Inner.inner.pods.now (c.loop-next.behind + c.in-Inner.after)
      (c.loop-next.surplus + c.behind_first-more.result.1))
      (sym (pushed c.loop-next.frames _ c.loop-next.waiting _ c.list-in-Inner.result refl refl c.loop-next.invariant.1))
      (list_waits _ _ _ _ _ _ _ _ _ _ _ _ _ c.list-in-Inner.ensures passed c.in-Inner.ensures.0 c.in-Inner.ensures.1),
  omega (arith, length-set {A = Waiting}),
)
