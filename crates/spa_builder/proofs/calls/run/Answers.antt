use Rattle.std.proofs.Common.{◌≡◌, ◌<◌, ◌++◌, ◌∷◌, [], true, length, take, ap, ◌∙◌, arith, subst}
use Rattle.std.proofs.lemmas.List.{length-take-le}
use Rattle.std.proofs.lemmas.Bool.{both_ways}
use Rattle.std.specs.Prelude.{is_ok, cond}
use Rattle.spa_builder.specs.State.{State}
use Rattle.spa_builder.specs.Step.{step}
use Rattle.spa_builder.specs.Fields.{IsAt}
use Rattle.spa_builder.specs.Answers.{Makes}
use Rattle.spa_builder.specs.Replay.{call_of}
use Rattle.spa_builder.proofs.Runs.{so_far_more, so_far_length, so_far_all}
use Rattle.spa_builder.proofs.calls.run.Goals as goal

pub unreachable-requires : goal.unreachable-requires
unreachable-requires c =
    let i = c.loop-call.call-index in
    let n = so_far_length (take i c.args.calls.now) c.loop-call.answers.items c.loop-call.builder
    c.loop-call.invariant.1 in
    let t : i < length c.args.calls.now = c.loop-call-test.true in
    let k = length-take-le i c.args.calls.now (omega arith) in
    let ok = c.push.ensures.succeeds (let m = c.loop-call.answers.ok.0 in let r =
    c.loop-call.invariant.0 in omega arith) in
    both_ways (is_ok c.push.result) c.if-is_err.ensures.negation ok

pub loop-call-preserved : goal.loop-call-preserved
loop-call-preserved c =
    let i = c.loop-call.call-index in
    let e : is_ok c.push.result ≡ true = c.if-is_err.ensures.negation in
    let items = c.push.ensures.items
    ∙ ap (λ b. cond b (c.loop-call.answers.items ++ c.apply-answer.result ∷ [])
    c.loop-call.answers.items) e in (
      (let m = c.push.ensures.capacity in let r = c.loop-call.invariant.0 in omega arith),
      so_far_more c.args.calls.now i c.call-item.result c.loop-call.answers.items
          c.push.new.self.items c.apply-answer.result c.loop-call.builder c.apply-answer.new.builder
          c.loop-call-test.true items c.loop-call.invariant.1
          (subst (λ q. (s : State) → IsAt c.loop-call.builder s →
          Makes (step s (call_of q)) c.loop-call.builder c.apply-answer.new.builder
          c.apply-answer.result) c.call-item.is c.apply-answer.ensures),
    )

pub returns : goal.returns
returns c = so_far_all c.args.calls.now c.loop-call.call-index c.loop-call.answers.items
    c.loop-call.builder c.loop-call-test.false c.loop-call.invariant.1
