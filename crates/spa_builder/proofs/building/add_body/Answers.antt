use Rattle.std.proofs.Common.{◌++◌, length, ap, sym, ◌∙◌, arith, length-append}
use Rattle.spa_format.specs.Encoding.{encoded_pod}
use Rattle.spa_format.specs.Tree.{type_of}
use Rattle.spa_builder.specs.Fields.{fields_of}
use Rattle.spa_builder.proofs.Steps.{has_its_room, is_nomem}
use Rattle.spa_builder.proofs.Placing.{IsSizeOf, not_admitted, admitted_nomem, admitted}
use Rattle.spa_builder.proofs.building.add_body.Goals as goal

pub admit-requires : goal.admit-requires
admit-requires c = has_its_room (fields_of c.args.bytes.now c.args.frames.now) _ c.requires.holds c.len.ensures

pub returns-in_err-admit : goal.returns-in_err-admit
returns-in_err-admit c s v at k b n =
    let l = ap length b ∙ length-append c.args.front.now c.args.back.now in
    let m = c.saturating_add-size.ensures in
    let size : IsSizeOf c.saturating_add-size.result v = record { exact = λ x. omega arith; large = λ x. omega arith } in
    not_admitted s v _ _ _ _ _ c.from_residual.ensures.1 at size n c.len.ensures c.in_err-admit.ensures

pub returns-in_err-put_pod : goal.returns-in_err-put_pod
returns-in_err-put_pod c s v at k b n =
    let l = ap length b ∙ length-append c.args.front.now c.args.back.now in
    let m = c.saturating_add-size.ensures in
    let size : IsSizeOf c.saturating_add-size.result v = record { exact = λ x. omega arith; large = λ x. omega arith } in
    admitted_nomem s v _ _ _ _ _ _ at size c.len.ensures c.in_ok-admit.ensures
    (is_nomem _ _ c.from_residual-in_err-put_pod.ensures.1 c.in_err-put_pod.ensures.memory)
    (ap (λ l. fields_of l c.args.frames.now) c.in_err-put_pod.ensures.unchanged)

pub returns : goal.returns
returns c s v at k b n =
    let l = ap length b ∙ length-append c.args.front.now c.args.back.now in
    let m = c.saturating_add-size.ensures in
    let size : IsSizeOf c.saturating_add-size.result v = record { exact = λ x. omega arith; large = λ x. omega arith } in
    admitted s v _ (fields_of c.put_pod.new.bytes c.fill.new.frames) _ _ _ _ _ at size c.len.ensures c.in_ok-admit.ensures
    (c.in_ok-put_pod.ensures.ok
    ∙ ap (λ t. c.args.bytes.now ++ encoded_pod t (c.args.front.now ++ c.args.back.now)) (sym k)
    ∙ ap (λ l. c.args.bytes.now ++ encoded_pod (type_of v) l) (sym b)) c.fill.ensures c.innermost-innermost.ensures.last
