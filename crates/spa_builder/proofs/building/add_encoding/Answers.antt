use Rattle.std.proofs.Common.{◌++◌, ap, sym, ◌∙◌}
use Rattle.spa_builder.specs.Fields.{fields_of}
use Rattle.spa_builder.proofs.Steps.{has_its_room, is_nomem}
use Rattle.spa_builder.proofs.Placing.{exactly, not_admitted, admitted_nomem, admitted}
use Rattle.spa_builder.proofs.building.add_encoding.Goals as goal

pub admit-requires : goal.admit-requires
admit-requires c = has_its_room (fields_of c.args.bytes.now c.args.frames.now) _ c.requires.holds c.len.ensures

pub returns-in_err-admit : goal.returns-in_err-admit
returns-in_err-admit c s v at k b n =
    not_admitted s v _ _ _ _ _ c.from_residual.ensures.1 at (exactly (sym k)) n c.len.ensures c.in_err-admit.ensures

pub returns-in_err-append : goal.returns-in_err-append
returns-in_err-append c s v at k b n =
    admitted_nomem s v _ _ _ _ _ _ at (exactly (sym k)) c.len.ensures c.in_ok-admit.ensures
    (is_nomem _ _ c.from_residual-in_err-append.ensures.1 c.in_err-append.ensures.memory)
    (ap (λ l. fields_of l c.args.frames.now) c.in_err-append.ensures.unchanged)

pub returns : goal.returns
returns c s v at k b n =
    admitted s v _ (fields_of c.append.new.self c.fill.new.frames) _ _ _ _ _ at (exactly (sym k)) c.len.ensures c.in_ok-admit.ensures
    (c.in_ok-append.ensures.ok ∙ ap (λ l. c.args.bytes.now ++ l) (sym b)) c.fill.ensures c.innermost-innermost.ensures.last
