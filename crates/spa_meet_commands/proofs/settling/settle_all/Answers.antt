use Rattle.std.proofs.Common.{ap, length, nat_eq, sym, true≢false, ◌∙◌}
use Rattle.std.proofs.lemmas.Bool.{eqb-true}
use Rattle.std.proofs.lemmas.List.{nil_from_length}
use Rattle.spa_meet_commands.proofs.Settled.{all_settled, next_begins, one_more}
use Rattle.spa_meet_commands.proofs.settling.settle_all.Goals as goal

pub add_front-requires : goal.add_front-requires
add_front-requires c =
    next_begins c.args.pods.now c.loop-left.left.now c.loop-left.out.items c.loop-left.invariant
    (λ e. true≢false (sym (ap (λ z. nat_eq (length z) 0) e) ∙ sym c.is_empty.ensures ∙ c.loop-left-test.true))

pub loop-left-preserved : goal.loop-left-preserved
loop-left-preserved c =
    one_more c.args.pods.now c.loop-left.left.now c.in_ok-rest.rest.now c.loop-left.out.items c.add_front.new.out.items c.loop-left.invariant
    c.in_ok-rest.ensures.added c.in_ok-rest.ensures.rest

pub returns : goal.returns
returns c =
    all_settled c.args.pods.now c.loop-left.left.now c.loop-left.out.items c.loop-left.invariant
    (nil_from_length _ (eqb-true _ _ (sym c.is_empty.ensures ∙ c.loop-left-test.false)))
