use Rattle.std.proofs.Common.{◌+◌, sym, ap, ◌∙◌, subst}
use Rattle.spa_format.specs.Tree.{property, no_properties, join_properties}
use Rattle.spa_value.specs.View.{view}
use Rattle.spa_value.specs.Views.{property_views}
use Rattle.spa_negotiate.specs.declared.negotiation.Settled.{Settled}
use Rattle.spa_negotiate.specs.PropertyLists.{AreSettled}
use Rattle.spa_negotiate.proofs.Steps.{firsts, first_seen, first_new, first_keys, first_refused}
use Rattle.spa_negotiate.proofs.negotiation.settle_first.Goals.{then-branch+in_ok-value+in_ok-push, else-branch}
use Rattle.spa_bytes.proofs.Passing.{passed_on}
use Rattle.spa_negotiate.proofs.negotiation.settle_first.Goals as goal

pub returns-in_err-value-clause-cause : goal.returns-in_err-value-clause-cause
returns-in_err-value-clause-cause c =
    let law = c.property_lists_are_in_order.ensures in
    let l = c.loop-property in
    let s : Settled = record { met = l.met; keys = l.keys } in
    passed_on _ _ _ c.from_residual-in_err-value.ensures.1
    (first_refused law.first law.cut c.args.a.now c.args.b.now.properties.now l.property-index c.property-item.result s
    _ _ c.in_ok-add_key.ensures c.loop-property-test.true c.property-item.is l.invariant
    c.if-branch.true _ c.in_err-value.ensures.cause)

pub loop-property-preserved : goal.loop-property-preserved
loop-property-preserved c =
    let law = c.property_lists_are_in_order.ensures in
    let ours = c.args.a.now in
    let theirs = c.args.b.now.properties.now in
    let l = c.loop-property in
    let i = l.property-index in
    let p = c.property-item.result in
    let s : Settled = record { met = l.met; keys = l.keys } in
    let added = c.in_ok-add_key.ensures in
    let more = c.loop-property-test.true in
    let is = c.property-item.is in
    let keys = first_keys law.first law.cut ours theirs i p s _ _ added more is l.invariant in
    elim c.if-branch.branch [
      | then-branch+in_ok-value+in_ok-push w ↦
          let x = w.in_ok-value in
          let plain = w.new-plain.ensures in
          let pushed =
          ap (λ v. property_views v.properties.items) w.met-is
          ∙ w.in_ok-push.ensures.pushed
          ∙ (λ i. join_properties (property_views l.met.properties.items)
          (property (plain.key i) (plain.flags i) (view (plain.value i)) no_properties)) in
          record {
            settles =
                first_new law.first law.cut ours theirs i p s _ _ added more is l.invariant w.if-branch.true
                c.if-branch.met.properties.items (view x.value) pushed x.ensures.met;
            keys = keys;
          }
      | else-branch w ↦
          let seen = first_seen law.first law.cut ours theirs i p s _ _ added more is l.invariant w.if-branch.false in
          record {
            settles =
                subst (λ v. AreSettled ours theirs (firsts ours (i + 1)) v.properties.items) (sym w.met-is) seen;
            keys = keys;
          }
    ]
