use Rattle.std.proofs.Common.{◌+◌, sym, ap, ◌∙◌, subst}
use Rattle.std.proofs.lemmas.List.{take_all}
use Rattle.spa_format.specs.Tree.{property, no_properties, join_properties}
use Rattle.spa_format.proofs.Sequences.{join_properties-none}
use Rattle.spa_value.specs.View.{view}
use Rattle.spa_value.specs.Views.{property_views}
use Rattle.spa_negotiate.specs.declared.negotiation.Settled.{Settled}
use Rattle.spa_negotiate.specs.PropertyLists.{AreSettled, IsSettled}
use Rattle.spa_negotiate.proofs.Steps.{others, other_seen, other_new, other_keys}
use Rattle.spa_negotiate.proofs.negotiation.settle_rest.Goals.{then-branch+in_ok-value+in_ok-push, else-branch}
use Rattle.spa_negotiate.proofs.negotiation.settle_rest.Goals as goal

pub loop-property-init : goal.loop-property-init
loop-property-init c = λ ours begun.
    subst (λ these. IsSettled ours c.args.b.now these c.args.first) (sym (join_properties-none (property_views ours))) begun

pub loop-property-preserved : goal.loop-property-preserved
loop-property-preserved c = λ ours begun.
    let law = c.property_lists_are_in_order.ensures in
    let theirs = c.args.b.now in
    let l = c.loop-property in
    let i = l.property-index in
    let p = c.property-item.result in
    let s : Settled = record { met = l.met; keys = l.keys } in
    let settled = l.invariant ours begun in
    let added = c.in_ok-add_key.ensures in
    let more = c.loop-property-test.true in
    let is = c.property-item.is in
    let keys = other_keys law.first law.cut ours theirs i p s _ _ added more is settled in
    elim c.if-branch.branch [
      | then-branch+in_ok-value+in_ok-push w ↦
          let x = w.in_ok-value in
          let plain = w.new-alone.ensures in
          let pushed =
          ap (λ v. property_views v.properties.items) w.met-is
          ∙ w.in_ok-push.ensures.pushed
          ∙ (λ i. join_properties (property_views l.met.properties.items)
          (property (plain.key i) (plain.flags i) (view (plain.value i)) no_properties)) in
          record {
            settles =
                other_new law.first law.cut ours theirs i p s _ _ added more is settled w.if-branch.true
                c.if-branch.met.properties.items (view x.value) pushed x.ensures;
            keys = keys;
          }
      | else-branch w ↦
          let seen = other_seen law.first law.cut ours theirs i p s _ _ added more is settled w.if-branch.false in
          record {
            settles =
                subst (λ v. AreSettled ours theirs (others ours theirs (i + 1)) v.properties.items) (sym w.met-is)
                seen;
            keys = keys;
          }
    ]

pub returns : goal.returns
returns c = λ ours begun.
    let theirs = c.args.b.now in
    let met = c.loop-property.met.properties in
    let all = take_all c.loop-property.property-index theirs c.loop-property-test.false in
    let settled : AreSettled ours theirs (join_properties (property_views ours) (property_views theirs)) met.items =
    subst (λ z. AreSettled ours theirs (join_properties (property_views ours) (property_views z)) met.items) all
    (c.loop-property.invariant ours begun).settles in
    subst (λ v. AreSettled ours theirs (join_properties (property_views ours) (property_views theirs)) v.items)
    (sym c.into_properties.ensures) settled
