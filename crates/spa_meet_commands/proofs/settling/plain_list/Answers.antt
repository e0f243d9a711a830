use Rattle.std.proofs.Common.{sym, take, ap, ◌∙◌}
use Rattle.spa_format.specs.Tree.{join_properties, property, no_properties}
use Rattle.spa_value.specs.View.{view}
use Rattle.spa_value.specs.Views.{property_views, property_view}
use Rattle.spa_meet_commands.specs.Settling.{plain_properties}
use Rattle.spa_meet_commands.proofs.Settled.{plain_join}
use Rattle.spa_meet_commands.proofs.settling.plain_list.Goals as goal

pub loop-property-preserved : goal.loop-property-preserved
loop-property-preserved c =
    let law = c.property_lists_are_in_order.ensures in
    let l = c.loop-property in
    let p = c.property-item.result in
    let x = c.in_ok-value in
    let before = property_views (take l.property-index c.args.properties.now) in
    let pushed = c.in_ok-push.ensures.pushed in
    let one = ap (λ v. property p.key p.flags.0 v no_properties) x.ensures in
    let both = ap (λ ms. join_properties ms (property p.key p.flags.0 (view x.value) no_properties)) l.invariant in
    let more = ap plain_properties (law.first c.args.properties.now l.property-index p c.loop-property-test.true c.property-item.is) in
    pushed ∙ both ∙ ap (join_properties (plain_properties before)) one ∙ sym (plain_join before (property_view p)) ∙ sym more
