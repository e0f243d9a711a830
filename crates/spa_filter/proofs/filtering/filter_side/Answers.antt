use Rattle.std.proofs.Common.{◌+◌, refl, sym, ap, ◌∙◌, subst}
use Rattle.spa_format.proofs.Sequences.{join_properties-none}
use Rattle.spa_value.specs.Views.{property_views}
use Rattle.spa_filter.specs.declared.filtering.Filtered.{Filtered}
use Rattle.spa_filter.specs.PropertyLists.{IsFiltered}
use Rattle.spa_filter.proofs.Steps.{these, key_found, seen, new, refused}
use Rattle.spa_filter.proofs.filtering.filter_side.Goals.{then-branch+in_ok-property+in_ok-push, else-branch}
use Rattle.spa_bytes.proofs.Passing.{passed_on}
use Rattle.spa_filter.proofs.filtering.filter_side.Goals as goal

pub loop-property-init : goal.loop-property-init
loop-property-init c =
    let ours = c.args.ours.now.properties.now in
    let theirs = c.args.theirs.now.properties.now in
    subst (λ these. IsFiltered ours theirs these c.args.filtered)
    (sym (join_properties-none (property_views c.args.before.now))) c.requires.filtered

pub filter_key-requires-clause-there : goal.filter_key-requires-clause-there
filter_key-requires-clause-there c =
    let law = c.property_lists_are_in_order.ensures in
    let l = c.loop-property in
    key_found law.first law.cut c.args.ours.now.properties.now c.args.theirs.now.properties.now c.args.before.now
    c.args.side.now c.requires.part l.property-index c.property-item.result c.loop-property-test.true c.property-item.is
    (record { met = l.met; keys = l.keys }) l.invariant _ _ c.in_ok-add_key.ensures c.if-branch.true

pub returns-in_err-property-clause-cause : goal.returns-in_err-property-clause-cause
returns-in_err-property-clause-cause c =
    let law = c.property_lists_are_in_order.ensures in
    let l = c.loop-property in
    passed_on _ _ _ c.from_residual-in_err-property.ensures.1
    (refused law.first law.cut c.args.ours.now.properties.now c.args.theirs.now.properties.now c.args.before.now
    c.args.side.now c.requires.part l.property-index c.property-item.result c.loop-property-test.true c.property-item.is
    (record { met = l.met; keys = l.keys }) l.invariant _ _ c.in_ok-add_key.ensures c.if-branch.true _
    c.in_err-property.ensures.cause)

pub loop-property-preserved : goal.loop-property-preserved
loop-property-preserved c =
    let law = c.property_lists_are_in_order.ensures in
    let ours = c.args.ours.now.properties.now in
    let theirs = c.args.theirs.now.properties.now in
    let before = c.args.before.now in
    let side = c.args.side.now in
    let part = c.requires.part in
    let l = c.loop-property in
    let i = l.property-index in
    let p = c.property-item.result in
    let more = c.loop-property-test.true in
    let is = c.property-item.is in
    let f : Filtered = record { met = l.met; keys = l.keys } in
    let keys = c.add_key.new.keys in
    let added = c.in_ok-add_key.ensures in
    let now : Filtered = record { met = c.if-branch.met; keys = keys } in
    elim c.if-branch.branch [
      | then-branch+in_ok-property+in_ok-push w ↦
          let q = w.in_ok-property in
          let pushed = ap (λ v. property_views v.properties.items) w.met-is ∙ w.in_ok-push.ensures.pushed in
          new law.first law.cut ours theirs before side part i p more is f l.invariant _ keys added w.if-branch.true
          q.property now q.ensures.key pushed refl q.ensures.filters q.ensures.agreed
      | else-branch w ↦
          subst (λ v. IsFiltered ours theirs (these before side (i + 1)) (record { met = v; keys = keys })) (sym w.met-is)
          (seen law.first law.cut ours theirs before side part i p more is f l.invariant _ keys added w.if-branch.false)
    ]
