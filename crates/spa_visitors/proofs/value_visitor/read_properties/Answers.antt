use Rattle.std.proofs.Common.{◌≡◌, [], ◌∷◌, ◌++◌, rules, sym, ap, subst, ◌∙◌}
use Rattle.spa_value.specs.View.{view}
use Rattle.spa_value.specs.declared.object.Property.{Property}
use Rattle.spa_value.specs.Views.{property_views}
use Rattle.spa_value.proofs.ViewLaws.{property_views-push}
use Rattle.spa_typed_read.proofs.Stepping.{TookIn, failed_further_in, further_in_trans, no_room_for_property, properties_refused, took_property, took_further_in, took_none_in}
use Rattle.spa_visitors.proofs.value_visitor.read_properties.Goals as goal

pub returns-then-is_err-clause-same : goal.returns-then-is_err-clause-same
returns-then-is_err-clause-same c =
    further_in_trans _ _ _ (took_further_in _ _ _ c.loop-value.invariant.took) c.deserialize_property.ensures.same

pub loop-value-preserved : goal.loop-value-preserved
loop-value-preserved c =
    let p : Property = record { key = c.in-Ok-Some.key; flags = c.in-Ok-Some.flags; value = c.in-Ok-Some.value } in
    let pushed : c.push_reserved.new.self.items ≡ c.loop-value.properties.items ++ p ∷ [] = search rules in
    let taken = rw c.in-Ok-Some.field-0-is at c.in-Ok-Some.ensures.property in
    record {
      took =
          subst (λ ws. TookIn c.args.reader.now c.deserialize_property.new.self ws)
          (sym (ap property_views pushed ∙ property_views-push c.loop-value.properties.items p))
          (took_property _ _ _ _ c.in-Ok-Some.key c.in-Ok-Some.flags.0 (view c.in-Ok-Some.value) c.loop-value.invariant.took
          taken);
      good = λ h. taken.good;
    }

pub loop-value-init : goal.loop-value-init
loop-value-init c =
    let r = c.args.reader.now in
    record { took = subst (λ ps. TookIn r r (property_views ps)) (sym c.new-properties.ensures.items) (took_none_in r); good = λ h. h }

pub returns-in-Err-clause-same : goal.returns-in-Err-clause-same
returns-in-Err-clause-same c =
    further_in_trans _ _ _ (took_further_in _ _ _ c.loop-value.invariant.took) c.deserialize_property.ensures.same

pub returns-in-Err-clause-refused : goal.returns-in-Err-clause-refused
returns-in-Err-clause-refused c =
    let i = c.loop-value.invariant in
    let f = took_further_in _ _ _ i.took in
    record {
      stays = λ failed. c.in-Err.ensures.stays (failed_further_in _ _ f failed);
      refused = λ good.
          properties_refused _ c.loop-value.reader c.in-Err.why f (i.good good)
          (λ left. cc (c.in-Err.ensures.ends (record { good = i.good good; none_left = left })))
          (λ short.
          c.in-Err.ensures.short (i.good good) (λ left. cc (c.in-Err.ensures.ends (record { good = i.good good; none_left = left })))
          short) (λ long. c.in-Err.ensures.refused (i.good good) long);
    }

pub returns-then-is_err-clause-refused : goal.returns-then-is_err-clause-refused
returns-then-is_err-clause-refused c =
    let taken = rw c.in-Ok-Some.field-0-is at c.in-Ok-Some.ensures.property in
    let f = took_further_in _ _ _ c.loop-value.invariant.took in
    record {
      stays = λ failed. absurd (cc (taken.was_good, failed_further_in _ _ f failed));
      refused = λ good. no_room_for_property _ _ _ _ _ _ f taken;
    }
