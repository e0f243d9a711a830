use Rattle.std.proofs.Common.{◌≡◌, ◌==◌, Some, None, ap, sym, subst, ◌∙◌}
use Rattle.std.proofs.lemmas.List.Quantifiers.{position-Some}
use Rattle.std.specs.Prelude.{position}
use Rattle.std.specs.Cmp.{unsigned_Decides}
use Rattle.libspa.specs.Tree.{object}
use Rattle.libspa.specs.View.{object_view}
use Rattle.libspa.specs.Object.{out-Object}
use Rattle.libspa.specs.Property.{Property}
use Rattle.libspa.specs.Views.{property_views}
use Rattle.spa_names.specs.declared.keys.TheConstants.{PROP_VOLUME}
use Rattle.example_types.proofs.Controls.{of_other_volume, without_volume}
use Rattle.example_types.proofs.Lists.{at_cut, none_before, none_found, parted, with_key}
use Rattle.example_types.proofs.control.control_of.Goals as goal

pub returns-clause-made : goal.returns-clause-made
returns-clause-made c =
    let fields = out-Object c.args.object in
    let p = c.remove-value.result in
    let first = c.remove-value.ensures.value in
    let tail = c.in_ok-tail.ensures.tail in
    let place = subst (λ qs. position (λ (q : Property). q.key == PROP_VOLUME) qs ≡ Some c.in-Some.place) c.as_slice.ensures.value (sym c.in-Some.ensures) in
    let found = position-Some (λ (q : Property). q.key == PROP_VOLUME) fields.properties.items c.in-Some.place p place in
    let key = (unsigned_Decides p.key PROP_VOLUME).0 (ap (λ (q : Property). q.key == PROP_VOLUME) (at_cut fields.properties.items c.in_ok-tail.tail.items c.in-Some.place p tail first) ∙ found.1) in
    let list = parted _ _ _ _ _ p found.0 c.in_ok-tail.ensures.items tail first c.remove-value.ensures.items in
    record {
      tree =
          c.objects_are_their_fields.ensures.fields c.args.object
          ∙ ap (object fields.type_ fields.id)
          (ap property_views list ∙ c.property_lists_are_in_order.ensures.joined _ _ ∙ with_key _ _ p _ _ key c.in-Some-found.ensures.some);
      first = none_before fields.properties.items _ c.in-Some.place PROP_VOLUME c.in_ok-tail.ensures.items place;
    }

pub returns-in_default-clause-refused : goal.returns-in_default-clause-refused
returns-in_default-clause-refused c =
    let fields = out-Object c.args.object in
    let place = subst (λ qs. position (λ (q : Property). q.key == PROP_VOLUME) qs ≡ None) c.as_slice.ensures.value (sym c.in_default.ensures) in
    without_volume (object_view c.args.object) fields.type_ fields.id fields.properties.items
    (c.objects_are_their_fields.ensures.fields c.args.object) (none_found PROP_VOLUME fields.properties.items place)

pub returns-in_default-found-clause-refused : goal.returns-in_default-found-clause-refused
returns-in_default-found-clause-refused c =
    let fields = out-Object c.args.object in
    let p = c.remove-value.result in
    let first = c.remove-value.ensures.value in
    let tail = c.in_ok-tail.ensures.tail in
    let place = subst (λ qs. position (λ (q : Property). q.key == PROP_VOLUME) qs ≡ Some c.in-Some.place) c.as_slice.ensures.value (sym c.in-Some.ensures) in
    let found = position-Some (λ (q : Property). q.key == PROP_VOLUME) fields.properties.items c.in-Some.place p place in
    let key = (unsigned_Decides p.key PROP_VOLUME).0 (ap (λ (q : Property). q.key == PROP_VOLUME) (at_cut fields.properties.items c.in_ok-tail.tail.items c.in-Some.place p tail first) ∙ found.1) in
    let list = parted _ _ _ _ _ p found.0 c.in_ok-tail.ensures.items tail first c.remove-value.ensures.items in
    of_other_volume (object_view c.args.object) fields.type_ fields.id _ _ p
    (c.objects_are_their_fields.ensures.fields c.args.object ∙ ap (λ qs. object fields.type_ fields.id (property_views qs)) list)
    (none_before fields.properties.items _ c.in-Some.place PROP_VOLUME c.in_ok-tail.ensures.items place) key
    c.in_default-found.ensures.none
