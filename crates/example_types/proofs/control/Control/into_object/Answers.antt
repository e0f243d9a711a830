use Rattle.std.proofs.Common.{ap, ◌∙◌}
use Rattle.libspa.specs.Tree.{object}
use Rattle.libspa.specs.Views.{property_views}
use Rattle.example_types.proofs.Lists.{put_back}
use Rattle.example_types.proofs.control.Control.into_object.Goals as goal

pub returns : goal.returns
returns c =
    let all = put_back _ _ _ _ _ c.in_ok-push.ensures.items c.in_ok-append.ensures.items in
    c.objects_are_their_fields.ensures.made _ _ _
    ∙ ap (object c.args.self.type_ c.args.self.id) (ap property_views (c.into_properties.ensures ∙ all) ∙ c.property_lists_are_in_order.ensures.joined _ _)
