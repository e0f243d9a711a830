use Rattle.spa_value.proofs.ViewLaws.{property_views-append, property_views-push, property_views-take_more, property_views-at}
use Rattle.spa_value.proofs.laws.property_lists_are_in_order.Goals as goal

pub returns : goal.returns
returns c =
    record {
      joined = property_views-append;
      grown = property_views-push;
      first = property_views-take_more;
      cut = property_views-at;
    }
