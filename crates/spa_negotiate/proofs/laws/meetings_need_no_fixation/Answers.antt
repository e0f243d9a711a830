use Rattle.spa_negotiate.proofs.Fronts.{settled-both}
use Rattle.spa_negotiate.proofs.laws.meetings_need_no_fixation.Goals as goal

pub returns : goal.returns
returns c a b bytes =
    settled-both a b bytes c.meetings_are_plain.ensures.settled c.walks_find_members.ensures.of_object
    c.settled_properties_are_settled.ensures
