use Rattle.std.proofs.Common.{◌≡◌, drop}
use Rattle.std.specs.Prelude.{if◌then◌else◌}
use Rattle.json.specs.Value.{members_view}
use Rattle.spa_text_forms.specs.Order.{are_places, has_place}
use Rattle.spa_text_forms.proofs.place.has_place.Given as goal

abbrev pub invariant-loop-member : goal.invariant-loop-member
invariant-loop-member l =
    let rest = members_view (drop l.member-index l.members) in
    (if l.found then are_places rest else has_place rest) ≡ has_place (members_view l.members)
