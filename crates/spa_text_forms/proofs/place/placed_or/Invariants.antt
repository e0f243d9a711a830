use Rattle.std.proofs.Common.{◌≡◌, drop}
use Rattle.json.specs.Tree.{MembersHaveNumbers}
use Rattle.json.specs.Value.{members_view}
use Rattle.spa_text_forms.specs.Order.{beside_place}
use Rattle.spa_text_forms.proofs.place.placed_or.Given as goal

abbrev pub invariant-loop-member : goal.invariant-loop-member
invariant-loop-member l =
    let rest = members_view (drop l.member-index l.members) in
    (beside_place rest ≡ beside_place (members_view l.members)) × (MembersHaveNumbers (members_view l.members) → MembersHaveNumbers rest)
