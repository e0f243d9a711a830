use Rattle.std.proofs.Common.{◌≡◌, drop}
use Rattle.json.specs.Value.{members_view}
use Rattle.spa_text_forms.specs.Order.{under}
use Rattle.spa_text_forms.proofs.order.under.Given as goal

abbrev pub invariant-loop-member : goal.invariant-loop-member
invariant-loop-member l = under l.name (members_view (drop l.member-index l.members)) ≡ under l.name (members_view l.members)
