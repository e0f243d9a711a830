use Rattle.std.proofs.Common.{◌≡◌, ◌+◌, ◌*◌, drop, length}
use Rattle.json.specs.Tree.{items_tokens, json_tokens, members_tokens, ItemsHaveNumbers, MembersHaveNumbers}
use Rattle.json.specs.Value.{items_view, members_view, value_view}
use Rattle.spa_text_commands.proofs.params.+params.Given as goal

abbrev pub decreases-put_value : goal.decreases-put_value
decreases-put_value l = 4 * length (json_tokens (value_view l.value.now))

abbrev pub decreases-put_items : goal.decreases-put_items
decreases-put_items l = 4 * length (items_tokens (items_view l.items.now)) + 1

abbrev pub decreases-put_properties : goal.decreases-put_properties
decreases-put_properties l = 4 * length (members_tokens (members_view l.members.now)) + 1

abbrev pub decreases-put_values : goal.decreases-put_values
decreases-put_values l = 4 * length (members_tokens (members_view l.members.now)) + 1

abbrev pub decreases-put_members : goal.decreases-put_members
decreases-put_members l = 4 * length (members_tokens (members_view l.members.now)) + 2

abbrev pub invariant-put_items-loop-item : goal.invariant-put_items-loop-item
invariant-put_items-loop-item l =
    ItemsHaveNumbers (items_view (drop l.item-index l.items)) × (l.writer.before ≡ l.initial.writer.before)

abbrev pub invariant-put_properties-loop-member : goal.invariant-put_properties-loop-member
invariant-put_properties-loop-member l =
    MembersHaveNumbers (members_view (drop l.member-index l.members)) × (l.writer.before ≡ l.initial.writer.before)
