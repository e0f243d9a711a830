use Rattle.std.proofs.Common.{◌≡◌, ◌++◌, ◌+◌, ◌*◌, drop, length}
use Rattle.json.specs.Tree.{items_tokens, json_tokens, members_tokens, ItemsHaveNumbers, MembersHaveNumbers}
use Rattle.json.specs.Value.{items_view, members_view, value_view}
use Rattle.spa_text_forms.specs.Order.{at_rank, below, items_in, pieces, rank_in}
use Rattle.spa_text_forms.proofs.order.+order.Given as goal

abbrev pub decreases-put : goal.decreases-put
decreases-put l = 4 * length (json_tokens (value_view l.value.now))

abbrev pub decreases-put_list : goal.decreases-put_list
decreases-put_list l = 4 * length (items_tokens (items_view l.items.now)) + 2

abbrev pub decreases-put_items : goal.decreases-put_items
decreases-put_items l = 4 * length (items_tokens (items_view l.items.now)) + 1

abbrev pub decreases-put_object : goal.decreases-put_object
decreases-put_object l = 4 * length (members_tokens (members_view l.members.now)) + 2

abbrev pub decreases-put_rank : goal.decreases-put_rank
decreases-put_rank l = 4 * length (members_tokens (members_view l.members.now)) + 1

abbrev pub invariant-put_items-loop-item : goal.invariant-put_items-loop-item
invariant-put_items-loop-item l =
    let rest = items_view (drop l.item-index l.items) in
    (l.writer.tokens ++ items_in l.strictness rest ≡ l.initial.writer.tokens ++ items_in l.strictness (items_view l.items)) × ItemsHaveNumbers rest
    × (l.writer.before ≡ l.initial.writer.before)

abbrev pub invariant-put_object-loop-rank : goal.invariant-put_object-loop-rank
invariant-put_object-loop-rank l =
    (l.writer.tokens ≡ l.initial.writer.tokens ++ below (rank_in l.place) l.rank (pieces l.strictness l.place l.type_ (members_view l.members)))
    × (l.writer.before ≡ l.initial.writer.before)

abbrev pub invariant-put_rank-loop-member : goal.invariant-put_rank-loop-member
invariant-put_rank-loop-member l =
    let rest = members_view (drop l.member-index l.members) in
    (l.writer.tokens ++ at_rank (rank_in l.place) l.rank (pieces l.strictness l.place l.type_ rest)
    ≡ l.initial.writer.tokens ++ at_rank (rank_in l.place) l.rank (pieces l.strictness l.place l.type_ (members_view l.members)))
    × MembersHaveNumbers rest × (l.writer.before ≡ l.initial.writer.before)
