use Rattle.std.proofs.Common.{◌≡◌, ◌+◌, ◌*◌, ◌<◌, ◌∷◌, length, drop, sym, ap, ◌∙◌, subst, arith, rules}
use Rattle.std.proofs.lemmas.List.{drop_more}
use Rattle.json.proofs.Trees.{item_smaller, member_smaller}
use Rattle.json.specs.Tree.{json_tokens, items_tokens, members_tokens, HasNumbers, ItemsHaveNumbers, MembersHaveNumbers}
use Rattle.json.specs.Value.{value_view, items_view, members_view}
use Rattle.spa_text_commands.proofs.params.+params.Goals as goal

pub put_items-put_value-requires : goal.put_items-put_value-requires
put_items-put_value-requires t c =
    let l = c.loop-item in
    let xs = c.args.items.now in
    let x = c.item-item.result in
    let here : drop l.item-index xs ≡ x ∷ drop (l.item-index + 1) xs = drop_more xs l.item-index x (omega arith) ∙ ap (λ y. y ∷ drop (l.item-index + 1) xs) (sym c.item-item.is) in
    let numbers : HasNumbers (value_view x) = (subst (λ ys. ItemsHaveNumbers (items_view ys)) here l.invariant.0).0 in
    let less : length (json_tokens (value_view x)) < length (items_tokens (items_view xs)) =
    subst (λ y. length (json_tokens (value_view y)) < length (items_tokens (items_view xs))) (sym c.item-item.is) (item_smaller xs l.item-index x (omega arith)) in
    let smaller : 4 * length (json_tokens (value_view x)) < 4 * length (items_tokens (items_view xs)) + 1 = omega (arith, less) in
    search rules

pub put_properties-put_value-requires : goal.put_properties-put_value-requires
put_properties-put_value-requires t c =
    let l = c.loop-member in
    let xs = c.args.members.now in
    let x = c.member-item.result in
    let here : drop l.member-index xs ≡ x ∷ drop (l.member-index + 1) xs = drop_more xs l.member-index x (omega arith) ∙ ap (λ y. y ∷ drop (l.member-index + 1) xs) (sym c.member-item.is) in
    let numbers : HasNumbers (value_view x.1) = (subst (λ ys. MembersHaveNumbers (members_view ys)) here l.invariant.0).0 in
    let less : length (json_tokens (value_view x.1)) < length (members_tokens (members_view xs)) =
    subst (λ y. length (json_tokens (value_view y.1)) < length (members_tokens (members_view xs))) (sym c.member-item.is) (member_smaller xs l.member-index x (omega arith)) in
    let smaller : 4 * length (json_tokens (value_view x.1)) < 4 * length (members_tokens (members_view xs)) + 1 = omega (arith, less) in
    search rules
