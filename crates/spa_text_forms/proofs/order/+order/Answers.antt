use Rattle.std.proofs.Common.{◌≡◌, ◌+◌, ◌*◌, ◌<◌, ◌∷◌, ◌++◌, length, drop, refl, sym, ap, ◌∙◌, subst, arith, rules}
use Rattle.std.proofs.lemmas.List.{drop_more}
use Rattle.std.proofs.lemmas.Result.{on_ok_weaker}
use Rattle.json.proofs.Trees.{item_smaller, member_smaller}
use Rattle.json.specs.Tree.{json_tokens, items_tokens, members_tokens, HasNumbers, ItemsHaveNumbers, MembersHaveNumbers}
use Rattle.json.specs.Value.{value_view, items_view, members_view}
use Rattle.spa_text_forms.specs.Order.{object_in, ordered, pieces, type_in}
use Rattle.spa_text_forms.proofs.Views.{object_is}
use Rattle.spa_text_forms.proofs.order.+order.Goals as goal

pub put-returns-in-Object-clause-ok : goal.put-returns-in-Object-clause-ok
put-returns-in-Object-clause-ok t c =
    on_ok_weaker c.put_object.result
    (λ e. e ∙ ap (λ ts. c.args.writer.now.tokens ++ ts)
    (object_is (ordered c.args.strictness c.args.place)
    (λ ms. object_in c.args.place (pieces c.args.strictness c.args.place (type_in ms) ms)) (λ ms. refl) c.args.value.now c.in-Object.members
    c.as_slice-in-Object.result.now c.in-Object.is c.as_slice-in-Object.ensures.value))
    c.put_object.ensures.ok

pub put_items-put-requires : goal.put_items-put-requires
put_items-put-requires t c =
    let l = c.loop-item in
    let xs = c.args.items.now in
    let x = c.item-item.result in
    let here : drop l.item-index xs ≡ x ∷ drop (l.item-index + 1) xs = drop_more xs l.item-index x (omega arith) ∙ ap (λ y. y ∷ drop (l.item-index + 1) xs) (sym c.item-item.is) in
    let numbers : HasNumbers (value_view x) = (subst (λ ys. ItemsHaveNumbers (items_view ys)) here l.invariant.1).0 in
    let less : length (json_tokens (value_view x)) < length (items_tokens (items_view xs)) =
    subst (λ y. length (json_tokens (value_view y)) < length (items_tokens (items_view xs))) (sym c.item-item.is) (item_smaller xs l.item-index x (omega arith)) in
    let smaller : 4 * length (json_tokens (value_view x)) < 4 * length (items_tokens (items_view xs)) + 1 = omega (arith, less) in
    search rules

pub put_rank-put-requires : goal.put_rank-put-requires
put_rank-put-requires t c =
    let l = c.loop-member in
    let xs = c.args.members.now in
    let x = c.member-item.result in
    let here : drop l.member-index xs ≡ x ∷ drop (l.member-index + 1) xs = drop_more xs l.member-index x (omega arith) ∙ ap (λ y. y ∷ drop (l.member-index + 1) xs) (sym c.member-item.is) in
    let numbers : HasNumbers (value_view x.1) = (subst (λ ys. MembersHaveNumbers (members_view ys)) here l.invariant.1).0 in
    let less : length (json_tokens (value_view x.1)) < length (members_tokens (members_view xs)) =
    subst (λ y. length (json_tokens (value_view y.1)) < length (members_tokens (members_view xs))) (sym c.member-item.is) (member_smaller xs l.member-index x (omega arith)) in
    let smaller : 4 * length (json_tokens (value_view x.1)) < 4 * length (members_tokens (members_view xs)) + 1 = omega (arith, less) in
    search rules
