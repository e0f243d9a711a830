use Rattle.std.proofs.Common.{◌≡◌, ◌+◌, ◌*◌, ◌<◌, ◌∷◌, ◌++◌, length, drop, refl, sym, ap, ◌∙◌, subst, arith, rules}
use Rattle.std.proofs.lemmas.List.{drop_more}
use Rattle.std.proofs.lemmas.Result.{on_ok_weaker}
use Rattle.json.proofs.Trees.{member_smaller}
use Rattle.json.specs.Json.{object}
use Rattle.json.specs.Tree.{json_tokens, members_tokens, HasNumbers, MembersHaveNumbers}
use Rattle.json.specs.Value.{value_view, members_view}
use Rattle.spa_text_forms.specs.Dump.{dumped}
use Rattle.spa_text_forms.proofs.Views.{object_is}
use Rattle.spa_text_forms.proofs.dump.+dump.Goals as goal

pub put_value-returns-in-Object-clause-ok : goal.put_value-returns-in-Object-clause-ok
put_value-returns-in-Object-clause-ok t c =
    on_ok_weaker c.put_members.result
    (λ e. e ∙ ap (λ ts. c.args.writer.now.tokens ++ ts)
    (object_is (dumped c.args.wanted) (λ ms. dumped c.args.wanted (object ms)) (λ ms. refl) c.args.value.now c.in-Object.members c.as_slice.result.now
    c.in-Object.is c.as_slice.ensures.value))
    c.put_members.ensures.ok

pub put_properties-put_value-requires : goal.put_properties-put_value-requires
put_properties-put_value-requires t c =
    let l = c.loop-member in
    let xs = c.args.members.now in
    let x = c.member-item.result in
    let here : drop l.member-index xs ≡ x ∷ drop (l.member-index + 1) xs = drop_more xs l.member-index x (omega arith) ∙ ap (λ y. y ∷ drop (l.member-index + 1) xs) (sym c.member-item.is) in
    let numbers : HasNumbers (value_view x.1) = (subst (λ ys. MembersHaveNumbers (members_view ys)) here l.invariant.1).0 in
    let less : length (json_tokens (value_view x.1)) < length (members_tokens (members_view xs)) =
    subst (λ y. length (json_tokens (value_view y.1)) < length (members_tokens (members_view xs))) (sym c.member-item.is) (member_smaller xs l.member-index x (omega arith)) in
    let smaller : 3 * length (json_tokens (value_view x.1)) < 3 * length (members_tokens (members_view xs)) + 1 = omega (arith, less) in
    search rules
