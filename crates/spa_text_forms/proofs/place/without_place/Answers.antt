use Rattle.std.proofs.Common.{◌∙◌, ap, sym, subst}
use Rattle.std.specs.Prelude.{unwrap_or}
use Rattle.json.proofs.Trees.{view-Object}
use Rattle.json.specs.Tree.{HasNumbers, MembersHaveNumbers}
use Rattle.json.specs.Value.{members_view, value_view}
use Rattle.spa_text_forms.specs.Order.{placed_in, without_place}
use Rattle.spa_text_forms.proofs.place.without_place.Goals as goal

pub returns-in-Object-clause-value : goal.returns-in-Object-clause-value
returns-in-Object-clause-value c =
    let is = ap value_view c.in-Object.is ∙ view-Object c.in-Object.members in
    c.placed_or.ensures.value ∙ ap (λ ms. unwrap_or (placed_in (members_view ms)) (value_view c.args.value.now)) c.as_slice.ensures.value
    ∙ ap (unwrap_or (placed_in (members_view c.in-Object.members.items))) is ∙ sym (ap without_place is)

pub returns-in-Object-clause-numbers : goal.returns-in-Object-clause-numbers
returns-in-Object-clause-numbers c = λ h.
    let is = ap value_view c.in-Object.is ∙ view-Object c.in-Object.members in
    c.placed_or.ensures.numbers (subst (λ ms. MembersHaveNumbers (members_view ms)) (sym c.as_slice.ensures.value) (subst HasNumbers is h)) h
