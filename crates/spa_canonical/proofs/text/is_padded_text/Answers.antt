use Rattle.std.proofs.Common.{◌≡◌, ◌++◌, ◌∷◌, ◌∙◌, [], ap, rules}
use Rattle.spa_canonical.proofs.Texts.{end_of, its_text, text_ends_in_zeros, zeros_behind_text}
use Rattle.spa_canonical.proofs.text.is_padded_text.Goals as goal

pub returns-then-ends_in_zeros-clause-canonical : goal.returns-then-ends_in_zeros-clause-canonical
returns-then-ends_in_zeros-clause-canonical c = λ t.
    let e : c.args.body.now ≡ c.in-Some.text.now ++ c.in-Some.field-0-0.now ∷ [] = search rules in
    let zeros = zeros_behind_text _ _ _ _ (end_of _ _ _ _ e c.requires.front c.requires.room) (c.ends_in_zeros.ensures.zeros c.if-ends_in_zeros.true) in
    (c.in-Some.text.now, c.are_characters.ensures.text t, e ∙ ap (λ n. c.in-Some.text.now ++ n ∷ []) zeros.0)

pub returns-then-ends_in_zeros-clause-zeros : goal.returns-then-ends_in_zeros-clause-zeros
returns-then-ends_in_zeros-clause-zeros c = λ _.
    let e : c.args.body.now ≡ c.in-Some.text.now ++ c.in-Some.field-0-0.now ∷ [] = search rules in
    (zeros_behind_text _ _ _ _ (end_of _ _ _ _ e c.requires.front c.requires.room) (c.ends_in_zeros.ensures.zeros c.if-ends_in_zeros.true)).1

pub returns-else-ends_in_zeros-clause-found : goal.returns-else-ends_in_zeros-clause-found
returns-else-ends_in_zeros-clause-found c = λ z t.
    let e : c.args.body.now ≡ c.in-Some.text.now ++ c.in-Some.field-0-0.now ∷ [] = search rules in
    c.ends_in_zeros.ensures.found (text_ends_in_zeros _ _ _ _ (end_of _ _ _ _ e c.requires.front c.requires.room) (its_text _ _ _ e t).1 z)
